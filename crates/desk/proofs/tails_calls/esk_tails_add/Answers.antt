-- What is answered and left, by what the look found and whether the list is the board's.
use mathlib.Core.Path.{◌≡◌, ◌∙◌, ap}
use mathlib.Core.Bool.{Bool}
use Rattle.board.specs.Lent.{on_area}
use Rattle.board.specs.Inner.{add_move}
use Rattle.board.proofs.Called.{add_is, add-slots}
use Rattle.board.specs.Board.{Move}
use Rattle.board.specs.Inner.{Wanted, done_of}
use Rattle.board.specs.declared.Findings.{Findings}
use Rattle.tails.specs.Calls.{add_listed}
use Rattle.tails.specs.Inner.{is_list_in, held_to}
use Rattle.desk.specs.Waiting.{relisted_by}
use Rattle.desk.proofs.Listed.{listed-move, listed_says, no_add}
use Rattle.desk.proofs.tails_calls.esk_tails_add.Goals as goal

pub returns : goal.returns
unfolding add_listed
returns c =
    let a = c.args in
    let w = c.wanted-w.result in
    let k = c.keys_of-k.result in
    let v = c.look_over.result in
    let done = c.place_text-done in
    let fits = c.is_list_of-fits.ensures in
    let held : c.held_to-v.result ≡ held_to v (is_list_in k a.list.now) = c.held_to-v.ensures ∙ ap (held_to v) fits in
    let moved : Findings → Wanted → Move = λ (x : Findings) (y : Wanted). add_move x y a.area.now a.text.now in
    let es = done.ensures.0 ∙ ap (λ (x : Findings). done_of w (moved x w)) held in
    let el = c.relist_by.ensures ∙ ap (λ (t : Bool). relisted_by k a.list.now t done.result) fits in
    let is = listed-move a.slots.now a.area.now a.list.now a.designator.now w k v done.result c.store.new.slots c.relist_by.new.list moved _
    (no_add a.area.now a.text.now) (add_is a.area.now a.slots.now a.designator.now a.text.now) (add-slots a.area.now a.slots.now a.designator.now a.text.now) c.wanted-w.ensures c.keys_of-k.ensures c.look_over.ensures es el c.store.ensures in
    let said = listed_says a.slots.now a.area.now a.list.now a.designator.now w k v done.result c.store.new.slots c.relist_by.new.list moved _
    (no_add a.area.now a.text.now) (add_is a.area.now a.slots.now a.designator.now a.text.now) (add-slots a.area.now a.slots.now a.designator.now a.text.now) c.wanted-w.ensures c.keys_of-k.ensures c.look_over.ensures es el c.store.ensures in
    let left = done.ensures.1 ∙ ap (λ (x : Findings). on_area (moved x w) a.area.now) held ∙ ap (λ (m : Move). on_area m a.area.now) is in
    (c.stored_answer.ensures ∙ said.0, said.1, left, said.2)
