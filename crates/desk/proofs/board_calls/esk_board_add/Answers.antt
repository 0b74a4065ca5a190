-- What is answered and left, by what the one look found.
use mathlib.Core.Path.{◌∙◌, ap}
use Rattle.board.specs.Lent.{on_area}
use Rattle.board.specs.Inner.{add_move}
use Rattle.board.proofs.Called.{add_is, add-slots}
use Rattle.board.specs.Board.{Move}
use Rattle.board.specs.Inner.{Wanted}
use Rattle.board.specs.declared.Findings.{Findings}
use Rattle.desk.proofs.Waited.{move_is, says}
use Rattle.desk.proofs.board_calls.esk_board_add.Goals as goal

pub returns : goal.returns
returns c =
    let a = c.args in
    let done = c.place_text-done in
    let moved : Findings → Wanted → Move = λ (x : Findings) (y : Wanted). add_move x y a.area.now a.text.now in
    let is = move_is a.slots.now a.area.now a.designator.now c.wanted-w.result c.look_over-v.result done.result c.store.new.slots moved _
    (add_is a.area.now a.slots.now a.designator.now a.text.now) (add-slots a.area.now a.slots.now a.designator.now a.text.now) c.wanted-w.ensures c.look_over-v.ensures done.ensures.0 c.store.ensures in
    let said = says a.slots.now a.area.now a.designator.now c.wanted-w.result c.look_over-v.result done.result c.store.new.slots moved _
    (add_is a.area.now a.slots.now a.designator.now a.text.now) (add-slots a.area.now a.slots.now a.designator.now a.text.now) c.wanted-w.ensures c.look_over-v.ensures done.ensures.0 c.store.ensures in
    (c.stored_answer.ensures ∙ said.0, said.1, done.ensures.1 ∙ ap (λ (m : Move). on_area m a.area.now) is)
