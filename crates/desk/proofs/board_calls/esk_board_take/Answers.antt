-- What is answered and left, by what the one look found.
use mathlib.Core.Path.{◌∙◌, ap}
use lib.ListN.{length}
use Rattle.board.specs.Lent.{on_out}
use Rattle.board.specs.Inner.{take_move}
use Rattle.board.proofs.Called.{take-is, take-slots}
use Rattle.board.specs.Board.{Move}
use Rattle.board.specs.Inner.{Wanted}
use Rattle.board.specs.declared.Findings.{Findings}
use Rattle.desk.proofs.Waited.{move_is, says}
use Rattle.desk.proofs.board_calls.esk_board_take.Goals as goal

pub returns : goal.returns
returns c =
    let a = c.args in
    let done = c.hand_over-done in
    let moved : Findings → Wanted → Move = λ (x : Findings) (y : Wanted). take_move x y a.area.now (length a.out.now) in
    let is = move_is a.slots.now a.area.now a.designator.now c.wanted-w.result c.look_over-v.result done.result c.store.new.slots moved _
    (take-is a.area.now a.slots.now a.designator.now (length a.out.now)) (take-slots a.area.now a.slots.now a.designator.now (length a.out.now)) c.wanted-w.ensures c.look_over-v.ensures done.ensures.0 c.store.ensures in
    let said = says a.slots.now a.area.now a.designator.now c.wanted-w.result c.look_over-v.result done.result c.store.new.slots moved _
    (take-is a.area.now a.slots.now a.designator.now (length a.out.now)) (take-slots a.area.now a.slots.now a.designator.now (length a.out.now)) c.wanted-w.ensures c.look_over-v.ensures done.ensures.0 c.store.ensures in
    (c.stored_answer.ensures ∙ said.0, said.1, done.ensures.1 ∙ ap (λ (m : Move). on_out m a.out.now) is)
