use Rattle.std.proofs.Common.{take}
use Rattle.std.proofs.lemmas.List.{get_or_default}
use Rattle.board.specs.Lent.{no_slot}
use Rattle.board.proofs.Found.{apart_next, apart_end}
use Rattle.board.proofs.scan.alone.Goals as goal

pub loop-x-preserved : goal.loop-x-preserved
loop-x-preserved c =
    let l = c.loop-x in
    let ys = take c.until.result c.args.slots.now in
    apart_next c.args.s.designator ys l.x-index l.clear _ _ c.loop-x-test.true l.invariant (rw (get_or_default ys l.x-index _ no_slot c.loop-x-test.true) at c.apart-clear.ensures)

pub returns : goal.returns
returns c = apart_end _ _ _ _ _ c.loop-x-test.false c.loop-x.invariant
