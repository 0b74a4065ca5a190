use native.Mathlib.Omega.{arith}
use Rattle.sheet.proofs.Scan.{mark_turn, mark_stop, mark_end}
use mathlib.Core.Path.{sym, ◌∙◌}
use Rattle.sheet.proofs.number.mark.Goals as goal

pub returns-then-d-next-ne32 : goal.returns-then-d-next-ne32
returns-then-d-next-ne32 c = let l = c.loop-i in sym (l.invariant.2 ∙ mark_stop l.d l.i c.loop-i-test.true c.if-d-next-ne32.true)

pub loop-i-preserved : goal.loop-i-preserved
loop-i-preserved c =
    let l = c.loop-i in
    (omega arith, l.invariant.1, l.invariant.2 ∙ mark_turn l.d l.i c.loop-i-test.true c.if-d-next-ne32.false)

pub returns : goal.returns
returns c = let l = c.loop-i in sym (l.invariant.2 ∙ mark_end l.d l.i (omega (arith, c.loop-i-test.false)))
