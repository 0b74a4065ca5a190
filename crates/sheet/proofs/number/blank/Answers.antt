use native.Mathlib.Omega.{arith}
use Rattle.sheet.proofs.Scan.{blank_turn, blank_stop, blank_end}
use lib.ListN.{length-set}
use mathlib.Core.Path.{sym, ◌∙◌}
use Rattle.sheet.proofs.number.blank.Goals as goal

pub returns-then-d-i-ne48 : goal.returns-then-d-i-ne48
returns-then-d-i-ne48 c = let l = c.loop-i in sym (l.invariant.2 ∙ blank_stop l.d l.i c.loop-i-test.true c.if-d-i-ne48.true)

pub loop-i-preserved : goal.loop-i-preserved
loop-i-preserved c =
    let l = c.loop-i in
    (rw (length-set l.d l.i 32) (omega arith), length-set l.d l.i 32 ∙ l.invariant.1, l.invariant.2 ∙ blank_turn l.d l.i c.loop-i-test.true c.if-d-i-ne48.false)

pub returns : goal.returns
returns c = let l = c.loop-i in sym (l.invariant.2 ∙ blank_end l.d l.i (omega (arith, c.loop-i-test.false)))
