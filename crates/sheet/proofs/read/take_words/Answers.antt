use native.Mathlib.Omega.{arith}
use Rattle.sheet.proofs.Filled.{filled_none, filled_turn}
use Rattle.sheet.proofs.read.take_words.Goals as goal

pub loop-i-init : goal.loop-i-init
loop-i-init c = filled_none _ _ _

pub loop-i-preserved : goal.loop-i-preserved
loop-i-preserved c =
    let l = c.loop-i in
    filled_turn _ _ _ l.words l.i _ l.invariant (omega (arith, l.invariant.long)) c.word_at.ensures
