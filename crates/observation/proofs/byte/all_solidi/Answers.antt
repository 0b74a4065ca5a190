use mathlib.Core.Path.{sym, ◌∙◌}
use Rattle.observation.proofs.Solidi.{gather_turn, gather_end}
use Rattle.observation.proofs.byte.all_solidi.Goals as goal

pub loop-b-preserved : goal.loop-b-preserved
loop-b-preserved c = c.loop-b.invariant ∙ gather_turn c.loop-b.fine _ c.loop-b.b-index c.loop-b-test.true

pub returns : goal.returns
returns c = sym (c.loop-b.invariant ∙ gather_end _ _ _ c.loop-b-test.false)
