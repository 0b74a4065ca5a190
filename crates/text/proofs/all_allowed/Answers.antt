use mathlib.Core.Path.{sym, ◌∙◌}
use Rattle.text.proofs.Names.{gather_turn, gather_end}
use Rattle.text.proofs.all_allowed.Goals as goal

pub loop-b-preserved : goal.loop-b-preserved
loop-b-preserved c = c.loop-b.invariant ∙ rw c.is_allowed-fine.ensures (gather_turn c.loop-b.fine _ c.loop-b.b-index c.loop-b-test.true)

pub returns : goal.returns
returns c = sym (c.loop-b.invariant ∙ gather_end _ _ _ c.loop-b-test.false)
