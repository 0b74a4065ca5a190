use mathlib.Core.Path.{sym, ◌∙◌}
use Rattle.command.proofs.Reached.{reached_on}
use Rattle.command.proofs.check.check_sections.Goals as goal

pub loop-k-preserved : goal.loop-k-preserved
loop-k-preserved c =
    reached_on _ c.loop-k.k c.loop-k.at _ c.loop-k.auto.k c.loop-k-test.true c.loop-k.invariant _ (sym c.section_seen.ensures ∙ c.in_ok-at.was)
