-- `command::check::check_sections` meets its contract. The loop's invariant: it is this section's turn.
use Rattle.command.specs.Inner.{Reached}
use Rattle.command.proofs.check.check_sections.Given as goal

abbrev pub invariant-loop-k : goal.invariant-loop-k
invariant-loop-k l = Reached l.s l.k l.at l.places
