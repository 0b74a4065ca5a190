-- `journal::remove::drop_last` meets its contract. The loop's invariant: what is kept so far and the walk over the rest are the whole walk.
use mathlib.Core.Path.{◌≡◌}
use Rattle.journal.specs.Journal.{walk}
use Rattle.journal.specs.Inner.{kept_at}
use Rattle.journal.proofs.remove.drop_last.Given as goal

abbrev pub invariant-loop-entry : goal.invariant-loop-entry
invariant-loop-entry l =
    walk kept_at l.journal l.end (record { wanted = l.count; end = l.end }) ≡ walk kept_at l.journal l.here l.kept

abbrev pub decreases-loop-entry : goal.decreases-loop-entry
decreases-loop-entry l = l.here
