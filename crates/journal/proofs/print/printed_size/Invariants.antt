-- `journal::print::printed_size` meets its contract. The loop's invariant: what was added up so far and the walk over the rest are the whole walk.
use mathlib.Core.Path.{◌≡◌}
use Prim.Native.Nat.{◌-◌, ◌*◌, ◌≤◌}
use Rattle.journal.specs.Journal.{walk}
use Rattle.journal.specs.Inner.{with_size}
use Rattle.journal.proofs.print.printed_size.Given as goal

abbrev pub invariant-loop-entry : goal.invariant-loop-entry
invariant-loop-entry l =
    (l.size ≤ 2 * (65535 - l.here)) × (walk (with_size l.journal) l.journal l.end 0 ≡ walk (with_size l.journal) l.journal l.here l.size)

abbrev pub decreases-loop-entry : goal.decreases-loop-entry
decreases-loop-entry l = l.here
