-- `journal::print::put_lines` meets its contract. The loop's invariant: some lines stand over the start, and the walk over the rest goes on from them.
use mathlib.Core.Path.{◌≡◌}
use mathlib.Core.List.{List, []}
use Prim.Native.Nat.{ℕ}
use lib.ListN.{length}
use Rattle.text.specs.Over.{over}
use Rattle.journal.specs.Journal.{walk}
use Rattle.journal.specs.Inner.{with_line}
use Rattle.journal.proofs.print.put_lines.Given as goal

abbrev pub invariant-loop-entry : goal.invariant-loop-entry
invariant-loop-entry l =
    (lines : List ℕ) × (l.written ≡ length lines) × (l.out ≡ over l.initial.out 0 lines) × (walk (with_line l.journal) l.journal l.end [] ≡ walk (with_line l.journal) l.journal l.here lines)
    × (length l.out ≡ length l.initial.out)

abbrev pub decreases-loop-entry : goal.decreases-loop-entry
decreases-loop-entry l = l.here
