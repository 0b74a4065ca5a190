-- `section::numbers::numbers_at` meets its contract. The loop's invariant: the first i numbers are read.
use mathlib.Core.Path.{◌≡◌}
use Rattle.section.specs.Layout.{table_of}
use Rattle.section.proofs.ByRow.{Taken}
use Rattle.section.proofs.numbers.numbers_at.Given as goal

abbrev pub invariant-loop-i : goal.invariant-loop-i
invariant-loop-i l = record { rows : l.row-items ≡ (table_of l.k).rows; taken : Taken l.row-items l.s l.at l.numbers l.p l.i }
