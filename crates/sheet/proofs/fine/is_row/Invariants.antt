use mathlib.Core.Path.{◌≡◌}
use Rattle.sheet.specs.Layout.{cell_at}
use Rattle.sheet.specs.Sheet.{each, check_cell}
use Prim.Native.Nat.{◌+◌, ◌-◌, ◌*◌, ◌≤◌}
use Rattle.sheet.proofs.fine.is_row.Given as goal
use Rattle.std.specs.Prelude.{Ok}

abbrev pub invariant-loop-column : goal.invariant-loop-column
invariant-loop-column l = (l.column ≤ 5) × (each (λ k. check_cell l.s (cell_at k)) (67 + 10 * l.row) (2 * l.column) ≡ (Ok tt))

abbrev pub decreases-loop-column : goal.decreases-loop-column
decreases-loop-column l = 5 - l.column
