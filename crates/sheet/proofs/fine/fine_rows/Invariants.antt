use Prim.Native.Nat.{◌-◌, ◌*◌, ◌≤◌}
use mathlib.Core.Path.{◌≡◌}
use Rattle.sheet.specs.Layout.{cell_at}
use Rattle.sheet.specs.Sheet.{each, check_cell}
use Rattle.sheet.proofs.fine.fine_rows.Given as goal
use Rattle.std.specs.Prelude.{Ok}

abbrev pub invariant-loop-row : goal.invariant-loop-row
invariant-loop-row l = (l.row ≤ 10) × (each (λ k. check_cell l.s (cell_at k)) 67 (10 * l.row) ≡ (Ok tt))

abbrev pub decreases-loop-row : goal.decreases-loop-row
decreases-loop-row l = 10 - l.row
