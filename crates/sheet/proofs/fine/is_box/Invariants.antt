use mathlib.Core.Path.{◌≡◌}
use Rattle.sheet.specs.Layout.{cell_at}
use Rattle.sheet.specs.Sheet.{each, check_cell}
use Prim.Native.Nat.{◌+◌, ◌-◌, ◌*◌, ◌≤◌}
use Rattle.sheet.proofs.fine.is_box.Given as goal
use Rattle.std.specs.Prelude.{Ok}

abbrev pub invariant-loop-j : goal.invariant-loop-j
invariant-loop-j l = (l.j ≤ 4) × (each (λ k. check_cell l.s (cell_at k)) (17 + 5 * l.i) l.j ≡ (Ok tt))

abbrev pub decreases-loop-j : goal.decreases-loop-j
decreases-loop-j l = 4 - l.j
