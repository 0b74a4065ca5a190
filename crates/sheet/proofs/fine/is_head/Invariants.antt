use mathlib.Core.Path.{◌≡◌}
use Rattle.sheet.specs.Layout.{cell_at}
use Rattle.sheet.specs.Sheet.{each, check_cell}
use Prim.Native.Nat.{◌-◌, ◌≤◌}
use Rattle.sheet.proofs.fine.is_head.Given as goal
use Rattle.std.specs.Prelude.{Ok}

abbrev pub invariant-loop-k : goal.invariant-loop-k
invariant-loop-k l = (1 ≤ l.k) × (l.k ≤ 17) × (each (λ k. check_cell l.s (cell_at k)) 0 l.k ≡ (Ok tt))

abbrev pub decreases-loop-k : goal.decreases-loop-k
decreases-loop-k l = 17 - l.k
