use Prim.Native.Nat.{◌-◌}
use mathlib.Core.Path.{◌≡◌}
use Rattle.sheet.specs.Sheet.{each, check_cell}
use Rattle.sheet.specs.Layout.{cell_at}
use Rattle.sheet.proofs.check.check_from.Given as goal

abbrev pub invariant-loop-k : goal.invariant-loop-k
invariant-loop-k l = each (λ j. check_cell l.s (cell_at j)) l.from (167 - l.from) ≡ each (λ j. check_cell l.s (cell_at j)) l.k (167 - l.k)
