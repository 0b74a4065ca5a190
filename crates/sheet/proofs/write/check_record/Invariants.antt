use Prim.Native.Nat.{◌-◌}
use mathlib.Core.Path.{◌≡◌}
use Rattle.sheet.specs.Sheet.{each, allowed_cell, allowed_sheet}
use Rattle.sheet.proofs.write.check_record.Given as goal

abbrev pub invariant-loop-k : goal.invariant-loop-k
invariant-loop-k l = allowed_sheet l.x ≡ each (allowed_cell l.x) l.k (167 - l.k)
