use native.Mathlib.Omega.{arith}
use Rattle.sheet.proofs.Small.{cell-small, small-parts}
use Rattle.sheet.proofs.Contents.{held_forms}
use Rattle.sheet.proofs.write.check_held.Goals as goal

pub overflow_add-at : goal.overflow_add-at
overflow_add-at c = let s = small-parts _ (rw (← c.cell_at-c.ensures) at (cell-small _ c.requires)) in omega (arith, s.0, s.1.0)

pub code_of-requires : goal.code_of-requires
code_of-requires c = rw c.cell_at-c.ensures (held_forms _ c.requires)
