use native.Mathlib.Omega.{arith}
use Rattle.sheet.proofs.Small.{cell-small, small-parts}
use Rattle.sheet.proofs.read.word_at.Goals as goal

pub overflow_add-c : goal.overflow_add-c
overflow_add-c c = let s = small-parts _ (rw (← c.cell_at-c.ensures) at (cell-small _ c.requires)) in omega (arith, s.0, s.1.0)

pub read_field-requires : goal.read_field-requires
read_field-requires c = let s = small-parts _ (rw (← c.cell_at-c.ensures) at (cell-small _ c.requires)) in record { form_value = s.1.1; at_bound = omega (arith, s.0, s.1.0) }
