use native.Mathlib.Omega.{arith}
use Rattle.sheet.proofs.Small.{small_width, small-parts}
use Rattle.sheet.proofs.cells.size_of_cell.Goals as goal

pub overflow_add-size : goal.overflow_add-size
overflow_add-size c = let s = small-parts _ c.requires in omega (arith, s.1.0, small_width _ s.1.1, c.width_of.ensures)

pub overflow_add-result : goal.overflow_add-result
overflow_add-result c = let s = small-parts _ c.requires in omega (arith, s.1.0, small_width _ s.1.1, c.width_of.ensures)
