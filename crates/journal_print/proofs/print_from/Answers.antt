-- What was printed fits the buffer.
use Rattle.std.proofs.Common.{sym, ◌∙◌}
use native.Mathlib.Omega.{arith}
use lib.Seq.{length-take-le}
use Rattle.journal.proofs.Short.{printed-fits}
use Rattle.journal_print.proofs.print_from.Goals as goal

pub slice_bounds-out-end : goal.slice_bounds-out-end
slice_bounds-out-end g c = omega (arith, printed-fits _ _ _ _ (sym c.print.ensures.0 ∙ c.in-Ok.is), c.print.auto.out)

pub slice_bounds-write_all-end : goal.slice_bounds-write_all-end
slice_bounds-write_all-end g c = sym (length-take-le _ _ (omega (arith, printed-fits _ _ _ _ (sym c.print.ensures.0 ∙ c.in-Ok.is), c.print.auto.out)))
