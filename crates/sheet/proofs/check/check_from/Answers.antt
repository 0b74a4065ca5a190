use native.Mathlib.Omega.{arith}
use mathlib.Core.Path.{sym, ◌∙◌}
use Rattle.std.proofs.lemmas.Result.{err_from_is_err_and}
use Rattle.sheet.proofs.Small.{cell-small}
use Rattle.sheet.proofs.Each.{each_stop}
use Rattle.sheet.proofs.check.check_from.Goals as goal

pub check_cell-requires : goal.check_cell-requires
check_cell-requires c = rw c.cell_at.ensures (cell-small _ (omega (arith, c.loop-k-test.true)))

pub returns-in_err-check_cell : goal.returns-in_err-check_cell
returns-in_err-check_cell c =
    let l = c.loop-k in
    let p = err_from_is_err_and c.from_residual.result c.from_residual.ensures.1 in
    rw (p.1, p.2)
    (sym
    (l.invariant
    ∙ each_stop _ l.k 167 _ c.loop-k-test.true (rw (← c.cell_at.ensures) (sym c.check_cell.ensures ∙ c.in_err-check_cell.was))))
