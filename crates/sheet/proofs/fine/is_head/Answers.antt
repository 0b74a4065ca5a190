use native.Mathlib.Omega.{arith}
use mathlib.Core.Path.{◌≡◌, sym, ◌∙◌}
use Rattle.sheet.specs.Layout.{cell_at}
use Rattle.sheet.specs.Sheet.{each}
use Rattle.sheet.proofs.Small.{cell-small}
use native.Mathlib.Nat.{zero-add}
use Rattle.sheet.proofs.Each.{each_more}
use Rattle.sheet.proofs.Short.{err-not}
use Rattle.sheet.proofs.Rows.{whole, head-is}
use Rattle.sheet.proofs.fine.is_head.Goals as goal
use Rattle.sheet.proofs.fine.is_head.Goals.{After-head_cell, After-head_cell-in-loop-k}

-- the first cell, and another
first : (c : After-head_cell) → c.head_cell.result ≡ cell_at 0
first c = c.head_cell.ensures ∙ head-is 0 (omega arith)

next : (c : After-head_cell-in-loop-k) → c.head_cell-in-loop-k.result ≡ cell_at c.loop-k.k
next c = c.head_cell-in-loop-k.ensures ∙ head-is _ c.loop-k-test.true

pub check_cell-requires : goal.check_cell-requires
check_cell-requires c = rw (first (goal.at.check_cell-requires c).After-head_cell) (cell-small 0 (omega arith))

pub loop-k-init : goal.loop-k-init
unfolding each
loop-k-init c =
    (omega arith, omega arith, rw (rw (first (goal.at.loop-k-init c).After-head_cell) at (sym c.check_cell.ensures ∙ err-not c.check_cell.result (sym c.is_err.ensures.value ∙ c.if-is_err.false))))

pub is_cell-requires : goal.is_cell-requires
is_cell-requires c =
    rw (next (goal.at.is_cell-requires c).After-head_cell-in-loop-k) (whole c.args.s.now _ 16 (omega (arith, c.loop-k.invariant.0)) (omega (arith, c.loop-k-test.true)) (omega arith) c.requires)

pub loop-k-preserved : goal.loop-k-preserved
loop-k-preserved c =
    let l = c.loop-k in
    (omega arith, omega (arith, c.loop-k-test.true), each_more _ l.k 0 l.invariant.2 (rw (zero-add l.k, ← next (goal.at.loop-k-preserved c).After-head_cell-in-loop-k) (c.is_cell.ensures c.if-not-is_cell.false)))
