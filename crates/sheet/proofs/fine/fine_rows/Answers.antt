use native.Mathlib.Omega.{arith}
use Prim.Native.Nat.{◌+◌, ◌*◌}
use mathlib.Core.Path.{◌≡◌, refl, ◌∙◌}
use Rattle.sheet.specs.Layout.{cell_at}
use Rattle.sheet.specs.Sheet.{each}
use Rattle.sheet.proofs.Small.{cell-small}
use Rattle.sheet.proofs.Each.{each-join}
use Rattle.sheet.proofs.Rows.{port_is}
use Rattle.sheet.proofs.fine.fine_rows.Goals as goal
use Rattle.sheet.proofs.fine.fine_rows.Goals.{After-airport_part}

-- the last cell of a line
last : (c : After-airport_part) → c.airport_part.result ≡ cell_at (67 + 10 * c.loop-row.row + 9)
last c = c.airport_part.ensures ∙ port_is _ 4 1 c.loop-row-test.true (omega arith) (omega arith)

pub loop-row-init : goal.loop-row-init
unfolding each
loop-row-init c = (omega arith, refl)

pub is_long-requires : goal.is_long-requires
is_long-requires c = rw (last (goal.at.is_long-requires c).After-airport_part) (cell-small _ (omega (arith, c.loop-row-test.true)))

pub is_row-requires : goal.is_row-requires
is_row-requires c = (c.loop-row-test.true, rw (last (goal.at.is_row-requires c).After-airport_part) at (c.is_long.ensures c.if-not-is_long.false))

pub loop-row-preserved : goal.loop-row-preserved
loop-row-preserved c =
    let l = c.loop-row in
    let more : 10 * (l.row + 1) ≡ 10 * l.row + 10 = omega arith in
    (omega (arith, c.loop-row-test.true), rw more (each-join _ (10 * l.row) 10 67 l.invariant.1 (c.is_row.ensures c.if-not-is_row.false)))
