use native.Mathlib.Omega.{arith}
use Prim.Native.Nat.{◌+◌, ◌*◌}
use mathlib.Core.Path.{◌≡◌, refl, ◌∙◌}
use Rattle.sheet.specs.Layout.{cell_at}
use Rattle.sheet.specs.Sheet.{each}
use Rattle.sheet.proofs.Small.{cell-small}
use Rattle.sheet.proofs.Each.{each-join}
use Rattle.sheet.proofs.Rows.{box-is}
use Rattle.sheet.proofs.fine.fine_boxes.Goals as goal
use Rattle.sheet.proofs.fine.fine_boxes.Goals.{After-box_part}

-- the last cell of a line
last : (c : After-box_part) → c.box_part.result ≡ cell_at (17 + 5 * c.loop-i.i + 4)
last c = c.box_part.ensures ∙ box-is _ 4 c.loop-i-test.true (omega arith)

pub loop-i-init : goal.loop-i-init
unfolding each
loop-i-init c = (omega arith, refl)

pub is_long-requires : goal.is_long-requires
is_long-requires c = rw (last (goal.at.is_long-requires c).After-box_part) (cell-small _ (omega (arith, c.loop-i-test.true)))

pub is_box-requires : goal.is_box-requires
is_box-requires c = (c.loop-i-test.true, rw (last (goal.at.is_box-requires c).After-box_part) at (c.is_long.ensures c.if-not-is_long.false))

pub loop-i-preserved : goal.loop-i-preserved
loop-i-preserved c =
    let l = c.loop-i in
    let more : 5 * (l.i + 1) ≡ 5 * l.i + 5 = omega arith in
    (omega (arith, c.loop-i-test.true), rw more (each-join _ (5 * l.i) 5 17 l.invariant.1 (c.is_box.ensures c.if-not-is_box.false)))
