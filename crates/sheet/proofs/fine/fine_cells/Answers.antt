use native.Mathlib.Omega.{arith}
use Prim.Native.Nat.{◌*◌}
use mathlib.Core.Path.{◌≡◌, refl, ◌∙◌}
use Rattle.sheet.specs.Layout.{cell_at}
use Rattle.sheet.specs.Sheet.{each, check_cell}
use Rattle.sheet.proofs.Small.{cell-small}
use Rattle.sheet.proofs.Each.{each-join}
use Rattle.sheet.proofs.Rows.{head-is}
use Rattle.sheet.proofs.fine.fine_cells.Goals as goal
use Rattle.sheet.proofs.fine.fine_cells.Goals.{After-fine_boxes-boxes, After-head_cell}
use Rattle.std.specs.Prelude.{Ok}

-- the last cell of lines 1 to 4
last : (c : After-head_cell) → c.head_cell.result ≡ cell_at 16
last c = c.head_cell.ensures ∙ head-is 16 (omega arith)

-- they are fine
lines : (c : After-fine_boxes-boxes)
    → each (λ k. check_cell c.args.s.now (cell_at k)) 0 17 ≡ (Ok tt)
lines c = c.is_head.ensures c.if-not-is_head.false

pub is_long-requires : goal.is_long-requires
is_long-requires c = rw (last (goal.at.is_long-requires c).After-head_cell) (cell-small 16 (omega arith))

pub returns-then-not-is_long : goal.returns-then-not-is_long
unfolding each
returns-then-not-is_long c = (omega arith, refl)

pub is_head-requires : goal.is_head-requires
is_head-requires c = rw (last (goal.at.is_head-requires c).After-head_cell) at (c.is_long.ensures c.if-not-is_long.false)

pub returns-then-not-is_head : goal.returns-then-not-is_head
unfolding each
returns-then-not-is_head c = (omega arith, refl)

pub returns-then-boxes-lt10 : goal.returns-then-boxes-lt10
returns-then-boxes-lt10 c =
    (omega (arith, c.if-boxes-lt10.true), each-join _ 17 _ 0 (lines (goal.at.returns-then-boxes-lt10 c).After-fine_boxes-boxes) c.fine_boxes-boxes.ensures.1)

pub returns : goal.returns
returns c =
    let all : 5 * c.fine_boxes-boxes.result ≡ 50 = omega (arith, c.fine_boxes-boxes.ensures.0, c.if-boxes-lt10.false) in
    (omega (arith, c.fine_rows.ensures.0), each-join _ 67 _ 0 (each-join _ 17 50 0 (lines (goal.at.returns c).After-fine_boxes-boxes) (rw all at c.fine_boxes-boxes.ensures.1)) c.fine_rows.ensures.1)
