use native.Mathlib.Omega.{arith}
use mathlib.Core.Path.{◌≡◌, refl, ◌∙◌}
use Rattle.sheet.specs.Layout.{cell_at}
use Rattle.sheet.specs.Sheet.{each}
use Prim.Native.Nat.{◌+◌, ◌*◌}
use Rattle.sheet.proofs.Each.{each_more}
use Rattle.sheet.proofs.Rows.{whole, box-is}
use Rattle.sheet.proofs.fine.is_box.Goals as goal
use Rattle.sheet.proofs.fine.is_box.Goals.{After-box_part, After-box_part-2}

-- a coordinate's cell, and the status's
coordinate : (c : After-box_part)
    → c.box_part.result ≡ cell_at (17 + 5 * c.args.i + c.loop-j.j)
coordinate c = c.box_part.ensures ∙ box-is _ _ c.requires.0 (omega (arith, c.loop-j-test.true))

last : (c : After-box_part-2) → c.box_part-2.result ≡ cell_at (17 + 5 * c.args.i + 4)
last c = c.box_part-2.ensures ∙ box-is _ _ c.requires.0 (omega arith)

pub loop-j-init : goal.loop-j-init
unfolding each
loop-j-init c = (omega arith, refl)

pub is_number-requires : goal.is_number-requires
is_number-requires c =
    rw (coordinate (goal.at.is_number-requires c).After-box_part) (whole c.args.s.now _ _ (omega arith) (omega (arith, c.loop-j-test.true)) (omega (arith, c.requires.0)) c.requires.1)

pub loop-j-preserved : goal.loop-j-preserved
loop-j-preserved c =
    let l = c.loop-j in
    (omega (arith, c.loop-j-test.true), each_more _ l.j _ l.invariant.1 (rw (coordinate (goal.at.loop-j-preserved c).After-box_part) at (c.is_number.ensures c.if-not-is_number.false)))

pub is_status-requires : goal.is_status-requires
is_status-requires c =
    rw (last (goal.at.is_status-requires c).After-box_part-2) (whole c.args.s.now _ _ (omega arith) (omega arith) (omega (arith, c.requires.0)) c.requires.1)

pub returns : goal.returns
returns c =
    let l = c.loop-j in
    let four : l.j ≡ 4 = omega (arith, l.invariant.0, c.loop-j-test.false) in
    λ e. each_more _ 4 _ (rw four at l.invariant.1) (rw (last (goal.at.returns c).After-box_part-2) at (c.is_status.ensures e))
