use native.Mathlib.Omega.{arith}
use mathlib.Core.Path.{◌≡◌, refl, ◌∙◌}
use Rattle.sheet.specs.Layout.{cell_at}
use Rattle.sheet.specs.Sheet.{each}
use Prim.Native.Nat.{ℕ, ◌+◌, ◌*◌}
use native.Mathlib.Nat.{add-zero}
use Rattle.sheet.proofs.Each.{each_more}
use Rattle.sheet.proofs.Rows.{whole, port_is}
use Rattle.sheet.proofs.fine.is_row.Goals as goal
use Rattle.sheet.proofs.fine.is_row.Goals.{After-airport_part, After-airport_part-in-loop-column}

-- the cell of the name, and that of the status
name : (c : After-airport_part)
    → c.airport_part.result ≡ cell_at (67 + 10 * c.args.row + (2 * c.loop-column.column + 0))
name c = c.airport_part.ensures ∙ port_is _ _ 0 c.requires.0 c.loop-column-test.true (omega arith)

status : (c : After-airport_part-in-loop-column)
    → c.airport_part-in-loop-column.result ≡ cell_at (67 + 10 * c.args.row + (2 * c.loop-column.column + 1))
status c =
    c.airport_part-in-loop-column.ensures ∙ port_is _ _ 1 c.requires.0 c.loop-column-test.true (omega arith)

pub loop-column-init : goal.loop-column-init
unfolding each
loop-column-init c = (omega arith, refl)

pub is_name-requires : goal.is_name-requires
is_name-requires c =
    rw (name (goal.at.is_name-requires c).After-airport_part) (whole c.args.s.now _ _ (omega arith) (omega (arith, c.loop-column-test.true)) (omega (arith, c.requires.0)) c.requires.1)

pub is_status-requires : goal.is_status-requires
is_status-requires c =
    rw (status (goal.at.is_status-requires c).After-airport_part-in-loop-column) (whole c.args.s.now _ _ (omega arith) (omega (arith, c.loop-column-test.true)) (omega (arith, c.requires.0)) c.requires.1)

pub loop-column-preserved : goal.loop-column-preserved
loop-column-preserved c =
    let l = c.loop-column in
    let k : ℕ = 67 + 10 * c.args.row in
    let more : 2 * (l.column + 1) ≡ 2 * l.column + 1 + 1 = omega arith in (
      omega (arith, c.loop-column-test.true),
      rw more
          (each_more _ (2 * l.column + 1) k
          (each_more _ (2 * l.column) k l.invariant.1 (rw (← add-zero (2 * l.column), ← name (goal.at.loop-column-preserved c).After-airport_part) (c.is_name.ensures c.if-not-is_name.false)))
          (rw (status (goal.at.loop-column-preserved c).After-airport_part-in-loop-column) at (c.is_status.ensures c.if-not-is_status.false))),
    )
