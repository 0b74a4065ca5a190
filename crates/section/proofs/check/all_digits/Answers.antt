use mathlib.Core.Path.{sym, ◌∙◌}
use mathlib.Core.List.{◌∷◌}
use Prim.Native.Nat.{◌+◌}
use lib.ListN.{get_or, take}
use Rattle.section.specs.Layout.{Digits, table_of, digits_of}
use Rattle.section.proofs.Come.{Come, come_on}
use Rattle.section.proofs.Rows.{rows_from, rows_turn, zero_row, near_row}
use Rattle.section.proofs.check.all_digits.Goals as goal
use Rattle.section.proofs.check.all_digits.Goals.{In-loop-row}

-- up to a row
here : (c : In-loop-row)
    → let a = c.args in
    let rows = take c.layout_of-l.result.count c.layout_of-l.result.rows in
    let i = c.loop-row.row-index in
    Come (digits_of (table_of a.k)) a.s.now a.at (Digits (get_or rows i zero_row) ∷ rows_from rows (i + 1)) c.loop-row.p
here c =
    let rows = take c.layout_of-l.result.count c.layout_of-l.result.rows in
    rw (← rows_turn rows c.loop-row.row-index zero_row c.loop-row-test.true) c.loop-row.invariant.come

pub digits-requires-clause-w_bound : goal.digits-requires-clause-w_bound
digits-requires-clause-w_bound c = (near_row c.args.k _ _ c.loop-row.invariant.rows c.loop-row-test.true).1.0

pub loop-row-preserved : goal.loop-row-preserved
loop-row-preserved c =
    record {
      rows = c.loop-row.invariant.rows;
      come = come_on (here (goal.at.loop-row-preserved c).In-loop-row) (sym c.digits.ensures ∙ c.in_ok-p.was);
    }
