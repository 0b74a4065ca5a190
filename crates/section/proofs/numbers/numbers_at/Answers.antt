use native.Mathlib.Omega.{arith}
use mathlib.Core.Path.{◌≡◌, sym, ap, ◌∙◌}
use mathlib.Core.Bool.{true}
use mathlib.Core.List.{List, ◌++◌, append-nil}
use Prim.Native.Nat.{ℕ, ◌+◌, ◌≤◌, ◌<◌}
use lib.ListN.{length, get_or, take}
use Rattle.text.specs.Parts.{part}
use Rattle.field.specs.Decimal.{all_digits, value}
use Rattle.section.specs.Layout.{table_of, digits_of}
use Rattle.section.specs.Contents.{contents_at}
use Rattle.section.proofs.Rows.{rows_end, zero_row, near_row}
use Rattle.section.proofs.ByRow.{amounts_at, amounts_end, numbers_are, taken_none, taken-read, taken-on}
use Rattle.section.proofs.numbers.numbers_at.Goals as goal
use Rattle.section.proofs.numbers.numbers_at.Goals.{In-loop-i}

pub loop-i-init : goal.loop-i-init
loop-i-init c =
    let rows = c.layout_of-l.ensures.rows in
    record { rows = rows; taken = rw rows (taken_none _ _ _ c.requires) }

-- the next number can be read
asks : (c : In-loop-i)
    → let s = c.args.s.now in
    let p = c.loop-i.p in
    let w = (get_or (take c.layout_of-l.result.count c.layout_of-l.result.rows) c.loop-i.i zero_row).width in
    (p + w ≤ length s) × ((w ≤ 3) × ((all_digits (part p w s) ≡ true) × (value (part p w s) < 1000)))
asks c =
    let l = c.loop-i in
    taken-read _ _ _ l.numbers l.p l.i l.invariant.taken c.loop-i-test.true c.args.k l.invariant.rows

pub value_at-requires : goal.value_at-requires
value_at-requires c =
    let x = asks (goal.at.value_at-requires c).In-loop-i in
    record { w_in_bounds = x.0; w_bound = x.1.0; s_value = x.1.1.0 }

pub overflow_cast-numbers : goal.overflow_cast-numbers
overflow_cast-numbers c = omega (arith, c.value_at.ensures, (asks (goal.at.overflow_cast-numbers c).In-loop-i).1.1.1)

pub overflow_add-p : goal.overflow_add-p
overflow_add-p c = omega (arith, asks (goal.at.overflow_add-p c).In-loop-i)

pub loop-i-preserved : goal.loop-i-preserved
loop-i-preserved c =
    let l = c.loop-i in
    record {
      rows = l.invariant.rows;
      taken = rw c.value_at.ensures (taken-on _ _ _ l.numbers l.p l.i l.invariant.taken c.loop-i-test.true (near_row c.args.k _ _ l.invariant.rows c.loop-i-test.true).0);
    }

pub returns : goal.returns
returns c =
    let l = c.loop-i in
    let a = c.args in
    let rows = (table_of a.k).rows in
    let t = rw l.invariant.rows at l.invariant.taken in
    let end = rw l.invariant.rows at c.loop-i-test.false in
    let none = ap (λ is. amounts_at is a.s.now l.p) (rows_end rows l.i end) ∙ amounts_end a.s.now l.p in
    let front = t.same ∙ ap (λ (v : List ℕ). t.front ++ v) none ∙ append-nil t.front in
    (t.filled ∙ sym (numbers_are (contents_at (digits_of (table_of a.k)) a.s.now a.at) t.front l.i front t.long), t.fit)
