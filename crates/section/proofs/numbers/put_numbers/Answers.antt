use borrow.Author.Rules.{rules}
use native.Mathlib.Omega.{arith}
use mathlib.Core.Path.{◌≡◌, refl, sym, ap, ◌∙◌}
use mathlib.Core.List.{[], ◌∷◌}
use Prim.Native.Nat.{◌+◌, ◌≤◌, ◌<◌}
use lib.ListN.{length, get_or, take, length-append}
use lib.Seq.{take_all}
use Rattle.text.specs.Over.{over}
use Rattle.text.proofs.Over.{over_none, length_over, then_byte}
use Rattle.section.proofs.Rows.{zero_row, few_rows}
use Rattle.section.proofs.ByRow.{digits_text, text-long, text-room, text-whole, text-fits, text-put}
use Rattle.section.proofs.numbers.put_numbers.Goals as goal
use Rattle.section.proofs.numbers.put_numbers.Goals.{After-loop-i, In-loop-i, Start}

eight : (c : Start) → length c.args.v ≡ 8
eight c = search rules

pub loop-i-init : goal.loop-i-init
unfolding digits_text
loop-i-init c = record { rows = c.layout_of-l.ensures.rows; room = refl; ends = refl; written = over_none _ 0 }

-- the next number is there, and there is room for it
near : (c : In-loop-i)
    → let i = c.loop-i.i in
    (i < length c.args.v)
    × (c.loop-i.p + (get_or (take c.layout_of-l.result.count c.layout_of-l.result.rows) i zero_row).width + 1 ≤ length c.args.d.now)
near c =
    let l = c.loop-i in
    let eight : length c.args.v ≡ 8 = search rules in
    let there : l.i < length c.args.v = omega (arith, few_rows c.args.k _ l.invariant.rows, c.loop-i-test.true) in
    (there, text-room _ _ l.i l.p (length c.args.d.now) c.loop-i-test.true there l.invariant.ends (text-fits c.args.k _ c.args.v _ l.invariant.rows eight c.requires))

pub overflow_add-end : goal.overflow_add-end
overflow_add-end c = omega (arith, near (goal.at.overflow_add-end c).In-loop-i)

pub slice_bounds-put_decimal-end : goal.slice_bounds-put_decimal-end
slice_bounds-put_decimal-end c = omega (arith, near (goal.at.slice_bounds-put_decimal-end c).In-loop-i, c.loop-i.invariant.room)

pub loop-i-preserved : goal.loop-i-preserved
loop-i-preserved c =
    let l = c.loop-i in
    let v = c.args.v in
    let d = c.args.d.now in
    let n = near (goal.at.loop-i-preserved c).In-loop-i in
    let long = text-long _ v l.i l.p c.loop-i-test.true n.0 l.invariant.ends in
    let e = text-put d l.d c.put_decimal.new.d _ v l.i l.p c.loop-i-test.true n.0 l.invariant.ends l.invariant.written (omega arith) c.put_decimal.ensures in
    record {
      rows = l.invariant.rows;
      room = ap length e ∙ length_over d 0 _ (omega (arith, n, long));
      ends = sym long;
      written = e;
    }

-- behind the last number
ended : (c : After-loop-i)
    → let a = c.args in
    let rows = take c.layout_of-l.result.count c.layout_of-l.result.rows in
    (c.loop-i.p ≡ length (digits_text rows a.v)) × (c.loop-i.d ≡ over a.d.now 0 (digits_text rows a.v))
ended c =
    let l = c.loop-i in
    let all = take_all l.i (take c.layout_of-l.result.count c.layout_of-l.result.rows) c.loop-i-test.false in
    (l.invariant.ends ∙ rw all, l.invariant.written ∙ rw all)

-- where there is room for `/`
room : (c : After-loop-i) → c.loop-i.p + 1 ≤ length c.args.d.now
room c =
    let l = c.loop-i in
    let eight : length c.args.v ≡ 8 = search rules in
    omega (arith, text-fits c.args.k _ c.args.v _ l.invariant.rows eight c.requires, (ended c).0)

pub bounds-d-p : goal.bounds-d-p
bounds-d-p c = omega (arith, room (goal.at.bounds-d-p c).After-loop-i, c.loop-i.invariant.room)

pub overflow_add-result : goal.overflow_add-result
overflow_add-result c = omega (arith, room (goal.at.overflow_add-result c).After-loop-i)

pub returns : goal.returns
returns c =
    let l = c.loop-i in
    let a = c.args in
    let rows = take c.layout_of-l.result.count c.layout_of-l.result.rows in
    let t = digits_text rows a.v in
    let w = text-whole a.k rows a.v l.invariant.rows (eight (goal.at.returns c).Start) in
    let e = ended (goal.at.returns c).After-loop-i in (
      omega (arith, e.0, ap length w, length-append t (47 ∷ [])),
      then_byte a.d.now l.d t 47 0 l.p e.1 (omega (arith, e.0)) (omega (arith, room (goal.at.returns c).After-loop-i)) ∙ rw (← w),
    )
