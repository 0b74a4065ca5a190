use borrow.Author.Rules.{rules}
use native.Mathlib.Omega.{arith}
use mathlib.Core.Path.{◌≡◌, sym, ◌∙◌}
use mathlib.Core.List.{map}
use Prim.Native.Nat.{◌<◌}
use lib.ListN.{length, drop}
use Rattle.section.specs.Contents.{Amount}
use Rattle.section.proofs.Rows.{rows_end, few_rows, near_row}
use Rattle.section.proofs.ByRow.{row-on, row-stop, pass_end}
use Rattle.section.proofs.numbers.pass_numbers.Goals as goal
use Rattle.section.proofs.numbers.pass_numbers.Goals.{In-loop-i, Start}

eight : (c : Start) → length c.args.v ≡ 8
eight c = search rules

pub returns-then-not-row-x : goal.returns-then-not-row-x
returns-then-not-row-x c =
    let l = c.loop-i in
    let there : l.i < length c.args.v =
    omega (arith, eight (goal.at.returns-then-not-row-x c).Start, near_row c.args.k _ _ l.invariant.rows c.loop-i-test.true) in
    (rw c.at.ensures (row-stop _ _ l.i l.p _ c.loop-i-test.true there l.invariant.left c.if-not-row-x.true), tt)

pub loop-i-preserved : goal.loop-i-preserved
loop-i-preserved c =
    let l = c.loop-i in
    let near = near_row c.args.k _ _ l.invariant.rows c.loop-i-test.true in
    let there : l.i < length c.args.v = omega (arith, eight (goal.at.loop-i-preserved c).Start, near) in
    record {
      rows = l.invariant.rows;
      near = omega (arith, near, l.invariant.near);
      left = row-on _ _ l.i l.p _ c.loop-i-test.true there l.invariant.left c.if-not-row-x.false;
    }

pub returns : goal.returns
returns c =
    let l = c.loop-i in
    let a = c.args in
    (pass_end l.p (map Amount (drop l.i a.v)) ∙ sym (l.invariant.left ∙ rw (rows_end _ l.i c.loop-i-test.false)), omega (arith, l.invariant.near, few_rows a.k _ l.invariant.rows))
