use borrow.Author.Rules.{rules}
use native.Mathlib.Omega.{arith}
use mathlib.Core.Path.{◌≡◌, sym, ap, ◌∙◌}
use Prim.Native.Nat.{ℕ, ◌<◌}
use lib.ListN.{length, get_or}
use Rattle.field.specs.Boxes.{no_region}
use Rattle.decide.specs.Tests.{holds}
use Rattle.decide.proofs.Inside.{first_turn, first_stop, first_end}
use Rattle.decide.proofs.boxes.first_holding.Goals as goal
use Rattle.decide.proofs.boxes.first_holding.Goals.{After-box_holds, In-loop-i, Start}

-- the array has its 16 boxes, as owning the record tells
full : (c : Start) → length c.args.l.regions ≡ 16
full c = search rules

-- and this one is among them
room : (c : In-loop-i) → c.loop-i.i < 16
room c = omega (arith, c.loop-i-test.true, c.requires)

-- the box that is tested is the one at the loop's number
seen : (c : After-box_holds)
    → let a = c.args in
    holds (get_or a.l.regions c.loop-i.i no_region) a.north a.east ≡ c.box_holds.result
seen c =
    let a = c.args in
    ap (λ (i : ℕ). holds (get_or a.l.regions i no_region) a.north a.east) (sym c.wide.ensures)
    ∙ sym c.box_holds.ensures

pub returns-then-box_holds : goal.returns-then-box_holds
returns-then-box_holds c =
    let a = c.args in
    let in_list : c.loop-i.i < length a.l.regions = omega (arith, full (goal.at.returns-then-box_holds c).Start, room (goal.at.returns-then-box_holds c).In-loop-i) in
    sym (c.loop-i.invariant.1 ∙ first_stop a.l.regions a.l.count c.loop-i.i a.north a.east c.loop-i-test.true in_list (seen (goal.at.returns-then-box_holds c).After-box_holds ∙ c.if-box_holds.true))

pub loop-i-preserved : goal.loop-i-preserved
loop-i-preserved c =
    let a = c.args in
    let in_list : c.loop-i.i < length a.l.regions = omega (arith, full (goal.at.loop-i-preserved c).Start, room (goal.at.loop-i-preserved c).In-loop-i) in
    (omega arith, c.loop-i.invariant.1 ∙ first_turn a.l.regions a.l.count c.loop-i.i a.north a.east c.loop-i-test.true in_list (seen (goal.at.loop-i-preserved c).After-box_holds ∙ c.if-box_holds.false))

pub returns : goal.returns
returns c =
    let a = c.args in
    sym (c.loop-i.invariant.1 ∙ first_end a.l.regions a.l.count c.loop-i.i a.north a.east c.loop-i-test.false)
