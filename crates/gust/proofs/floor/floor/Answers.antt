-- `gust::floor::floor` meets its contract.
use Rattle.gust.proofs.Division.{above_zero, size-above-zero, not-below, turned, turned-back, over_below, over-above}
use mathlib.Core.Path.{◌≡◌, ◌∙◌}
use Prim.Native.Nat.{◌/◌, ◌<◌, ◌^◌}
use native.Mathlib.Nat.{div-le_self, lt_of_le_of_lt}
use lib.IntN.{pos, negsuc, ◌-ℤ◌}
use lib.Signed.{mag}
use mir.Syntax.{w64}
use mir.Val.{to_z, of_z, SFits}
use mir.Facts.{to_z-of_z}
use borrow.Author.Rules.{sfits_of}
use Rattle.gust.proofs.floor.floor.Goals as goal
use Rattle.gust.proofs.floor.floor.Goals.{Else-x-lt0, Start, Then-x-lt0}

own : (c : Start) → to_z w64 (of_z w64 c.args.x) ≡ c.args.x
own c = to_z-of_z c.ranges.x

divisor : (c : Start) → to_z w64 (of_z w64 c.args.d) ≡ pos (mag c.args.d)
divisor c = to_z-of_z c.ranges.d ∙ above_zero c.args.d c.requires

not-zero : (c : Start) → 0 < of_z w64 c.args.d
not-zero c = rw (above_zero c.args.d c.requires) (size-above-zero c.args.d c.requires)

small : (c : Start) → mag c.args.x / mag c.args.d < 2 ^ 63
small c = lt_of_le_of_lt (div-le_self (mag c.args.x) (mag c.args.d)) c.ranges.x.sfits

below : (c : Then-x-lt0) → negsuc 0 -ℤ to_z w64 (of_z w64 c.args.x) ≡ pos (mag c.args.x)
below c =
    let own : to_z w64 (of_z w64 c.args.x) ≡ c.args.x = to_z-of_z c.ranges.x in
    let e = own in rw e (turned c.args.x (rw e at c.if-x-lt0.true))

size : (c : Start) → SFits w64 (pos (mag c.args.x))
size c = sfits_of c.ranges.x.sfits

quotient : (c : Start) → SFits w64 (pos (mag c.args.x / mag c.args.d))
quotient c = sfits_of (small c)

less : (c : Start) → SFits w64 (negsuc (mag c.args.x / mag c.args.d))
less c = sfits_of (small c)

at_least : (c : Else-x-lt0) → to_z w64 (of_z w64 c.args.x) ≡ pos (mag c.args.x)
at_least c =
    let own : to_z w64 (of_z w64 c.args.x) ≡ c.args.x = to_z-of_z c.ranges.x in
    let e = own in e ∙ not-below c.args.x (rw e at c.if-x-lt0.false)

-- src/floor.rt:13:22
pub overflow_sub-result : goal.overflow_sub-result
overflow_sub-result c = rw (below (goal.at.overflow_sub-result c).Then-x-lt0) (size (goal.at.overflow_sub-result c).Start)

-- src/floor.rt:13:21
pub nonzero_div-result : goal.nonzero_div-result
nonzero_div-result c = (not-zero (goal.at.nonzero_div-result c).Start, rw (below (goal.at.nonzero_div-result c).Then-x-lt0, to_z-of_z (size (goal.at.nonzero_div-result c).Start), divisor (goal.at.nonzero_div-result c).Start) (quotient (goal.at.nonzero_div-result c).Start))

-- src/floor.rt:13:16
pub overflow_sub-result-then-x-lt0 : goal.overflow_sub-result-then-x-lt0
overflow_sub-result-then-x-lt0 c =
    rw (below (goal.at.overflow_sub-result-then-x-lt0 c).Then-x-lt0, to_z-of_z (size (goal.at.overflow_sub-result-then-x-lt0 c).Start), divisor (goal.at.overflow_sub-result-then-x-lt0 c).Start, to_z-of_z (quotient (goal.at.overflow_sub-result-then-x-lt0 c).Start), turned-back (mag c.args.x / mag c.args.d)) (less (goal.at.overflow_sub-result-then-x-lt0 c).Start)

-- src/floor.rt:13:9
pub returns-then-x-lt0 : goal.returns-then-x-lt0
returns-then-x-lt0 c =
    rw (below (goal.at.returns-then-x-lt0 c).Then-x-lt0, to_z-of_z (size (goal.at.returns-then-x-lt0 c).Start), divisor (goal.at.returns-then-x-lt0 c).Start, to_z-of_z (quotient (goal.at.returns-then-x-lt0 c).Start), turned-back (mag c.args.x / mag c.args.d), to_z-of_z (less (goal.at.returns-then-x-lt0 c).Start))
    (over_below c.args.x c.args.d c.requires (rw (own (goal.at.returns-then-x-lt0 c).Start) at c.if-x-lt0.true))

-- src/floor.rt:15:5
pub nonzero_div-result-else-x-lt0 : goal.nonzero_div-result-else-x-lt0
nonzero_div-result-else-x-lt0 c = (not-zero (goal.at.nonzero_div-result-else-x-lt0 c).Start, rw (at_least (goal.at.nonzero_div-result-else-x-lt0 c).Else-x-lt0, divisor (goal.at.nonzero_div-result-else-x-lt0 c).Start) (quotient (goal.at.nonzero_div-result-else-x-lt0 c).Start))

-- src/floor.rt:8:1
pub returns-else-x-lt0 : goal.returns-else-x-lt0
returns-else-x-lt0 c =
    rw (at_least (goal.at.returns-else-x-lt0 c).Else-x-lt0, divisor (goal.at.returns-else-x-lt0 c).Start, to_z-of_z (quotient (goal.at.returns-else-x-lt0 c).Start))
    (over-above c.args.x c.args.d c.requires (rw (own (goal.at.returns-else-x-lt0 c).Start) at c.if-x-lt0.false))
