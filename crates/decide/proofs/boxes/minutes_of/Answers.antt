-- `decide::boxes::minutes_of` meets its contract.
use native.Mathlib.Omega.{arith}
use mathlib.Core.Path.{◌≡◌}
use Prim.Native.Nat.{◌<◌}
use lib.IntN.{pos, ◌+ℤ◌}
use mir.Syntax.{w32}
use mir.Val.{to_z, of_z, SFits}
use mir.Facts.{to_z-of_z}
use borrow.Author.Rules.{sfits_of}
use Rattle.packed.proofs.Signs.{plus_above, above-lt}
use Rattle.packed.specs.Packed.{above}
use Rattle.decide.proofs.boxes.minutes_of.Goals as goal
use Rattle.decide.proofs.boxes.minutes_of.Goals.{Start}

sum : (c : Start) → to_z w32 (of_z w32 c.args.x) +ℤ pos 60000 ≡ pos (above c.args.x 60000)
sum c = rw (to_z-of_z c.ranges.x) (plus_above c.args.x 60000 c.requires)

below : (c : Start) → above c.args.x 60000 < 120000
below c = above-lt c.args.x 60000 c.requires

small : (c : Start) → SFits w32 (pos (above c.args.x 60000))
small c = sfits_of (omega (arith, below c))

pub overflow_add-result : goal.overflow_add-result
overflow_add-result c = rw (sum (goal.at.overflow_add-result c).Start) (small (goal.at.overflow_add-result c).Start)

pub overflow_cast-result : goal.overflow_cast-result
overflow_cast-result c = rw (sum (goal.at.overflow_cast-result c).Start, to_z-of_z (small (goal.at.overflow_cast-result c).Start)) (tt, record { fits = omega (arith, below (goal.at.overflow_cast-result c).Start) })

pub returns : goal.returns
returns c = rw (sum (goal.at.returns c).Start, to_z-of_z (small (goal.at.returns c).Start))
