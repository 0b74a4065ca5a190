use native.Mathlib.Omega.{arith}
use mir.Syntax.{w32}
use mir.Val.{to_z, of_z, SFits}
use mir.Facts.{to_z-of_z, to_z_pos}
use borrow.Author.Rules.{sfits_of}
use Rattle.packed.proofs.Signs.{plus_above, above-lt}
use Rattle.packed.specs.Packed.{above}
use mathlib.Core.Path.{◌≡◌}
use lib.IntN.{pos, ◌+ℤ◌}
use Prim.Native.Nat.{◌<◌, ◌^◌}
use Rattle.packed.proofs.sign.plus.Goals as goal
use Rattle.packed.proofs.sign.plus.Goals.{Start}

sum : (c : Start)
    → to_z w32 (of_z w32 c.args.x) +ℤ to_z w32 c.args.h ≡ pos (above c.args.x c.args.h)
sum c =
    let h : c.args.h < 2 ^ 31 = omega (arith, c.requires.h_bound) in
    rw (to_z-of_z c.ranges.x, to_z_pos w32 {n = c.args.h} h) (plus_above c.args.x c.args.h c.requires.x_bound)

small : (c : Start) → SFits w32 (pos (above c.args.x c.args.h))
small c = sfits_of (omega (arith, above-lt c.args.x c.args.h c.requires.x_bound, c.requires.h_bound))

pub overflow_add-result : goal.overflow_add-result
overflow_add-result c = rw (sum (goal.at.overflow_add-result c).Start) (small (goal.at.overflow_add-result c).Start)

pub overflow_cast-result-2 : goal.overflow_cast-result-2
overflow_cast-result-2 c = rw (sum (goal.at.overflow_cast-result-2 c).Start, to_z-of_z (small (goal.at.overflow_cast-result-2 c).Start)) (tt, record { fits = omega (arith, above-lt c.args.x c.args.h c.requires.x_bound, c.requires.h_bound) })

pub returns : goal.returns
returns c = rw (sum (goal.at.returns c).Start, to_z-of_z (small (goal.at.returns c).Start))
