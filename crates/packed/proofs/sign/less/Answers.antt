use Rattle.packed.proofs.Signs.{sub_pos, sub_mag}
use mir.Facts.{to_z_pos}
use mir.Syntax.{w32}
use mathlib.Core.Path.{◌∙◌}
use native.Mathlib.Omega.{arith}
use Prim.Native.Nat.{◌^◌}
use mir.Val.{to_z}
use mir.Facts.{to_z-of_z, to_z_pos}
use borrow.Author.Rules.{sfits_of}
use mathlib.Core.Path.{◌≡◌, ◌∙◌}
use lib.IntN.{◌-ℤ◌, sub_ℕ}
use Rattle.packed.proofs.sign.less.Goals as goal
use Rattle.packed.proofs.sign.less.Goals.{Start}

difference : (c : Start) → to_z w32 c.args.n -ℤ to_z w32 c.args.h ≡ sub_ℕ c.args.n c.args.h
difference c =
    rw (to_z_pos w32 {n = c.args.n} c.requires.n_bound, to_z_pos w32 {n = c.args.h} c.requires.h_bound) (sub_pos c.args.n c.args.h)

pub overflow_sub-result : goal.overflow_sub-result
overflow_sub-result c = rw (difference (goal.at.overflow_sub-result c).Start) (sfits_of (sub_mag c.args.n c.args.h (2 ^ 31) c.requires.n_bound (omega arith)))

pub returns : goal.returns
returns c = to_z-of_z (overflow_sub-result c) ∙ difference (goal.at.returns c).Start
