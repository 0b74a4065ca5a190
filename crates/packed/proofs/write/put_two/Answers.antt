-- `packed::write::put_two` meets its contract: a digit behind a space, or two digits.
use native.Mathlib.Omega.{arith}
use mathlib.Core.Path.{◌≡◌, ◌∙◌, ap}
use Prim.Native.Nat.{◌<◌}
use lib.IntN.{ℤ}
use lib.Signed.{mag}
use mir.Facts.{to_z-of_z}
use mir.Syntax.{w32}
use mir.Val.{to_z, of_z}
use Rattle.packed.specs.Packed.{above}
use Rattle.packed.proofs.Signs.{above-lt}
use Rattle.packed.proofs.Short.{set-two, two-spelt}
use Rattle.packed.proofs.write.put_two.Goals as goal
use Rattle.packed.proofs.write.put_two.Goals.{After-plus-n, Start}

own : (c : Start) → to_z w32 (of_z w32 c.args.x) ≡ c.args.x
own c = to_z-of_z c.ranges.x

-- the figure and half of what the width spans
sum : (c : After-plus-n) → c.plus-n.result ≡ above c.args.x 800
sum c =
    let own : to_z w32 (of_z w32 c.args.x) ≡ c.args.x = to_z-of_z c.ranges.x in
    c.plus-n.ensures ∙ ap (λ (x : ℤ). above x 800) (own)

span : (c : After-plus-n) → c.plus-n.result < 1600
span c = omega (arith, sum c, above-lt c.args.x 800 c.requires.1)

pub digit-requires : goal.digit-requires
digit-requires c = omega (arith, c.low.ensures, span (goal.at.digit-requires c).After-plus-n)

pub last_digit-b-requires : goal.last_digit-b-requires
last_digit-b-requires c = omega (arith, span (goal.at.last_digit-b-requires c).After-plus-n)

pub returns : goal.returns
returns c =
    let m : c.size-one.result ≡ mag c.args.x = c.size-one.ensures ∙ ap mag (own (goal.at.returns c).Start) in
    set-two c.args.out.now c.either-a.result c.last_digit-b.result c.requires.0
    ∙ rw (c.last_digit-b.ensures, c.either-a.ensures, c.digit.ensures, c.low.ensures, m, sum (goal.at.returns c).After-plus-n)
    (two-spelt c.args.x c.requires.1)
