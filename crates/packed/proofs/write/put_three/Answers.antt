-- `packed::write::put_three` meets its contract: one digit, two or three, behind spaces.
use native.Mathlib.Omega.{arith}
use mathlib.Core.Path.{◌≡◌, ◌∙◌, ap}
use Prim.Native.Nat.{◌<◌}
use lib.IntN.{ℤ}
use lib.Signed.{mag}
use mir.Facts.{to_z-of_z}
use mir.Syntax.{w32}
use mir.Val.{to_z, of_z}
use Rattle.packed.specs.Packed.{above}
use Rattle.packed.proofs.Signs.{above-lt}
use Rattle.packed.proofs.Short.{set_three, three_spelt}
use Rattle.packed.proofs.write.put_three.Goals as goal
use Rattle.packed.proofs.write.put_three.Goals.{After-plus-n, Start}

own : (c : Start) → to_z w32 (of_z w32 c.args.x) ≡ c.args.x
own c = to_z-of_z c.ranges.x

-- the figure and half of what the width spans
sum : (c : After-plus-n) → c.plus-n.result ≡ above c.args.x 32000
sum c =
    let own : to_z w32 (of_z w32 c.args.x) ≡ c.args.x = to_z-of_z c.ranges.x in
    c.plus-n.ensures ∙ ap (λ (x : ℤ). above x 32000) (own)

span : (c : After-plus-n) → c.plus-n.result < 64000
span c = omega (arith, sum c, above-lt c.args.x 32000 c.requires.1)

pub digit-requires : goal.digit-requires
digit-requires c = omega (arith, c.low.ensures, span (goal.at.digit-requires c).After-plus-n)

pub last_digit-requires : goal.last_digit-requires
last_digit-requires c = omega (arith, span (goal.at.last_digit-requires c).After-plus-n)

pub last_digit-c-requires : goal.last_digit-c-requires
last_digit-c-requires c = omega (arith, span (goal.at.last_digit-c-requires c).After-plus-n)

pub returns : goal.returns
returns c =
    let m : c.size-m.result ≡ mag c.args.x = c.size-m.ensures ∙ ap mag (own (goal.at.returns c).Start) in
    set_three c.args.out.now c.either-a.result c.either-b.result c.last_digit-c.result c.requires.0
    ∙ rw (c.last_digit-c.ensures, c.either-b.ensures, c.last_digit.ensures, c.either-a.ensures, c.digit.ensures, c.low.ensures, m, sum (goal.at.returns c).After-plus-n)
    (three_spelt c.args.x c.requires.1)
