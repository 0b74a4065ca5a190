use native.Mathlib.Omega.{arith}
use Rattle.packed.proofs.Put.{fewest-holds, fewest-le}
use Rattle.packed.proofs.Scan.{half_small}
use Rattle.packed.specs.Packed.{fewest, half_of}
use Prim.Native.Nat.{◌≤◌, ◌<◌}
use mathlib.Core.Path.{◌≡◌, ◌∙◌, ap}
use lib.ListN.{length}
use lib.Signed.{mag}
use mir.Facts.{to_z-of_z}
use mir.Val.{to_z, of_z}
use mir.Syntax.{w32}
use Rattle.packed.proofs.write.put_any.Goals as goal
use Rattle.packed.proofs.write.put_any.Goals.{After-fewest_of-k, After-size, Start}

own : (c : Start) → to_z w32 (of_z w32 c.args.x) ≡ c.args.x
own c = to_z-of_z c.ranges.x

size_is : (c : After-size) → c.size.result ≡ mag c.args.x
size_is c =
    let own : to_z w32 (of_z w32 c.args.x) ≡ c.args.x = to_z-of_z c.ranges.x in
    c.size.ensures ∙ ap mag (own)

-- the digits fit the part and hold the figure
few : (c : After-fewest_of-k)
    → (c.fewest_of-k.result ≤ length c.args.out.now) × (c.fewest_of-k.result ≤ 5) × (mag c.args.x < half_of c.fewest_of-k.result)
few c =
    let own : to_z w32 (of_z w32 c.args.x) ≡ c.args.x = to_z-of_z c.ranges.x in
    let size_is : c.size.result ≡ mag c.args.x = c.size.ensures ∙ ap mag (own) in
    let w = length c.args.out.now in
    let m = mag c.args.x in
    let e : c.fewest_of-k.result ≡ fewest w m = c.fewest_of-k.ensures ∙ ap (fewest w) (size_is) in
    rw e (fewest-le w m, omega (arith, fewest-le w m, c.requires.0), fewest-holds w m c.requires.1)

pub half-requires : goal.half-requires
half-requires c = (few (goal.at.half-requires c).After-fewest_of-k).1

pub plus-n-requires : goal.plus-n-requires
plus-n-requires c =
    let f = few (goal.at.plus-n-requires c).After-fewest_of-k in
    rw (own (goal.at.plus-n-requires c).Start, c.half.ensures) (record { x_bound = f.2; h_bound = half_small _ f.1 })

pub place-requires : goal.place-requires
place-requires c = (few (goal.at.place-requires c).After-fewest_of-k).0

pub returns : goal.returns
returns c =
    let k = c.fewest_of-k.ensures ∙ ap (fewest (length c.args.out.now)) (size_is (goal.at.returns c).After-size) in
    let n = c.plus-n.ensures in
    c.place.ensures ∙ rw (n, own (goal.at.returns c).Start, c.half.ensures, k)
