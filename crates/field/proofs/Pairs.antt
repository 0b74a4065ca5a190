-- A record's checks by pairs of edges.
use mathlib.Core.Path.{◌≡◌, refl, ap, ◌∙◌}
use mathlib.Core.Bool.{true, false}
use Prim.Native.Nat.{ℕ, ◌+◌}
use Rattle.text.specs.Checks.{must, ◌and_then◌}
use Rattle.field.specs.declared.Region.{Region}
use Rattle.field.specs.Boxes.{latitude, longitude, north_first, edge_allowed, region_allowed}
use Rattle.field.specs.Steps.{pair_allowed}
use Rattle.std.specs.Prelude.{Result, Ok, Err}
use Rattle.text.specs.declared.Refusal.{Refusal}
use Rattle.text.specs.declared.Code.TheVariants.{Disagree}

-- checks in a row may be grouped
then_assoc : (x y z : Result (Unit {0}) Refusal) → ((x and_then y) and_then z) ≡ (x and_then (y and_then z))
then_assoc (Ok u) y z = refl
then_assoc (Err r) y z = refl

-- and nothing may follow them
nothing-more : (x y : Result (Unit {0}) Refusal) → (x and_then y and_then (Ok tt)) ≡ (x and_then y)
nothing-more (Ok u) (Ok v) = refl
nothing-more (Ok u) (Err r) = refl
nothing-more (Err r) y = refl

three : (x y m z : Result (Unit {0}) Refusal) → ((x and_then y and_then m) and_then z) ≡ (x and_then y and_then m and_then z)
three x y m z = then_assoc x (y and_then m) z ∙ ap (λ (r : Result (Unit {0}) Refusal). x and_then r) (then_assoc y m z)

-- a box is its latitudes and then its longitudes
pub region_pairs : (at : ℕ) (b : Region)
    → (pair_allowed true latitude b.north b.south at (at + 3) and_then pair_allowed false longitude b.west b.east (at + 6) (at + 10))
    ≡ region_allowed at b
unfolding pair_allowed region_allowed
region_pairs at b =
    three (edge_allowed latitude at b.north) (edge_allowed latitude (at + 3) b.south) (must (north_first b.north b.south) Disagree (at + 3))
    (edge_allowed longitude (at + 6) b.west and_then edge_allowed longitude (at + 10) b.east and_then (Ok tt))
    ∙ ap (λ (r : Result (Unit {0}) Refusal). edge_allowed latitude at b.north and_then edge_allowed latitude (at + 3) b.south and_then must (north_first b.north b.south) Disagree (at + 3) and_then r)
    (nothing-more (edge_allowed longitude (at + 6) b.west) (edge_allowed longitude (at + 10) b.east))
