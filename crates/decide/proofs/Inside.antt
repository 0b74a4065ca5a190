-- The position against the boxes, box by box.
use mathlib.Core.Path.{◌≡◌}
use mathlib.Core.Bool.{true, false}
use mathlib.Core.List.{List, ◌∷◌}
use Prim.Native.Nat.{ℕ, suc, ◌+◌, ◌-◌, ◌≤◌, ◌<◌}
use native.Mathlib.Omega.{arith}
use native.Mathlib.Numerals.{add-one}
use lib.Dec.{eqb}
use lib.ListN.{length, get_or, take, drop}
use lib.Seq.{drop-cons}
use Rattle.text.proofs.Cases.{by_test}
use Rattle.field.specs.Boxes.{line_of, no_region}
use Rattle.field.specs.declared.Circle.{Circle}
use Rattle.field.specs.declared.Edge.{Edge}
use Rattle.field.specs.declared.Region.{Region}
use Rattle.decide.specs.Tests.{holds, first_from}

-- how far an edge can lie
pub line_small : (c : Circle) (e : Edge) → line_of c e ≤ 1000 + e.degrees
unfolding line_of
line_small c e =
    by_test (eqb e.letter c.below) (λ (p : eqb e.letter c.below ≡ true). rw p (omega arith))
    (λ (p : eqb e.letter c.below ≡ false). rw p (omega arith))

-- what is left of the boxes, from the i-th on
from : (bs : List Region) (i : ℕ) → i < length bs → drop i bs ≡ get_or bs i no_region ∷ drop (i + 1) bs
from bs i h = rw (add-one, drop-cons bs i no_region)

-- a turn of the search among the first k boxes: box i + 1 is looked at
module _ (bs : List Region) (k i n e : ℕ) where
  pub first_turn : i < k → i < length bs → holds (get_or bs i no_region) n e ≡ false
      → first_from (i + 1) (take (k - i) (drop i bs)) n e ≡ first_from (i + 1 + 1) (take (k - (i + 1)) (drop (i + 1) bs)) n e
  unfolding first_from
  first_turn h l t =
      let one : k - i ≡ suc (k - (i + 1)) = omega arith in
      let next : i + 1 + 1 ≡ suc (i + 1) = omega arith in
      rw (one, from bs i l, t, next)

  pub first_stop : i < k → i < length bs → holds (get_or bs i no_region) n e ≡ true
      → first_from (i + 1) (take (k - i) (drop i bs)) n e ≡ i + 1
  unfolding first_from
  first_stop h l t = let one : k - i ≡ suc (k - (i + 1)) = omega arith in rw (one, from bs i l, t)

  pub first_end : k ≤ i → first_from (i + 1) (take (k - i) (drop i bs)) n e ≡ 0
  unfolding first_from
  first_end h = let none : k - i ≡ 0 = omega arith in rw none
