-- A test at some place of two lists.
use mathlib.Core.Path.{◌≡◌, refl, sym}
use mathlib.Core.Bool.{Bool, true, false, ◌||◌, or_assoc}
use mathlib.Core.List.{List, [], ◌∷◌}
use Prim.Native.Nat.{ℕ, zero, suc, ◌+◌, ◌≤◌, ◌<◌}
use native.Mathlib.Numerals.{add-one}
use native.Mathlib.Omega.{arith}
use lib.ListN.{length, get_or, drop, drop_of_length-le}
use lib.Seq.{drop-cons}
use Rattle.offices.specs.Offices.{any_place}

-- neither of two tests holds
pub neither_left : (s t : Bool) → (s || t) ≡ false → s ≡ false
neither_left true t e = e
neither_left false t e = refl

pub neither_right : (s t : Bool) → (s || t) ≡ false → t ≡ false
neither_right true t e = let z : ◌≡◌ {A = Bool} true false = e in cc
neither_right false t e = e

module _ (test : ℕ → ℕ → Bool) where
  -- one place more
  pub place_turn : (found : Bool) (a b : List ℕ) (i : ℕ) → i < length a → i < length b
      → (found || any_place test (drop i a) (drop i b))
      ≡ ((found || test (get_or a i 0) (get_or b i 0)) || any_place test (drop (i + 1) a) (drop (i + 1) b))
  unfolding any_place
  place_turn found a b i h k =
      rw (drop-cons a i 0 h, drop-cons b i 0 k, add-one i) (sym (or_assoc found (test (get_or a i 0) (get_or b i 0)) (any_place test (drop (suc i) a) (drop (suc i) b))))

  -- past the end there is none
  pub place_end : (a b : List ℕ) (i : ℕ) → length a ≤ i → any_place test (drop i a) (drop i b) ≡ false
  unfolding any_place
  place_end a b i h = rw (drop_of_length-le a {i = i} h)

  -- where no place passes, none does
  pub none-at : (a b : List ℕ) → any_place test a b ≡ false → (i : ℕ) → i < length a → i < length b → test (get_or a i 0) (get_or b i 0) ≡ false
  unfolding any_place
  none-at [] b e i h k = absurd (omega arith)
  none-at (x ∷ a) [] e i h k = absurd (omega arith)
  none-at (x ∷ a) (y ∷ b) e zero h k = neither_left (test x y) (any_place test a b) e
  none-at (x ∷ a) (y ∷ b) e (suc i) h k = none-at a b (neither_right (test x y) (any_place test a b) e) i (omega arith) (omega arith)

  -- and the other way round
  pub at_none : (a b : List ℕ) → ((i : ℕ) → i < length a → i < length b → test (get_or a i 0) (get_or b i 0) ≡ false) → any_place test a b ≡ false
  unfolding any_place
  at_none [] b f = refl
  at_none (x ∷ a) [] f = refl
  at_none (x ∷ a) (y ∷ b) f = rw (f 0 (omega arith) (omega arith)) (at_none a b (λ i h k. f (suc i) (omega arith) (omega arith)))

-- one place more, or none left
pub ruleset placing = (place_turn, place_end)
