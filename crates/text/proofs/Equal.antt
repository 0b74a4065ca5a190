-- The test whether two texts are the same, against their equality.
use mathlib.Core.Path.{◌≡◌, refl, sym, ap}
use mathlib.Core.Bool.{Bool, true, false, ◌&&◌, and_assoc}
use mathlib.Core.List.{List, [], ◌∷◌}
use Prim.Native.Nat.{ℕ, suc, ◌+◌, ◌≤◌, ◌<◌}
use native.Mathlib.Numerals.{add-one}
use lib.Dec.{eqb}
use lib.Pointwise.{pointwise}
use lib.ListN.{length, get_or, drop, drop_of_length-le}
use lib.Seq.{drop-cons}
use borrow.Author.Tests.{eqb-true, eq-eqb}
use Rattle.text.specs.Equal.{same_bytes}
use Rattle.text.proofs.Cases.{both_left, both_right}

-- texts that pass the test are equal
pub same-equal : (a b : List ℕ) → same_bytes a b ≡ true → a ≡ b
unfolding same_bytes
same-equal [] [] e = refl
same-equal [] (y ∷ b) e = cc
same-equal (x ∷ a) [] e = cc
same-equal (x ∷ a) (y ∷ b) e =
    let head : x ≡ y = eqb-true x y (both_left (eqb x y) (same_bytes a b) e) in
    let tail : a ≡ b = same-equal a b (both_right (eqb x y) (same_bytes a b) e) in
    rw (head, tail)

-- a text passes it with itself
pub same_self : (a : List ℕ) → same_bytes a a ≡ true
unfolding same_bytes
same_self [] = refl
same_self (x ∷ a) = rw (eq-eqb x x refl) (same_self a)

-- equal texts pass it
pub equal-same : (a b : List ℕ) → a ≡ b → same_bytes a b ≡ true
equal-same a b e = rw e (same_self b)

-- texts of different lengths do not
pub same_length : (a b : List ℕ) → (length a ≡ length b → ⊥) → same_bytes a b ≡ false
unfolding same_bytes
same_length [] [] h = absurd (h refl)
same_length [] (y ∷ b) h = refl
same_length (x ∷ a) [] h = refl
same_length (x ∷ a) (y ∷ b) h =
    rw (same_length a b (λ e. h (ap suc e))) (both_false (eqb x y))
  where
    both_false : (t : Bool) → (t && false) ≡ false
    both_false true = refl
    both_false false = refl

-- a turn of the gathering loop: one byte more of each is passed
pub same_turn : (t : Bool) (a b : List ℕ) (i : ℕ) → i < length a → i < length b
    → (t && same_bytes (drop i a) (drop i b))
    ≡ (t && eqb (get_or a i 0) (get_or b i 0) && same_bytes (drop (i + 1) a) (drop (i + 1) b))
unfolding same_bytes
same_turn t a b i h k =
    rw (add-one, drop-cons a i 0, drop-cons b i 0)
    (sym (and_assoc t (eqb (get_or a i 0) (get_or b i 0)) (same_bytes (drop (suc i) a) (drop (suc i) b))))

-- nothing is left to compare past the ends
pub same_end : (a b : List ℕ) (i : ℕ) → length a ≤ i → length b ≤ i → same_bytes (drop i a) (drop i b) ≡ true
unfolding same_bytes
same_end a b i h k = rw (drop_of_length-le a {i = i} h, drop_of_length-le b {i = i} k)

-- the slices' own `==`
pub pointwise_same : (a b : List ℕ) → pointwise eqb a b ≡ same_bytes a b
unfolding same_bytes
pointwise_same [] [] = refl
pointwise_same [] (y ∷ b) = refl
pointwise_same (x ∷ a) [] = refl
pointwise_same (x ∷ a) (y ∷ b) = ap (λ (t : Bool). eqb x y && t) (pointwise_same a b)
