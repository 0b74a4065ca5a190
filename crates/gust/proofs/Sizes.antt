-- How far from zero sums, products and quotients may be, and when they are above it.
use mathlib.Core.Path.{◌≡◌, refl}
use mathlib.Core.Bool.{true, false}
use Prim.Native.Nat.{ℕ, zero, suc, ◌+◌, ◌-◌, ◌*◌, ◌^◌, ◌<◌, ◌≤◌}
use native.Mathlib.Omega.{arith}
use native.Mathlib.Nat.{le_refl, le_trans, mul-le-mul, mul-le-mul_left, mul_comm, div-le_of_le-mul, div-lt_iff_lt-mul}
use lib.Dec.{ltb}
use lib.IntN.{ℤ, pos, negsuc, neg_ℤ, nat_abs, sub_ℕ, ◌+ℤ◌, ◌-ℤ◌, ◌*ℤ◌}
use lib.Signed.{mag, lt_z, le_z}
use mir.Syntax.{w64}
use mir.Val.{SFits, to_z, of_z}
use mir.Facts.{to_z-of_z}
use borrow.Author.Rules.{sfits_of}
use borrow.Author.Tests.{lt-ltb, le-ltb, leb-true}
use Rattle.text.proofs.Cases.{by_lt}
use Rattle.gust.specs.Floor.{◌over◌}
use Rattle.gust.proofs.Division.{above_zero, size-above-zero}

difference-size : (a b : ℕ) → nat_abs (sub_ℕ a b) ≤ a + b
difference-size a b =
    by_lt a b (λ (l : a < b). rw (lt-ltb a b l) (omega arith)) (λ (l : b ≤ a). rw (le-ltb a b l) (omega arith))

sum-size : (x y : ℤ) → nat_abs (x +ℤ y) ≤ nat_abs x + nat_abs y
sum-size (pos a) (pos b) = le_refl (a + b)
sum-size (pos a) (negsuc b) = difference-size a (suc b)
sum-size (negsuc a) (pos b) = let h = difference-size b (suc a) in omega (arith, h)
sum-size (negsuc a) (negsuc b) = omega arith

negative_size : (x : ℤ) → nat_abs (neg_ℤ x) ≡ nat_abs x
negative_size (pos zero) = refl
negative_size (pos (suc a)) = refl
negative_size (negsuc a) = refl

product_size : (x y : ℤ) → nat_abs (x *ℤ y) ≡ nat_abs x * nat_abs y
product_size (pos a) (pos b) = refl
product_size (pos a) (negsuc b) = negative_size (pos (a * suc b))
product_size (negsuc a) (pos b) = negative_size (pos (suc a * b))
product_size (negsuc a) (negsuc b) = refl

module _ (x y : ℤ) {a b : ℕ} (p : nat_abs x ≤ a) (q : nat_abs y ≤ b) where
  pub sum-within : nat_abs (x +ℤ y) ≤ a + b
  sum-within = let h = sum-size x y in omega (arith, h, p, q)

  pub less_within : nat_abs (x -ℤ y) ≤ a + b
  less_within = let h = sum-size x (neg_ℤ y) in let e = negative_size y in omega (arith, h, e, p, q)

  pub product_within : nat_abs (x *ℤ y) ≤ a * b
  product_within = rw (product_size x y) (mul-le-mul p q)

-- a number that is not too far from zero is one of 64 bits
pub fits : (z : ℤ) {b : ℕ} → nat_abs z ≤ b → b < 2 ^ 63 → SFits w64 z
fits (pos a) p q = sfits_of (omega (arith, p, q))
fits (negsuc a) p q = sfits_of (omega (arith, p, q))

-- and is read back from its bits
pub kept : (z : ℤ) {b : ℕ} → nat_abs z ≤ b → b < 2 ^ 63 → to_z w64 (of_z w64 z) ≡ z
kept z p q = to_z-of_z (fits z p q)

-- a quotient, where the divisor is at least k
quotient_within : (x : ℤ) (d q : ℕ) → 0 < d → nat_abs x ≤ q * d → nat_abs (x over (pos d)) ≤ q
unfolding ◌over◌
quotient_within (pos a) d q h p = div-le_of_le-mul d (rw (mul_comm d q) p)
quotient_within (negsuc a) d q h p = (div-lt_iff_lt-mul {k = d} {x = a} {y = q} h).1 p

pub over-within : (x d : ℤ) {a k : ℕ} (q : ℕ) → lt_z (pos 0) d ≡ true → k ≤ mag d → nat_abs x ≤ a → a ≤ q * k → nat_abs (x over d) ≤ q
over-within x d {a} {k} q h l p e =
    rw (above_zero d h)
    (quotient_within x (mag d) q (size-above-zero d h) (le_trans p (le_trans e (mul-le-mul_left q l))))

-- a sum that stays above zero
pub sum-above : (x y : ℤ) (a b : ℕ) → le_z (pos a) x ≡ true → le_z (negsuc b) y ≡ true → suc b < a
    → (lt_z (pos 0) (x +ℤ y) ≡ true) × (a - suc b ≤ mag (x +ℤ y))
sum-above (pos n) (pos k) a b p q h = let l = leb-true a n p in (lt-ltb 0 (n + k) (omega (arith, l, h)), omega (arith, l))
sum-above (pos n) (negsuc k) a b p q h =
    let l = leb-true a n p in
    let g = leb-true k b q in
    let e : ltb n (suc k) ≡ false = le-ltb n (suc k) (omega (arith, l, g, h)) in
    rw e (lt-ltb 0 (n - suc k) (omega (arith, l, g, h)), omega (arith, l, g, h))
sum-above (negsuc n) y a b p q h = let z : ◌≡◌ {A = ℕ} 0 1 = cc in absurd (omega arith)

-- a product of numbers above zero
pub product_above : (k : ℕ) (x : ℤ) (a : ℕ) → le_z (pos a) x ≡ true → 0 < k * a
    → (lt_z (pos 0) (pos k *ℤ x) ≡ true) × (k * a ≤ mag (pos k *ℤ x))
product_above k (pos n) a p h =
    let l = mul-le-mul_left k (leb-true a n p) in (lt-ltb 0 (k * n) (le_trans h l), l)
product_above k (negsuc n) a p h = let z : ◌≡◌ {A = ℕ} 0 1 = cc in absurd (omega arith)
