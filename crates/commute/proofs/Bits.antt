-- The bits of a test over some numbers.
use mathlib.Core.Path.{◌≡◌, refl, sym, ap, ◌∙◌}
use mathlib.Core.Bool.{Bool, true, false, cond}
use mathlib.Core.List.{List, [], ◌∷◌}
use Prim.Native.Nat.{ℕ, zero, suc, ◌+◌, ◌*◌, ◌/◌, ◌%◌, ◌^◌, ◌≤◌, ◌<◌}
use native.Mathlib.Omega.{arith}
use native.Mathlib.Nat.{pow-zero, pow-succ', two-pow-succ, pow-le-pow_right, div-one, div-div-eq-div-mul}
use lib.Dec.{lit<}
use mir.Val.{bool_byte}
use lib.ListN.{length, get_or}
use Rattle.command.proofs.Each.{Each}
use Rattle.commute.specs.Commute.{bits_of, bit}

-- one more bit at the low end
one_bit : (n : ℕ) (t : Bool) → ((2 * n + cond t 1 0) % 2 ≡ cond t 1 0) × ((2 * n + cond t 1 0) / 2 ≡ n)
one_bit n true = (omega arith, omega arith)
one_bit n false = (omega arith, omega arith)

-- bit i is the test of number i
pub bit_is : (test : ℕ → Bool) (ks : List ℕ) (i : ℕ) → i < length ks → bit i (bits_of test ks) ≡ cond (test (get_or ks i 0)) 1 0
unfolding bits_of
bit_is test [] i h = absurd (omega arith)
bit_is test (k ∷ ks) zero h =
    let n = 2 * bits_of test ks + cond (test k) 1 0 in
    ap (λ (d : ℕ). n / d % 2) (pow-zero 2) ∙ ap (λ (m : ℕ). m % 2) (div-one n) ∙ (one_bit (bits_of test ks) (test k)).0
bit_is test (k ∷ ks) (suc i) h =
    let n = 2 * bits_of test ks + cond (test k) 1 0 in
    ap (λ (d : ℕ). n / d % 2) (pow-succ' 2 i)
    ∙ ap (λ (m : ℕ). m % 2) (sym (div-div-eq-div-mul n 2 (2 ^ i)))
    ∙ ap (λ (m : ℕ). m / 2 ^ i % 2) (one_bit (bits_of test ks) (test k)).1
    ∙ bit_is test ks i (omega arith)

-- a test as a byte
pub byte_is : (t : Bool) → bool_byte t ≡ cond t 1 0
byte_is true = refl
byte_is false = refl

-- a bit is 0 or 1
pub bit-most : (t : Bool) → cond t 1 0 ≤ 1
bit-most true = omega arith
bit-most false = omega arith

-- there are no more bits than numbers
bits_most : (test : ℕ → Bool) (ks : List ℕ) → bits_of test ks < 2 ^ length ks
unfolding bits_of
bits_most test [] = omega arith
bits_most test (k ∷ ks) = rw (two-pow-succ (length ks)) (go (test k) (bits_most test ks))
  where
    go : (t : Bool) → bits_of test ks < 2 ^ length ks → 2 * bits_of test ks + cond t 1 0 < 2 ^ length ks + 2 ^ length ks
    go true h = omega arith
    go false h = omega arith

pub bits_under : (test : ℕ → Bool) (ks : List ℕ) (n : ℕ) → length ks ≤ n → bits_of test ks < 2 ^ n
bits_under test ks n h =
    omega (arith, bits_most test ks, pow-le-pow_right {n = 2} (lit< tt) {i = length ks} {j = n} h)

-- 0 just where the test fails at each
pub none_bits : (test : ℕ → Bool) (ks : List ℕ) → Each (λ k. test k ≡ false) ks → bits_of test ks ≡ 0
unfolding bits_of
none_bits test [] e = refl
none_bits test (k ∷ ks) e = rw (e.0, none_bits test ks e.1)

pub bits_none : (test : ℕ → Bool) (ks : List ℕ) → bits_of test ks ≡ 0 → Each (λ k. test k ≡ false) ks
unfolding bits_of
bits_none test [] e = tt
bits_none test (k ∷ ks) e = (low (test k) e, bits_none test ks (omega (arith, e)))
  where
    low : (t : Bool) → 2 * bits_of test ks + cond t 1 0 ≡ 0 → t ≡ false
    low true z = absurd (omega arith)
    low false z = refl
