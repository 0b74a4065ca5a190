-- A field of two bytes or three, byte by byte.
use mathlib.Core.Path.{◌≡◌, refl}
use mathlib.Core.Bool.{Bool, true, false, cond}
use mathlib.Core.List.{List, [], ◌∷◌}
use Prim.Native.Nat.{ℕ, ◌+◌, ◌/◌, ◌%◌, ◌≤◌, ◌<◌, zero-le}
use native.Mathlib.Omega.{arith}
use lib.Dec.{ltb}
use lib.IntN.{ℤ, pos, negsuc}
use lib.Signed.{mag}
use lib.ListN.{length, set}
use borrow.Author.Tests.{lt-ltb, le-ltb}
use Rattle.text.proofs.Cases.{by_lt}
use Rattle.packed.specs.Packed.{digit_of, half_of, fewest, above, spell, spelling}
use Rattle.packed.specs.Inner.{last_digit}
use Rattle.packed.proofs.Signs.{above-lt}

-- ---- bytes set one after the other

pub set-two : (l : List ℕ) (a b : ℕ) → length l ≡ 2 → set (set l 0 a) 1 b ≡ a ∷ b ∷ []
set-two [] a b e = absurd (omega arith)
set-two (x ∷ []) a b e = absurd (omega arith)
set-two (x ∷ y ∷ []) a b e = refl
set-two (x ∷ y ∷ z ∷ l) a b e = absurd (omega arith)

pub set_three : (l : List ℕ) (a b c : ℕ) → length l ≡ 3 → set (set (set l 0 a) 1 b) 2 c ≡ a ∷ b ∷ c ∷ []
set_three [] a b c e = absurd (omega arith)
set_three (x ∷ []) a b c e = absurd (omega arith)
set_three (x ∷ y ∷ []) a b c e = absurd (omega arith)
set_three (x ∷ y ∷ z ∷ []) a b c e = refl
set_three (x ∷ y ∷ z ∷ w ∷ l) a b c e = absurd (omega arith)

-- ---- they are the spelling

pub shift_le : (t : Bool) → cond t 20 0 ≤ 20
shift_le true = omega arith
shift_le false = omega arith

above_more : (x : ℤ) (h k : ℕ) → mag x < h → above x (h + k) ≡ above x h + k
above_more (pos a) h k l = omega arith
above_more (negsuc a) h k l = omega arith

pub two-spelt : (x : ℤ) → mag x < 800
    → cond (ltb (mag x) 20) 32 (digit_of (above x 800 / 40)) ∷ last_digit (above x 800) (ltb (mag x) 20) ∷ []
    ≡ spelling 2 (fewest 2 (mag x)) x
unfolding half_of fewest spell last_digit
two-spelt x h =
    by_lt (mag x) 20
    (λ (l : mag x < 20).
    let e : above x 800 ≡ above x 20 + 780 = above_more x 20 780 l in
    let d : (above x 800 + 20) % 40 ≡ above x 20 % 40 = omega (arith, e) in
    rw (lt-ltb (mag x) 20 l, le-ltb (mag x) 0 zero-le, d))
    (λ (l : 20 ≤ mag x).
    let d : above x 800 / 40 % 40 ≡ above x 800 / 40 = omega (arith, above-lt x 800 h) in
    let z : above x 800 + 0 ≡ above x 800 = omega arith in
    rw (le-ltb (mag x) 20 l, d, z))

pub three_spelt : (x : ℤ) → mag x < 32000
    → cond (ltb (mag x) 800) 32 (digit_of (above x 32000 / 1600))
    ∷ cond (ltb (mag x) 20) 32 (last_digit (above x 32000 / 40) (ltb (mag x) 800))
    ∷ last_digit (above x 32000) (ltb (mag x) 20)
    ∷ []
    ≡ spelling 3 (fewest 3 (mag x)) x
unfolding half_of fewest spell last_digit
three_spelt x h =
    by_lt (mag x) 20
    (λ (l : mag x < 20).
    let e : above x 32000 ≡ above x 20 + 31980 = above_more x 20 31980 l in
    let d : (above x 32000 + 20) % 40 ≡ above x 20 % 40 = omega (arith, e) in
    rw (lt-ltb (mag x) 20 l, lt-ltb (mag x) 800 (omega arith), le-ltb (mag x) 0 zero-le, d))
    (λ (l : 20 ≤ mag x).
    by_lt (mag x) 800
    (λ (m : mag x < 800).
    let e : above x 32000 ≡ above x 800 + 31200 = above_more x 800 31200 m in
    let d : (above x 32000 / 40 + 20) % 40 ≡ above x 800 / 40 % 40 = omega (arith, e) in
    let f : (above x 32000 + 0) % 40 ≡ above x 800 % 40 = omega (arith, e) in
    rw (le-ltb (mag x) 20 l, lt-ltb (mag x) 800 m, d, f))
    (λ (m : 800 ≤ mag x).
    let d : above x 32000 / 40 / 40 % 40 ≡ above x 32000 / 1600 = omega (arith, above-lt x 32000 h) in
    let z : above x 32000 + 0 ≡ above x 32000 = omega arith in
    let y : above x 32000 / 40 + 0 ≡ above x 32000 / 40 = omega arith in
    rw (le-ltb (mag x) 20 l, le-ltb (mag x) 800 m, d, z, y)))
