-- Digits: a byte and its worth, a number and its spelling.
use mathlib.Core.Path.{◌≡◌, refl, sym, ap, ◌∙◌}
use mathlib.Core.Bool.{true, cond}
use mathlib.Core.List.{List, [], ◌∷◌}
use Prim.Native.Nat.{ℕ, zero, suc, ◌+◌, ◌*◌, ◌/◌, ◌%◌, ◌^◌, ◌≤◌, ◌<◌}
use native.Mathlib.Omega.{arith}
use native.Mathlib.Nat.{pow-suc, pow-zero, mul_assoc}
use lib.Dec.{ltb}
use lib.ListN.{length}
use borrow.Author.Tests.{lt-ltb, ltb-true, ne_eqb, lt-leb, le-leb}
use Rattle.text.proofs.Cases.{by_lt, both_left, both_right}
use Rattle.text.proofs.Table.{agree}
use Rattle.packed.specs.Packed.{worth_of, digit_of, number, all_digits, spell}

-- the digit of a worth is worth that
pub worth_digit : (n : ℕ) → n < 40 → worth_of (digit_of n) ≡ n
unfolding worth_of digit_of
worth_digit n h = agree (λ (k : ℕ). worth_of (digit_of k)) (λ (k : ℕ). k) 40 refl n h

-- no byte above Z is a digit
pub worth_high : (b : ℕ) → 90 < b → worth_of b ≡ 40
unfolding worth_of
worth_high b h =
    rw (
      le-leb 48 b (omega arith),
      lt-leb b 57 (omega arith),
      le-leb 65 b (omega arith),
      lt-leb b 90 (omega arith),
      ne_eqb b 58 (omega arith),
      ne_eqb b 44 (omega arith),
      ne_eqb b 45 (omega arith),
      ne_eqb b 46 (omega arith),
    )

-- below it, a byte that is a digit is the digit of its worth: one computed comparison
kept : ℕ → ℕ
kept b = cond (ltb (worth_of b) 40) (digit_of (worth_of b)) b

kept-own : (b : ℕ) → b < 91 → kept b ≡ b
unfolding kept worth_of digit_of
kept-own b h = agree kept (λ (k : ℕ). k) 91 refl b h

digit_low : (b : ℕ) → b < 91 → worth_of b < 40 → digit_of (worth_of b) ≡ b
unfolding kept
digit_low b h d = rw (lt-ltb (worth_of b) 40 d) at (kept-own b h)

pub digit_worth : (b : ℕ) → worth_of b < 40 → digit_of (worth_of b) ≡ b
digit_worth b h =
    by_lt 90 b
    (λ (l : 90 < b). absurd (let e = worth_high b l in omega arith))
    (λ (l : b ≤ 90). digit_low b (omega arith) h)

-- a space and a solidus are no digits
pub space_none : worth_of 32 ≡ 40
unfolding worth_of
space_none = refl

pub solidus_none : worth_of 47 ≡ 40
unfolding worth_of
solidus_none = refl

-- ---- a spelling's digits, their number and what they spell

pub spell-length : (k n : ℕ) (ds : List ℕ) → length (spell k n ds) ≡ k + length ds
unfolding spell
spell-length zero n ds = omega arith
spell-length (suc k) n ds = spell-length k (n / 40) (digit_of (n % 40) ∷ ds) ∙ omega arith

pub spell-digits : (k n : ℕ) (ds : List ℕ) → all_digits ds ≡ true → all_digits (spell k n ds) ≡ true
unfolding spell all_digits
spell-digits zero n ds e = e
spell-digits (suc k) n ds e =
    spell-digits k (n / 40) (digit_of (n % 40) ∷ ds)
    (rw (worth_digit (n % 40) (omega arith), lt-ltb (n % 40) 40 (omega arith)) e)

pub number-spell : (k m n : ℕ) (ds : List ℕ) → n < 40 ^ k → number m (spell k n ds) ≡ number (m * 40 ^ k + n) ds
unfolding spell number
number-spell zero m n ds h =
    let e : m ≡ m * 40 ^ zero + n = rw (pow-zero 40) (omega (arith, rw (pow-zero 40) at h)) in
    ap (λ (v : ℕ). number v ds) e
number-spell (suc k) m n ds h =
    let p : n < 40 ^ k * 40 = rw (pow-suc 40 k) at h in
    let e : (m * 40 ^ k + n / 40) * 40 + n % 40 ≡ m * 40 ^ suc k + n =
    rw (pow-suc 40 k, ← mul_assoc m (40 ^ k) 40) (omega arith) in
    number-spell k m (n / 40) (digit_of (n % 40) ∷ ds) (omega arith)
    ∙ rw (worth_digit (n % 40) (omega arith)) (ap (λ (v : ℕ). number v ds) e)

-- digits of one number and of one length are the same
pub number_same : (ds es : List ℕ) (m n : ℕ) → length ds ≡ length es → all_digits ds ≡ true → all_digits es ≡ true
    → number m ds ≡ number n es → (m ≡ n) × (ds ≡ es)
unfolding number all_digits
number_same [] [] m n l a b e = (e, refl)
number_same [] (y ∷ es) m n l a b e = absurd (omega arith)
number_same (x ∷ ds) [] m n l a b e = absurd (omega arith)
number_same (x ∷ ds) (y ∷ es) m n l a b e =
    let p = both_left (ltb (worth_of x) 40) (all_digits ds) a in
    let q = both_left (ltb (worth_of y) 40) (all_digits es) b in
    let r =
    number_same ds es (m * 40 + worth_of x) (n * 40 + worth_of y) (omega arith)
    (both_right (ltb (worth_of x) 40) (all_digits ds) a) (both_right (ltb (worth_of y) 40) (all_digits es) b) e in
    let u : worth_of x < 40 = ltb-true (worth_of x) 40 p in
    let v : worth_of y < 40 = ltb-true (worth_of y) 40 q in
    let s : m * 40 + worth_of x ≡ n * 40 + worth_of y = r.0 in
    let w : worth_of x ≡ worth_of y = omega arith in
    let z : x ≡ y = sym (digit_worth x u) ∙ ap digit_of w ∙ digit_worth y v in
    (omega arith, rw (z, r.1))
