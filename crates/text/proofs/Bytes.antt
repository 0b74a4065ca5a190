-- Bytes that are one of few, and the bytes of names among them.
use mathlib.Core.Path.{◌≡◌, refl, sym, ◌∙◌}
use mathlib.Core.Bool.{Bool, true, false, cond, ◌&&◌}
use mathlib.Core.List.{List, [], ◌∷◌}
use Prim.Native.Nat.{ℕ, ◌≤◌, ◌<◌}
use native.Mathlib.Omega.{arith}
use lib.Dec.{ltb}
use borrow.Author.Tests.{ltb-true, le-leb, lt-leb, ne_eqb}
use Rattle.text.specs.Names.{allowed, all_allowed}
use Rattle.text.specs.Bytes.{is_one_of, all_one_of, name_bytes}
use Rattle.text.proofs.Cases.{by_lt, both_left, both_right}
use Rattle.text.proofs.Table.{agree}

-- every one of them is below n
abbrev pub all_below : ℕ → List ℕ → Bool
all_below n [] = true
all_below n (x ∷ xs) = ltb x n && all_below n xs

-- a byte that none of them reaches is none of them
pub none_above : (xs : List ℕ) (n b : ℕ) → all_below n xs ≡ true → n ≤ b → is_one_of xs b ≡ false
unfolding is_one_of
none_above [] n b e h = refl
none_above (x ∷ xs) n b e h =
    let l = ltb-true x n (both_left (ltb x n) (all_below n xs) e) in
    rw (ne_eqb b x (λ (z : b ≡ x). omega arith)) (none_above xs n b (both_right (ltb x n) (all_below n xs) e) h)

one-or-none : (s t : Bool) → ◌≡◌ {A = ℕ} (cond s 1 0) (cond t 1 0) → s ≡ t
one-or-none true true e = refl
one-or-none true false e = absurd (omega arith)
one-or-none false true e = absurd (omega arith)
one-or-none false false e = refl

-- two tests that agree below 128, where antt computes them, and fail from there on, agree
pub tests_agree : (f g : ℕ → Bool) → ((b : ℕ) → b < 128 → ◌≡◌ {A = ℕ} (cond (f b) 1 0) (cond (g b) 1 0)) → ((b : ℕ) → 128 ≤ b → f b ≡ false)
    → ((b : ℕ) → 128 ≤ b → g b ≡ false) → (b : ℕ) → f b ≡ g b
tests_agree f g low hf hg b =
    by_lt b 128 (λ (h : b < 128). one-or-none (f b) (g b) (low b h)) (λ (h : 128 ≤ b). hf b h ∙ sym (hg b h))

-- a byte is allowed in a name where it is one of `A` to `Z` or `0` to `9`
pub allowed-is : (b : ℕ) → allowed b ≡ is_one_of name_bytes b
unfolding allowed is_one_of
allowed-is =
    tests_agree allowed (is_one_of name_bytes)
    (agree (λ (b : ℕ). cond (allowed b) 1 0) (λ (b : ℕ). cond (is_one_of name_bytes b) 1 0) 128 refl)
    (λ (b : ℕ) (h : 128 ≤ b). rw (le-leb 65 b (omega arith), lt-leb b 90 (omega arith), le-leb 48 b (omega arith), lt-leb b 57 (omega arith)))
    (λ (b : ℕ) (h : 128 ≤ b). none_above name_bytes 128 b refl h)

-- and so is a name where each of its bytes is
pub all-allowed-is : (s : List ℕ) → all_allowed s ≡ all_one_of name_bytes s
unfolding all_allowed all_one_of
all-allowed-is [] = refl
all-allowed-is (b ∷ s) = rw (allowed-is b, all-allowed-is s)
