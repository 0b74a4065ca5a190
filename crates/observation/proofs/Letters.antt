-- Kind and quality, letter by letter.
use mathlib.Core.Path.{◌≡◌, refl}
use mathlib.Core.Bool.{false, cond}
use Prim.Native.Nat.{ℕ, ◌≤◌}
use native.Mathlib.Omega.{arith}
use borrow.Author.Tests.{ne_eqb, le-leb, lt-leb}
use Rattle.text.specs.Bytes.{bytes, is_one_of}
use Rattle.text.proofs.Bytes.{tests_agree, none_above}
use Rattle.text.proofs.Table.{agree}
use Rattle.observation.specs.Observation.{is_kind, is_quality}

-- "kind P (one of A D R W U E)"
pub kind-is : (b : ℕ) → is_kind b ≡ is_one_of (bytes "ADRWUE") b
unfolding is_one_of
kind-is =
    tests_agree is_kind (is_one_of (bytes "ADRWUE"))
    (agree (λ (b : ℕ). cond (is_kind b) 1 0) (λ (b : ℕ). cond (is_one_of (bytes "ADRWUE") b) 1 0) 128 refl)
    (λ (b : ℕ) (h : 128 ≤ b). kind-above b h)
    (λ (b : ℕ) (h : 128 ≤ b). none_above (bytes "ADRWUE") 128 b refl h)
  where
    kind-above : (b : ℕ) → 128 ≤ b → is_kind b ≡ false
    kind-above b h =
        rw (ne_eqb b 65 (λ (e : b ≡ 65). omega arith), ne_eqb b 68 (λ (e : b ≡ 68). omega arith), ne_eqb b 82 (λ (e : b ≡ 82). omega arith), ne_eqb b 87 (λ (e : b ≡ 87). omega arith), ne_eqb b 85 (λ (e : b ≡ 85). omega arith), ne_eqb b 69 (λ (e : b ≡ 69). omega arith))

-- "quality 1 (`0`-`9` or `/`)"
pub quality-is : (b : ℕ) → is_quality b ≡ is_one_of (bytes "0123456789/") b
unfolding is_one_of
quality-is =
    tests_agree is_quality (is_one_of (bytes "0123456789/"))
    (agree (λ (b : ℕ). cond (is_quality b) 1 0) (λ (b : ℕ). cond (is_one_of (bytes "0123456789/") b) 1 0) 128 refl)
    (λ (b : ℕ) (h : 128 ≤ b). rw (le-leb 48 b (omega arith), lt-leb b 57 (omega arith), ne_eqb b 47 (λ (e : b ≡ 47). omega arith)))
    (λ (b : ℕ) (h : 128 ≤ b). none_above (bytes "0123456789/") 128 b refl h)
