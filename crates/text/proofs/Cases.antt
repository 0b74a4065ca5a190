-- Going by cases on a test, with what the test says in hand.
use mathlib.Core.Path.{◌≡◌, refl}
use mathlib.Core.Bool.{Bool, true, false, ◌&&◌}
use Prim.Native.Nat.{ℕ, ◌≤◌, ◌<◌}
use lib.Dec.{ltb, leb, eqb}
use borrow.Author.Tests.{ltb-true, ltb-false, leb-true, leb-false, eqb-true, eqb-false}

pub by_test {ℓ} : (t : Bool) {P : Type ℓ} → (t ≡ true → P) → (t ≡ false → P) → P
by_test true f g = f refl
by_test false f g = g refl

pub by_lt {ℓ} : (m n : ℕ) {P : Type ℓ} → (m < n → P) → (n ≤ m → P) → P
by_lt m n f g = by_test (ltb m n) (λ e. f (ltb-true m n e)) (λ e. g (ltb-false m n e))

pub by_le {ℓ} : (m n : ℕ) {P : Type ℓ} → (m ≤ n → P) → (n < m → P) → P
by_le m n f g = by_test (leb m n) (λ e. f (leb-true m n e)) (λ e. g (leb-false m n e))

pub by_eq {ℓ} : (m n : ℕ) {P : Type ℓ} → (m ≡ n → P) → ((m ≡ n → ⊥) → P) → P
by_eq m n f g = by_test (eqb m n) (λ e. f (eqb-true m n e)) (λ e. g (eqb-false m n e))

-- two tests that hold together hold each
pub both_left : (s t : Bool) → (s && t) ≡ true → s ≡ true
both_left true t e = refl
both_left false t e = e

pub both_right : (s t : Bool) → (s && t) ≡ true → t ≡ true
both_right true t e = e
both_right false true e = refl
both_right false false e = e
