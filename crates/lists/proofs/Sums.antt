-- A number that is 0 only where others are tells of all of them at once.
use mathlib.Core.Path.{◌≡◌, sym, ◌∙◌}
use mathlib.Core.Bool.{◌&&◌, and_assoc}
use Prim.Native.Nat.{ℕ, ◌+◌, ◌*◌}
use native.Mathlib.Omega.{arith}
use lib.Dec.{eqb}
use borrow.Author.Tests.{eq-eqb, ne_eqb}
use Rattle.text.proofs.Cases.{by_eq}

zero-sum : (n a b : ℕ) → (n ≡ 0 → (a ≡ 0) × (b ≡ 0)) → (a ≡ 0 → b ≡ 0 → n ≡ 0) → eqb n 0 ≡ (eqb a 0 && eqb b 0)
zero-sum n a b f g =
    by_eq
    a
    0
    (λ p. by_eq b 0 (λ q. rw (eq-eqb a 0 p, eq-eqb b 0 q) (eq-eqb n 0 (g p q))) (λ q. rw (eq-eqb a 0 p, ne_eqb b 0 q) (ne_eqb n 0 (λ e. q (f e).1))))
    (λ p. rw (ne_eqb a 0 p) (ne_eqb n 0 (λ e. p (f e).0)))

-- the two bytes of an edge
pub bytes_zero : (a b : ℕ) → eqb (a + 256 * b) 0 ≡ (eqb a 0 && eqb b 0)
bytes_zero a b = zero-sum (a + 256 * b) a b (λ e. (omega arith, omega arith)) (λ p q. omega arith)

-- two edges
edges-zero : (a b : ℕ) → eqb (a + 65536 * b) 0 ≡ (eqb a 0 && eqb b 0)
edges-zero a b = zero-sum (a + 65536 * b) a b (λ e. (omega arith, omega arith)) (λ p q. omega arith)

-- two pairs of edges
pairs_zero : (a b : ℕ) → eqb (a + 4294967296 * b) 0 ≡ (eqb a 0 && eqb b 0)
pairs_zero a b = zero-sum (a + 4294967296 * b) a b (λ e. (omega arith, omega arith)) (λ p q. omega arith)

-- the four edges of a box
pub four_zero : (n s w e : ℕ) → eqb (n + 65536 * s + 4294967296 * (w + 65536 * e)) 0 ≡ (eqb n 0 && eqb s 0 && eqb w 0 && eqb e 0)
four_zero n s w e =
    pairs_zero (n + 65536 * s) (w + 65536 * e)
    ∙ rw (edges-zero n s, edges-zero w e) (sym (and_assoc (eqb n 0 && eqb s 0) (eqb w 0) (eqb e 0)))
