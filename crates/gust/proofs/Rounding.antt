-- Division rounded down lies between the two products that it should, and nothing else does.
use mathlib.Core.Path.{◌≡◌, refl, sym, ap, subst}
use mathlib.Core.Bool.{Bool, true, false, not}
use Prim.Native.Nat.{ℕ, zero, suc, ◌*◌, ◌/◌, ◌<◌, ◌≤◌, zero-le, suc-le-suc}
use native.Mathlib.Omega.{arith}
use native.Mathlib.Nat.{le_antisymm, le_of_suc-le-suc, suc-mul, mul-le-mul_right, div-mul-le_self, lt-div-mul-add, not-suc-le-zero}
use lib.Dec.{T, le→leb, lt→ltb, leb→le, ltb→lt}
use lib.IntN.{ℤ, pos, negsuc, neg_ℤ, suc_ℤ, +ℤ_one, ◌*ℤ◌}
use lib.Signed.{mag, lt_z, le_z, lt_z_no, ◌≤ℤ◌, ◌<ℤ◌, <ℤ-≤ℤ_trans, <ℤ_irrefl}
use Rattle.gust.specs.Floor.{◌over◌}
use Rattle.gust.specs.Words.{Down}
use Rattle.gust.proofs.Division.{above_zero, size-above-zero}

-- ---- Numbers below zero

neg_le : (n a : ℕ) → suc a ≤ n → T (le_z (neg_ℤ (pos n)) (negsuc a))
neg_le zero a h = absurd (not-suc-le-zero h)
neg_le (suc n) a h = le→leb a n (omega (arith, h))

lt_neg : (n a : ℕ) → n ≤ a → T (lt_z (negsuc a) (neg_ℤ (pos n)))
lt_neg zero a h = tt
lt_neg (suc n) a h = lt→ltb n a h

neg_neg : (m n : ℕ) → n ≤ m → T (le_z (neg_ℤ (pos m)) (neg_ℤ (pos n)))
neg_neg zero zero h = tt
neg_neg zero (suc n) h = absurd (not-suc-le-zero h)
neg_neg (suc m) zero h = tt
neg_neg (suc m) (suc n) h = le→leb n m (omega (arith, h))

neg_pos : (n m : ℕ) → T (le_z (neg_ℤ (pos n)) (pos m))
neg_pos zero m = le→leb 0 m zero-le
neg_pos (suc n) m = tt

-- ---- It lies between them

below_it : (x : ℤ) (d : ℕ) → 0 < d → T (le_z ((x over (pos d)) *ℤ pos d) x)
unfolding ◌over◌
below_it (pos a) d h = le→leb (a / d * d) a (div-mul-le_self a d)
below_it (negsuc a) d h = neg_le (suc (a / d) * d) a (rw (suc-mul (a / d) d) (lt-div-mul-add {a = a} {b = d} h))

next-above : (q d a : ℕ) → q * d ≤ a → T (lt_z (negsuc a) (suc_ℤ (negsuc q) *ℤ pos d))
next-above zero d a h = tt
next-above (suc q) d a h = lt_neg (suc q * d) a h

above_it : (x : ℤ) (d : ℕ) → 0 < d → T (lt_z x (suc_ℤ (x over (pos d)) *ℤ pos d))
unfolding ◌over◌
above_it (pos a) d h = lt→ltb a (suc (a / d) * d) (rw (suc-mul (a / d) d) (lt-div-mul-add {a = a} {b = d} h))
above_it (negsuc a) d h = next-above (a / d) d a (div-mul-le_self a d)

down : (x : ℤ) (d : ℕ) → 0 < d → Down (x over (pos d)) x (pos d)
down x d h =
    record {
      least = record { le = below_it x d h };
      most = record { lt = rw (+ℤ_one (x over (pos d))) (above_it x d h) };
    }

pub over-down : (x d : ℤ) → lt_z (pos 0) d ≡ true → Down (x over d) x d
over-down x d h = rw (above_zero d h) (down x (mag d) (size-above-zero d h))

-- ---- and nothing else does

times : (s q : ℤ) (d : ℕ) → s ≤ℤ q → (s *ℤ pos d) ≤ℤ (q *ℤ pos d)
times (pos a) (pos b) d h = record { le = le→leb (a * d) (b * d) (mul-le-mul_right d (leb→le a b h.le)) }
times (pos a) (negsuc b) d h = absurd h.le
times (negsuc a) (pos b) d h = record { le = neg_pos (suc a * d) (b * d) }
times (negsuc a) (negsuc b) d h =
    record { le = neg_neg (suc a * d) (suc b * d) (mul-le-mul_right d (suc-le-suc (leb→le b a h.le))) }

not-next : (q r : ℤ) → T (lt_z q (suc_ℤ r)) → T (le_z q r)
not-next (pos a) (pos b) h = le→leb a b (le_of_suc-le-suc (ltb→lt a (suc b) h))
not-next (pos a) (negsuc zero) h = absurd (not-suc-le-zero (ltb→lt a 0 h))
not-next (pos a) (negsuc (suc b)) h = h
not-next (negsuc a) (pos b) h = tt
not-next (negsuc a) (negsuc zero) h = le→leb 0 a zero-le
not-next (negsuc a) (negsuc (suc b)) h = h

both_ways : (q r : ℤ) → T (le_z q r) → T (le_z r q) → q ≡ r
both_ways (pos a) (pos b) h k = ap pos (le_antisymm (leb→le a b h) (leb→le b a k))
both_ways (pos a) (negsuc b) h k = absurd h
both_ways (negsuc a) (pos b) h k = absurd k
both_ways (negsuc a) (negsuc b) h k = ap negsuc (le_antisymm (leb→le a b k) (leb→le b a h))

no_more : (q r x : ℤ) (d : ℕ) → Down q x (pos d) → Down r x (pos d) → T (le_z q r)
no_more q r x d f g = go (lt_z q (suc_ℤ r)) refl
  where
    go : (t : Bool) → lt_z q (suc_ℤ r) ≡ t → T (le_z q r)
    go true e = not-next q r (subst T (sym e) tt)
    go false e =
        let h : suc_ℤ r ≤ℤ q = lt_z_no (subst (λ (t : Bool). T (not t)) (sym e) tt) in
        let m : x <ℤ (suc_ℤ r *ℤ pos d) = subst (λ (y : ℤ). x <ℤ (y *ℤ pos d)) (+ℤ_one r) g.most in
        absurd (<ℤ_irrefl (<ℤ-≤ℤ_trans (<ℤ-≤ℤ_trans m (times (suc_ℤ r) q d h)) f.least))

-- one quotient
pub down_once : (q r x d : ℤ) → lt_z (pos 0) d ≡ true → Down q x d → Down r x d → q ≡ r
down_once q r x d h f g =
    let e = above_zero d h in
    let f' : Down q x (pos (mag d)) = subst (Down q x) e f in
    let g' : Down r x (pos (mag d)) = subst (Down r x) e g in
    both_ways q r (no_more q r x (mag d) f' g') (no_more r q x (mag d) g' f')
