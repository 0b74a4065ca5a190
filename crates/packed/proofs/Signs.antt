-- The steps between signed and unsigned numbers.
use mathlib.Core.Path.{◌≡◌, refl, sym, ap, ◌∙◌}
use mathlib.Core.Bool.{true, false}
use Prim.Native.Nat.{ℕ, zero, suc, ◌+◌, ◌-◌, ◌≤◌, ◌<◌, zero-le}
use native.Mathlib.Omega.{arith}
use native.Mathlib.Nat.{not-suc-le-zero}
use lib.IntN.{ℤ, pos, negsuc, sub_ℕ, ◌+ℤ◌, ◌-ℤ◌}
use lib.Signed.{mag, lt_z}
use borrow.Author.Tests.{lt-ltb, le-ltb, ltb-true}
use Rattle.text.proofs.Cases.{by_lt}
use Rattle.packed.specs.Packed.{above}

-- a difference by cases
pub sub-below : (n h : ℕ) → n < h → sub_ℕ n h ≡ negsuc (h - suc n)
sub-below n h p = rw (lt-ltb n h p)

pub sub-above : (n h : ℕ) → h ≤ n → sub_ℕ n h ≡ pos (n - h)
sub-above n h p = rw (le-ltb n h p)

-- pos n - pos h is n less h
pub sub_pos : (n h : ℕ) → pos n -ℤ pos h ≡ sub_ℕ n h
sub_pos n zero = ap pos (omega arith) ∙ sym (sub-above n 0 zero-le)
sub_pos n (suc h) = refl

pub sub_mag : (n h b : ℕ) → n < b → h ≤ b → mag (sub_ℕ n h) < b
sub_mag n h b p q =
    by_lt n h (λ (l : n < h). rw (sub-below n h l) (omega arith)) (λ (l : h ≤ n). rw (sub-above n h l) (omega arith))

-- below zero, -1 - x is x's size
pub neg_size : (x : ℤ) → lt_z x (pos 0) ≡ true → negsuc 0 -ℤ x ≡ pos (mag x)
neg_size (pos a) e = absurd (not-suc-le-zero (ltb-true a 0 e))
neg_size (negsuc a) e = sub-above (suc a) 1 (omega arith) ∙ ap pos (omega arith)

pub pos_size : (x : ℤ) → lt_z x (pos 0) ≡ false → x ≡ pos (mag x)
pos_size (pos a) e = refl
pos_size (negsuc a) e = cc

-- x + h, where h holds x
pub plus_above : (x : ℤ) (h : ℕ) → mag x < h → x +ℤ pos h ≡ pos (above x h)
plus_above (pos a) h p = ap pos (omega arith)
plus_above (negsuc a) h p = sub-above h (suc a) (omega arith)

pub above-lt : (x : ℤ) (h : ℕ) → mag x < h → above x h < h + h
above-lt (pos a) h p = omega arith
above-lt (negsuc a) h p = omega arith

-- taking h away again
pub sub-above-back : (x : ℤ) (h : ℕ) → mag x < h → sub_ℕ (above x h) h ≡ x
sub-above-back (pos a) h p = sub-above (a + h) h (omega arith) ∙ ap pos (omega arith)
sub-above-back (negsuc a) h p = sub-below (h - suc a) h (omega arith) ∙ ap negsuc (omega arith)

-- and putting it back
pub above-sub-back : (n h : ℕ) → above (sub_ℕ n h) h ≡ n
above-sub-back n h =
    by_lt n h
    (λ (l : n < h). rw (sub-below n h l) (omega arith))
    (λ (l : h ≤ n). rw (sub-above n h l) (omega arith))
