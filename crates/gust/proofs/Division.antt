-- Division rounded down, by the signs, as the machine's own division comes to it.
use mathlib.Core.Path.{◌≡◌, refl, ap}
use mathlib.Core.Bool.{true, false}
use Prim.Native.Nat.{ℕ, zero, suc, ◌/◌, ◌<◌}
use native.Mathlib.Omega.{arith}
use native.Mathlib.Nat.{not-suc-le-zero}
use lib.Dec.{ltb}
use lib.IntN.{ℤ, pos, negsuc, ◌-ℤ◌}
use lib.Signed.{mag, lt_z}
use borrow.Author.Tests.{le-ltb, ltb-true}
use Rattle.gust.specs.Floor.{◌over◌}

-- a number above zero is its size, and that is above zero
pub above_zero : (d : ℤ) → lt_z (pos 0) d ≡ true → d ≡ pos (mag d)
above_zero (pos d) e = refl
above_zero (negsuc d) e = cc

pub size-above-zero : (d : ℤ) → lt_z (pos 0) d ≡ true → 0 < mag d
size-above-zero (pos d) e = ltb-true 0 d e
size-above-zero (negsuc d) e = let z : ◌≡◌ {A = ℕ} 0 1 = cc in absurd (omega arith)

-- a number that is not below zero is its size; below zero, -1 - x is
pub not-below : (x : ℤ) → lt_z x (pos 0) ≡ false → x ≡ pos (mag x)
not-below (pos a) e = refl
not-below (negsuc a) e = cc

pub turned : (x : ℤ) → lt_z x (pos 0) ≡ true → negsuc 0 -ℤ x ≡ pos (mag x)
turned (pos a) e = absurd (not-suc-le-zero (ltb-true a 0 e))
turned (negsuc a) e = let t : ltb (suc a) 1 ≡ false = le-ltb (suc a) 1 (omega arith) in rw t (ap pos (omega arith))

-- and -1 - q turns it back
pub turned-back : (q : ℕ) → negsuc 0 -ℤ pos q ≡ negsuc q
turned-back zero = refl
turned-back (suc q) = ap negsuc (omega arith)

pub over_below : (x d : ℤ) → lt_z (pos 0) d ≡ true → lt_z x (pos 0) ≡ true → negsuc (mag x / mag d) ≡ x over d
unfolding ◌over◌
over_below (pos a) d h e = absurd (not-suc-le-zero (ltb-true a 0 e))
over_below (negsuc a) (pos d) h e = refl
over_below (negsuc a) (negsuc d) h e = cc

pub over-above : (x d : ℤ) → lt_z (pos 0) d ≡ true → lt_z x (pos 0) ≡ false → pos (mag x / mag d) ≡ x over d
unfolding ◌over◌
over-above (pos a) (pos d) h e = refl
over-above (pos a) (negsuc d) h e = cc
over-above (negsuc a) d h e = cc
