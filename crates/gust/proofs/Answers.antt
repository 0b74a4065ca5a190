-- What is refused, and what each input's test says.
use mathlib.Core.Path.{◌≡◌, refl, sym, subst}
use mathlib.Core.Bool.{Bool, true, false, ◌&&◌}
use Prim.Native.Nat.{ℕ, ◌≤◌}
use native.Mathlib.Omega.{arith}
use lib.Dec.{T, leb}
use lib.IntN.{ℤ, pos, negsuc}
use lib.Signed.{mag, le_z}
use borrow.Author.Tests.{le-leb, leb-true}
use Rattle.text.specs.Names.{between}
use Rattle.text.proofs.Cases.{by_test, both_left, both_right}
use Rattle.gust.specs.Words.{InRange}
use Rattle.gust.specs.Gust.{height_in, in_range}

-- a gust that is answered is small
pub mag_small : (g : ℤ) → le_z (pos 0) g ≡ true → le_z g (pos 799) ≡ true → mag g ≤ 799
mag_small (pos a) e f = leb-true a 799 f
mag_small (negsuc a) e f = let z : ◌≡◌ {A = Bool} false true = e in let w : ◌≡◌ {A = ℕ} 0 1 = cc in absurd (omega arith)

module _ (h : ℤ) (m n v : ℕ) (e : in_range h m n v ≡ true) where
  pub high : height_in h ≡ true
  unfolding in_range
  high = both_left (height_in h) (between 1 500000 m && (leb n 5000 && between 1 500 v)) e

  others : (between 1 500000 m && (leb n 5000 && between 1 500 v)) ≡ true
  unfolding in_range
  others = both_right (height_in h) (between 1 500000 m && (leb n 5000 && between 1 500 v)) e

  last : (leb n 5000 && between 1 500 v) ≡ true
  last = both_right (between 1 500000 m) (leb n 5000 && between 1 500 v) others

  pub some-mass : leb 1 m ≡ true
  some-mass = both_left (leb 1 m) (leb m 500000) (both_left (between 1 500000 m) (leb n 5000 && between 1 500 v) others)

  pub massive : leb m 500000 ≡ true
  massive = both_right (leb 1 m) (leb m 500000) (both_left (between 1 500000 m) (leb n 5000 && between 1 500 v) others)

  pub shaken : leb n 5000 ≡ true
  shaken = both_left (leb n 5000) (between 1 500 v) last

  pub fast : leb v 500 ≡ true
  fast = both_right (leb 1 v) (leb v 500) (both_right (leb n 5000) (between 1 500 v) last)

  pub moving : leb 1 v ≡ true
  moving = both_left (leb 1 v) (leb v 500) (both_right (leb n 5000) (between 1 500 v) last)

-- ---- The ranges as facts, and as the one test

passes : (t : Bool) → T t → t ≡ true
passes true p = refl
passes false p = absurd p

pub within-range : (h : ℤ) (m n v : ℕ) → InRange h m n v → in_range h m n v ≡ true
unfolding in_range
within-range h m n v r =
    rw (
      passes (le_z (negsuc 999) h) r.lowest.le,
      passes (le_z h (pos 50000)) r.highest.le,
      le-leb 1 m r.lightest,
      le-leb m 500000 r.heaviest,
      le-leb n 5000 r.strongest,
      le-leb 1 v r.slowest,
      le-leb v 500 r.fastest,
    )

in_them : (h : ℤ) (m n v : ℕ) → in_range h m n v ≡ true → InRange h m n v
in_them h m n v e =
    record {
      lowest = record { le = subst T (sym (both_left (le_z (negsuc 999) h) (le_z h (pos 50000)) (high h m n v e))) tt };
      highest = record { le = subst T (sym (both_right (le_z (negsuc 999) h) (le_z h (pos 50000)) (high h m n v e))) tt };
      lightest = leb-true 1 m (some-mass h m n v e);
      heaviest = leb-true m 500000 (massive h m n v e);
      strongest = leb-true n 5000 (shaken h m n v e);
      slowest = leb-true 1 v (moving h m n v e);
      fastest = leb-true v 500 (fast h m n v e);
    }

pub outside-range : (h : ℤ) (m n v : ℕ) → ¬ InRange h m n v → in_range h m n v ≡ false
outside-range h m n v f = by_test (in_range h m n v) (λ e. absurd (f (in_them h m n v e))) (λ e. e)
