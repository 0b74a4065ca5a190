-- Every row is within the limits, and within them every step of the formula is a number of 64 bits.
use mathlib.Core.Path.{◌≡◌, refl}
use mathlib.Core.Bool.{Bool, true}
use mathlib.Core.List.{List, [], ◌∷◌}
use Prim.Native.Nat.{ℕ, zero, suc, ◌<◌, ◌≤◌}
use native.Mathlib.Nat.{le_refl, le_of_suc-le-suc, not-suc-le-zero}
use native.Mathlib.Omega.{arith}
use lib.Dec.{leb, lit<, lit≤}
use lib.ListN.{length, get_or}
use lib.IntN.{ℤ, pos, negsuc, nat_abs, ◌+ℤ◌, ◌-ℤ◌, ◌*ℤ◌}
use lib.Signed.{mag, lt_z, le_z}
use borrow.Author.Tests.{leb-true}
use Rattle.text.proofs.Cases.{both_left, both_right}
use Rattle.gust.specs.declared.Row.{Row}
use Rattle.gust.specs.Floor.{◌over◌}
use Rattle.gust.specs.Rows.{row, rows}
use Rattle.gust.specs.Gust.{mean_a, this_a, height_in, row_at}
use Rattle.gust.specs.Inner.{every, limits, all_within, up_to}
use mir.Syntax.{w64}
use mir.Val.{SFits}
use Rattle.gust.proofs.Sizes.{fits, sum-within, less_within, product_within, over-within, sum-above, product_above}

-- the one test, computed over the table
rows-within : all_within rows ≡ true
unfolding rows all_within every
rows-within = refl

each : (cs : List Row) (k : ℕ) (d : Row) → all_within cs ≡ true → k < length cs → every (limits (get_or cs k d)) ≡ true
unfolding all_within
each [] k d e h = absurd (not-suc-le-zero h)
each (c ∷ cs) zero d e h = both_left (every (limits c)) (all_within cs) e
each (c ∷ cs) (suc k) d e h = each cs k d (both_right (every (limits c)) (all_within cs) e) (le_of_suc-le-suc h)

pub row_within : (k : ℕ) → k < length rows → every (limits (row_at k)) ≡ true
unfolding row_at
row_within k h = each rows k (row (pos 0) 0 0 0 0 0) rows-within h

-- of tests that all hold, each does
held : (ts : List Bool) (k : ℕ) → every ts ≡ true → get_or ts k true ≡ true
unfolding every
held [] k e = refl
held (t ∷ ts) zero e = both_left t (every ts) e
held (t ∷ ts) (suc k) e = held ts k (both_right t (every ts) e)

height-size : (h : ℤ) → height_in h ≡ true → nat_abs h ≤ 50000
height-size (pos a) e = leb-true a 50000 (both_right true (leb a 50000) e)
height-size (negsuc a) e = let l = leb-true a 999 (both_left (leb a 999) true e) in omega (arith, l)

pub height-fits : (h : ℤ) → height_in h ≡ true → SFits w64 h
height-fits h e = fits h (height-size h e) (lit< tt)

module _ (c : Row) (ok : every (limits c) ≡ true) where
  c1_size : nat_abs c.c1 ≤ 71000
  c1_size = leb-true (nat_abs c.c1) 71000 (held (limits c) 0 ok)

  pub c1_fits : SFits w64 c.c1
  c1_fits = fits c.c1 c1_size (lit< tt)

  c2_size : nat_abs c.c2 ≤ 4580000000
  c2_size = leb-true (nat_abs c.c2) 4580000000 (held (limits c) 1 ok)

  pub c2_fits : SFits w64 c.c2
  c2_fits = fits c.c2 c2_size (lit< tt)

  c3_size : nat_abs c.c3 ≤ 130000
  c3_size = leb-true (nat_abs c.c3) 130000 (held (limits c) 2 ok)

  pub c3_fits : SFits w64 c.c3
  c3_fits = fits c.c3 c3_size (lit< tt)

  c4_size : nat_abs c.c4 ≤ 74
  c4_size = leb-true (nat_abs c.c4) 74 (held (limits c) 4 ok)

  pub c4_fits : SFits w64 c.c4
  c4_fits = fits c.c4 c4_size (lit< tt)

  c5_size : nat_abs c.c5 ≤ 223000
  c5_size = leb-true (nat_abs c.c5) 223000 (held (limits c) 5 ok)

  pub c5_fits : SFits w64 c.c5
  c5_fits = fits c.c5 c5_size (lit< tt)

  reference_size : nat_abs c.reference ≤ 250000
  reference_size = leb-true (nat_abs c.reference) 250000 (held (limits c) 6 ok)

  pub reference_fits : SFits w64 c.reference
  reference_fits = fits c.reference reference_size (lit< tt)

  scale_size : nat_abs (pos 100 *ℤ c.reference) ≤ 25000000
  scale_size = product_within (pos 100) c.reference (le_refl 100) reference_size

  pub scale_fits : SFits w64 (pos 100 *ℤ c.reference)
  scale_fits = fits (pos 100 *ℤ c.reference) scale_size (lit< tt)

  -- the divisors are above zero
  pub scale_above : (lt_z (pos 0) (pos 100 *ℤ c.reference) ≡ true) × (300000 ≤ mag (pos 100 *ℤ c.reference))
  scale_above = product_above 100 c.reference 3000 (held (limits c) 7 ok) (lit< tt)

  module _ (h : ℤ) (e : height_in h ≡ true) where
    depth_size : nat_abs (c.c3 +ℤ h) ≤ 180000
    depth_size = sum-within c.c3 h c3_size (height-size h e)

    pub depth_fits : SFits w64 (c.c3 +ℤ h)
    depth_fits = fits (c.c3 +ℤ h) depth_size (lit< tt)

    pub depth_above : (lt_z (pos 0) (c.c3 +ℤ h) ≡ true) × (8100 ≤ mag (c.c3 +ℤ h))
    depth_above = sum-above c.c3 h 9100 999 (held (limits c) 3 ok) (both_left (le_z (negsuc 999) h) (le_z h (pos 50000)) e) (lit< tt)

    mean_size : nat_abs (mean_a c h) ≤ 637000
    unfolding mean_a
    mean_size =
        sum-within c.c1 (c.c2 over (c.c3 +ℤ h)) c1_size
        (over-within c.c2 (c.c3 +ℤ h) 566000 depth_above.0 depth_above.1 c2_size (lit≤ tt))

    pub mean_fits : SFits w64 (mean_a c h)
    mean_fits = fits (mean_a c h) mean_size (lit< tt)

    off-size : nat_abs (mean_a c h -ℤ c.c5) ≤ 860000
    off-size = less_within (mean_a c h) c.c5 mean_size c5_size

    pub off-fits : SFits w64 (mean_a c h -ℤ c.c5)
    off-fits = fits (mean_a c h -ℤ c.c5) off-size (lit< tt)

    sloped_size : nat_abs (c.c4 *ℤ (mean_a c h -ℤ c.c5)) ≤ 63640000
    sloped_size = product_within c.c4 (mean_a c h -ℤ c.c5) c4_size off-size

    pub sloped_fits : SFits w64 (c.c4 *ℤ (mean_a c h -ℤ c.c5))
    sloped_fits = fits (c.c4 *ℤ (mean_a c h -ℤ c.c5)) sloped_size (lit< tt)

    module _ (m : ℤ) (f : up_to 500000 m ≡ true) where
      mass-size : nat_abs m ≤ 500000
      mass-size = leb-true (nat_abs m) 500000 f

      pub mass-fits : SFits w64 m
      mass-fits = fits m mass-size (lit< tt)

      heavier_size : nat_abs (m -ℤ c.reference) ≤ 750000
      heavier_size = less_within m c.reference mass-size reference_size

      pub heavier_fits : SFits w64 (m -ℤ c.reference)
      heavier_fits = fits (m -ℤ c.reference) heavier_size (lit< tt)

      dividend_size : nat_abs (c.c4 *ℤ (mean_a c h -ℤ c.c5) *ℤ (m -ℤ c.reference)) ≤ 47730000000000
      dividend_size = product_within (c.c4 *ℤ (mean_a c h -ℤ c.c5)) (m -ℤ c.reference) sloped_size heavier_size

      pub dividend_fits : SFits w64 (c.c4 *ℤ (mean_a c h -ℤ c.c5) *ℤ (m -ℤ c.reference))
      dividend_fits = fits (c.c4 *ℤ (mean_a c h -ℤ c.c5) *ℤ (m -ℤ c.reference)) dividend_size (lit< tt)

      this_size : nat_abs (this_a c h m) ≤ 159737000
      unfolding this_a
      this_size =
          sum-within (mean_a c h) (c.c4 *ℤ (mean_a c h -ℤ c.c5) *ℤ (m -ℤ c.reference) over (pos 100 *ℤ c.reference)) mean_size
          (over-within (c.c4 *ℤ (mean_a c h -ℤ c.c5) *ℤ (m -ℤ c.reference)) (pos 100 *ℤ c.reference) 159100000
          scale_above.0 scale_above.1 dividend_size (lit≤ tt))

      pub this_fits : SFits w64 (this_a c h m)
      this_fits = fits (this_a c h m) this_size (lit< tt)

      ten-size : nat_abs (pos 10 *ℤ this_a c h m) ≤ 1597370000
      ten-size = product_within (pos 10) (this_a c h m) (le_refl 10) this_size

      pub ten-fits : SFits w64 (pos 10 *ℤ this_a c h m)
      ten-fits = fits (pos 10 *ℤ this_a c h m) ten-size (lit< tt)

      massed_size : nat_abs (pos 10 *ℤ this_a c h m *ℤ m) ≤ 798685000000000
      massed_size = product_within (pos 10 *ℤ this_a c h m) m ten-size mass-size

      pub massed_fits : SFits w64 (pos 10 *ℤ this_a c h m *ℤ m)
      massed_fits = fits (pos 10 *ℤ this_a c h m *ℤ m) massed_size (lit< tt)

      pub product_fits : (n : ℤ) → up_to 5000 n ≡ true → SFits w64 (pos 10 *ℤ this_a c h m *ℤ m *ℤ n)
      product_fits n g =
          fits (pos 10 *ℤ this_a c h m *ℤ m *ℤ n) (product_within (pos 10 *ℤ this_a c h m *ℤ m) n massed_size (leb-true (nat_abs n) 5000 g)) (lit< tt)

-- the acceleration and the speed
pub accelerated_fits : (n : ℤ) → up_to 5000 n ≡ true → SFits w64 n
accelerated_fits n g = fits n (leb-true (nat_abs n) 5000 g) (lit< tt)

module _ (v : ℤ) (e : up_to 500 v ≡ true) where
  speed-size : nat_abs v ≤ 500
  speed-size = leb-true (nat_abs v) 500 e

  pub speed-fits : SFits w64 v
  speed-fits = fits v speed-size (lit< tt)

  pub knots_fits : SFits w64 (pos 1000000000 *ℤ v)
  knots_fits = fits (pos 1000000000 *ℤ v) (product_within (pos 1000000000) v (le_refl 1000000000) speed-size) (lit< tt)

  pub knots_above : le_z (pos 1) v ≡ true → lt_z (pos 0) (pos 1000000000 *ℤ v) ≡ true
  knots_above l = (product_above 1000000000 v 1 l (lit< tt)).0
