-- The formula computed is the formula said without a division, and no other gust is.
use mathlib.Core.Path.{◌≡◌, ap, subst}
use mathlib.Core.Bool.{true}
use Prim.Native.Nat.{ℕ, ◌<◌}
use lib.ListN.{length}
use lib.IntN.{ℤ, pos, ◌+ℤ◌, ◌-ℤ◌, ◌*ℤ◌}
use lib.Signed.{le_z}
use Rattle.gust.specs.declared.Row.{Row}
use Rattle.gust.specs.Floor.{◌over◌}
use Rattle.gust.specs.Rows.{rows}
use Rattle.gust.specs.Gust.{mean_a, this_a, gust_of, height_in, in_range, row_at}
use Rattle.gust.specs.Inner.{every, limits, up_to}
use Rattle.gust.specs.Words.{Down, mean_by, Formula}
use Rattle.gust.proofs.Rounding.{over-down, down_once}
use Rattle.gust.proofs.Limits.{row_within, scale_above, depth_above, knots_above}
use Rattle.gust.proofs.Answers.{high, fast, moving}

module _ (c : Row) (ok : every (limits c) ≡ true) (h : ℤ) (e : height_in h ≡ true) (m n v : ℤ) (f : up_to 500 v ≡ true) (l : le_z (pos 1) v ≡ true) where
  -- the three divisions
  first-down : Down (c.c2 over (c.c3 +ℤ h)) c.c2 (c.c3 +ℤ h)
  first-down = over-down c.c2 (c.c3 +ℤ h) (depth_above c ok h e).0

  second-down : Down (c.c4 *ℤ (mean_a c h -ℤ c.c5) *ℤ (m -ℤ c.reference) over (pos 100 *ℤ c.reference)) (c.c4 *ℤ (mean_a c h -ℤ c.c5) *ℤ (m -ℤ c.reference)) (pos 100 *ℤ c.reference)
  second-down = over-down (c.c4 *ℤ (mean_a c h -ℤ c.c5) *ℤ (m -ℤ c.reference)) (pos 100 *ℤ c.reference) (scale_above c ok).0

  third-down : Down (gust_of c h m n v) (pos 10 *ℤ this_a c h m *ℤ m *ℤ n) (pos 1000000000 *ℤ v)
  unfolding gust_of
  third-down = over-down (pos 10 *ℤ this_a c h m *ℤ m *ℤ n) (pos 1000000000 *ℤ v) (knots_above v f l)

  formula : Formula c h m n v (gust_of c h m n v)
  unfolding mean_a this_a
  formula = record { share = _; first = first-down; more = _; second = second-down; third = third-down }

  module _ (g : ℤ) (w : Formula c h m n v g) where
    same_mean : mean_by c w.share ≡ mean_a c h
    unfolding mean_a
    same_mean =
        ap (λ (s : ℤ). c.c1 +ℤ s)
        (down_once w.share (c.c2 over (c.c3 +ℤ h)) c.c2 (c.c3 +ℤ h) (depth_above c ok h e).0 w.first first-down)

    same_more : w.more ≡ c.c4 *ℤ (mean_a c h -ℤ c.c5) *ℤ (m -ℤ c.reference) over (pos 100 *ℤ c.reference)
    same_more =
        down_once w.more (c.c4 *ℤ (mean_a c h -ℤ c.c5) *ℤ (m -ℤ c.reference) over (pos 100 *ℤ c.reference)) (c.c4 *ℤ (mean_a c h -ℤ c.c5) *ℤ (m -ℤ c.reference)) (pos 100 *ℤ c.reference) (scale_above c ok).0
        (subst (λ (a : ℤ). Down w.more (c.c4 *ℤ (a -ℤ c.c5) *ℤ (m -ℤ c.reference)) (pos 100 *ℤ c.reference)) same_mean w.second)
        second-down

    same_this : mean_by c w.share +ℤ w.more ≡ this_a c h m
    unfolding this_a
    same_this = rw (same_mean, same_more)

    formula_once : g ≡ gust_of c h m n v
    formula_once =
        down_once g (gust_of c h m n v) (pos 10 *ℤ this_a c h m *ℤ m *ℤ n) (pos 1000000000 *ℤ v) (knots_above v f l)
        (subst (λ (a : ℤ). Down g (pos 10 *ℤ a *ℤ m *ℤ n) (pos 1000000000 *ℤ v)) same_this w.third)
        third-down

-- of every row and input within its range
module _ (k : ℕ) (h : ℤ) (m n v : ℕ) (r : k < length rows) (i : in_range h m n v ≡ true) where
  pub some-gust : Formula (row_at k) h (pos m) (pos n) (pos v) (gust_of (row_at k) h (pos m) (pos n) (pos v))
  some-gust = formula (row_at k) (row_within k r) h (high h m n v i) (pos m) (pos n) (pos v) (fast h m n v i) (moving h m n v i)

  pub one-gust : (g : ℤ) → Formula (row_at k) h (pos m) (pos n) (pos v) g → g ≡ gust_of (row_at k) h (pos m) (pos n) (pos v)
  one-gust = formula_once (row_at k) (row_within k r) h (high h m n v i) (pos m) (pos n) (pos v) (fast h m n v i) (moving h m n v i)
