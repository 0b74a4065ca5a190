-- How many bytes the digits of a section are.
use mathlib.Core.Path.{◌≡◌, refl}
use mathlib.Core.List.{List, [], ◌∷◌, map}
use Prim.Native.Nat.{ℕ, zero, suc, ◌+◌, ◌≤◌, ◌<◌}
use native.Mathlib.Omega.{arith}
use native.Mathlib.Nat.{add-zero, add_assoc}
use lib.ListN.{length, get_or, drop}
use lib.Seq.{drop-nil}
use Rattle.section.specs.declared.Row.{Row}
use Rattle.section.specs.Layout.{Digits, no_row}
use Rattle.finder.specs.Finding.{pass_items}
use Rattle.finder.specs.Inner.{width_of}

width-next : (rows : List Row) (i : ℕ) → i < length rows → width_of (drop i rows) ≡ (get_or rows i no_row).width + width_of (drop (suc i) rows)
unfolding width_of
width-next [] i h = absurd (omega arith)
width-next (r ∷ rows) zero h = refl
width-next (r ∷ rows) (suc i) h = width-next rows i (omega arith)

-- one row more
pub width_turn : (rows : List Row) (i : ℕ) → i < length rows → width_of (drop i rows) ≡ (get_or rows i no_row).width + width_of (drop (i + 1) rows)
width_turn rows i h = let next : i + 1 ≡ suc i = omega arith in rw next (width-next rows i h)

-- behind the last
pub width_end : (rows : List Row) (i : ℕ) → length rows ≤ i → width_of (drop i rows) ≡ 0
unfolding width_of
width_end [] i h = rw (drop-nil i)
width_end (r ∷ rows) zero h = absurd (omega arith)
width_end (r ∷ rows) (suc i) h = width_end rows i (omega arith)

-- digits are passed over
pub digits-passed : (rows : List Row) (s : List ℕ) (start at : ℕ)
    → pass_items (map Digits rows) s start at ≡ pass_items [] s start (at + width_of rows)
unfolding pass_items width_of
digits-passed [] s start at = rw (add-zero at)
digits-passed (r ∷ rows) s start at =
    rw (← add_assoc at r.width (width_of rows)) (digits-passed rows s start (at + r.width))
