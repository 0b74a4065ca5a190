-- The check of a counted list stays in its text, and a list's text is short.
use mathlib.Core.Path.{◌≡◌}
use mathlib.Core.List.{List}
use Prim.Native.Nat.{ℕ, ◌≤◌}
use native.Mathlib.Omega.{arith}
use lib.ListN.{length}
use Rattle.field.specs.Fields.{check_number, check_airfield, repeat}
use Rattle.field.specs.Boxes.{check_box}
use Rattle.field.proofs.Within.{Within, after-within, digits-within, inside, airfield-within, box-within, repeat-within}
use Rattle.lists.specs.declared.Airfields.{Airfields}
use Rattle.lists.specs.declared.Boxes.{Boxes}
use Rattle.lists.specs.Lists.{count_at, check_list, check_airfields, check_boxes, airfields_text, boxes_text}
use Rattle.lists.proofs.Spelling.{airfields-length, boxes-length}
use Rattle.std.specs.Prelude.{Result, IfOk}
use Rattle.text.specs.declared.Refusal.{Refusal}
use Rattle.text.specs.declared.Code.TheVariants.{OutOfRange}

module _ (s : List ℕ) where
  -- any counted list, where each entry stays in the text
  pub list-within : (limit : ℕ) (entry : List ℕ → ℕ → Result ℕ Refusal) → ((p : ℕ) → p ≤ length s → Within s p (entry s p))
      → (at : ℕ) → at ≤ length s → Within s at (check_list limit entry s at)
  unfolding check_list
  list-within limit entry each at h =
      after-within s at (check_number 2 0 limit s at) (repeat (entry s) (count_at s at)) (digits-within s OutOfRange 2 0 limit at h)
      (λ p e k. repeat-within s (entry s) each (count_at s at) p k)

  pub airfields-within : (at : ℕ) → at ≤ length s → Within s at (check_airfields s at)
  airfields-within at h = list-within 20 check_airfield (airfield-within s) at h

  pub boxes-within : (at : ℕ) → at ≤ length s → Within s at (check_boxes s at)
  boxes-within at h = list-within 16 check_box (box-within s) at h

  -- a list that is accepted ends in the text
  pub airfields_inside : (at : ℕ) → at ≤ length s → IfOk (check_airfields s at) (λ p. p ≤ length s)
  airfields_inside at h = inside s at (check_airfields s at) (airfields-within at h)

  pub boxes_inside : (at : ℕ) → at ≤ length s → IfOk (check_boxes s at) (λ p. p ≤ length s)
  boxes_inside at h = inside s at (check_boxes s at) (boxes-within at h)

-- 82 bytes at the most
pub airfields-short : (l : Airfields) → length l.names ≡ 80 → l.count ≤ 20 → length (airfields_text l) ≤ 82
airfields-short l full few = omega (arith, airfields-length l (omega arith))

-- and 226
pub boxes-short : (l : Boxes) → length l.regions ≡ 16 → l.count ≤ 16 → length (boxes_text l) ≤ 226
boxes-short l full few = omega (arith, boxes-length l (omega arith))
