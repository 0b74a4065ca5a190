-- Counted lists: their checks look only at the bytes that they pass over, and so does what is read there.
use mathlib.Core.Path.{◌≡◌, refl}
use mathlib.Core.List.{List, [], ◌∷◌, ◌++◌}
use Prim.Native.Nat.{ℕ, zero, suc, ◌+◌, ◌-◌, ◌*◌, ◌≤◌}
use native.Mathlib.Omega.{arith}
use lib.ListN.{replicate}
use Rattle.text.specs.Parts.{part}
use Rattle.field.specs.Decimal.{value}
use Rattle.field.specs.Fields.{check_number, check_airfield, repeat}
use Rattle.field.specs.Boxes.{check_box, region_at, no_region}
use Rattle.field.specs.declared.Region.{Region}
use Rattle.field.proofs.Local.{Local, Reads, Sized, part-shift, part-extend, reads_fixed, reads_with}
use Rattle.field.proofs.LocalThen.{bound_local, bound-first, bound-second, bound-sized, several, several_local, several-passes, several-sized}
use Rattle.field.proofs.LocalFields.{digits_local, digits-reads, digits-sized, airfield_local, airfield-sized, box_local, box-sized, box-reads}
use Rattle.lists.proofs.Accepted.{counted}
use Rattle.lists.specs.Lists.{count_at, check_list, check_airfields, airfields_at, check_boxes, regions_at, boxes_at}
use Rattle.lists.specs.declared.Airfields.{Airfields}
use Rattle.lists.specs.declared.Boxes.{Boxes}
use Rattle.std.specs.Prelude.{Result, Ok}
use Rattle.text.specs.declared.Refusal.{Refusal}
use Rattle.text.specs.declared.Code.TheVariants.{OutOfRange}

-- ---- Any counted list

module _ (limit : ℕ) (entry : List ℕ → ℕ → Result ℕ Refusal) where
  abbrev count : List ℕ → ℕ → Result ℕ Refusal
  count = check_number 2 0 limit

  -- a counted list of local entries is local
  pub list_local : Local entry → Local (check_list limit entry)
  unfolding check_list
  list_local E =
      bound_local count count_at (several entry) (digits_local OutOfRange 2 0 limit) (digits-reads OutOfRange 2 0 limit value) (several_local entry E)

  -- a list of entries of w bytes each is as long as its count says
  pub list-sized : (w : ℕ) → Sized entry (λ s at. w) → Sized (check_list limit entry) (λ s at. 2 + w * count_at s at)
  unfolding check_list
  list-sized w E =
      bound-sized count count_at (several entry) (λ s at. 2) (λ n s at. w * n) (digits-reads OutOfRange 2 0 limit value) (digits-sized OutOfRange 2 0 limit)
      (several-sized entry w E)

  -- the count
  pub count-reads : Reads (check_list limit entry) count_at
  unfolding check_list
  count-reads = bound-first count count_at (several entry) count_at (digits-reads OutOfRange 2 0 limit value)

  -- what is read of the entries
  pub entries-reads : {A : Type 0} (w : ℕ → List ℕ → ℕ → A) → ((n : ℕ) → Reads (several entry n) (w n))
      → Reads (check_list limit entry) (λ s at. w (count_at s at) s (at + 2))
  unfolding check_list
  entries-reads w W =
      bound-second count count_at (several entry) (λ s at. 2) w (digits-reads OutOfRange 2 0 limit value) (digits-sized OutOfRange 2 0 limit) W

  -- no accepted count is over its limit
  pub count_most : (s : List ℕ) (at p : ℕ) → check_list limit entry s at ≡ Ok p → count_at s at ≤ limit
  count_most s at p e = (counted limit entry s at p e).count.high

-- ---- Airfields

-- a list of airfields is local
pub airfields_local : Local check_airfields
airfields_local = list_local 20 check_airfield airfield_local

-- it is as long as its count says
pub airfields-sized : Sized check_airfields (λ s at. 2 + 4 * count_at s at)
airfields-sized = list-sized 20 check_airfield 4 airfield-sized

names_extended : (n : ℕ) (s y : List ℕ) (at p : ℕ) → several check_airfield n s at ≡ Ok p → part at (4 * n) (s ++ y) ≡ part at (4 * n) s
names_extended zero s y at p e = refl
names_extended (suc n) s y at p e =
    let q : p ≡ at + 4 * suc n = several-passes check_airfield 4 airfield-sized (suc n) s at p e in
    let h = (several_local check_airfield airfield_local (suc n)).filled s at p e (omega arith) in
    part-extend (4 * suc n) s y at (omega arith)

names-reads : (n : ℕ) → Reads (several check_airfield n) (λ s at. part at (4 * n) s)
names-reads n = record { same-shifted = part-shift (4 * n); same_extended = names_extended n }

abbrev airfields_of : ℕ → List ℕ → Airfields
airfields_of n names = record { count = n; names = names ++ replicate (80 - 4 * n) 0 }

-- the airfields that are read there
pub airfields-reads : Reads check_airfields airfields_at
unfolding airfields_at
airfields-reads =
    reads_with check_airfields count_at (λ s at. part (at + 2) (4 * count_at s at) s) airfields_of (count-reads 20 check_airfield)
    (entries-reads 20 check_airfield (λ n s at. part at (4 * n) s) names-reads)

-- ---- Boxes

-- a list of boxes is local
pub boxes_local : Local check_boxes
boxes_local = list_local 16 check_box box_local

-- it is as long as its count says
pub boxes-sized : Sized check_boxes (λ s at. 2 + 14 * count_at s at)
boxes-sized = list-sized 16 check_box 14 box-sized

regions-reads : (n : ℕ) → Reads (several check_box n) (regions_at n)
unfolding repeat regions_at
regions-reads zero = reads_fixed (several check_box 0) []
regions-reads (suc n) =
    reads_with (several check_box (suc n)) region_at (λ s at. regions_at n s (at + 14)) (λ b bs. b ∷ bs)
    (bound-first {A = ℕ} check_box (λ s at. 0) (λ a. several check_box n) region_at box-reads)
    (bound-second {A = ℕ} check_box (λ s at. 0) (λ a. several check_box n) (λ s at. 14) (λ a. regions_at n) (reads_fixed check_box 0) box-sized
    (λ a. regions-reads n))

abbrev boxes_of : ℕ → List Region → Boxes
boxes_of n regions = record { count = n; regions = regions ++ replicate (16 - n) no_region }

-- the boxes that are read there
pub boxes-reads : Reads check_boxes boxes_at
unfolding boxes_at
boxes-reads =
    reads_with check_boxes count_at (λ s at. regions_at (count_at s at) s (at + 2)) boxes_of (count-reads 16 check_box)
    (entries-reads 16 check_box regions_at regions-reads)
