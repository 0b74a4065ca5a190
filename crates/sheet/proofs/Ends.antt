-- A sheet that ends early, and one that goes on: 8, where the unfinished field begins or at the first extra byte.
use mathlib.Core.Path.{◌≡◌, refl, sym, ap, ◌∙◌}
use mathlib.Core.Bool.{Bool, true, false, cond}
use mathlib.Core.List.{List, [], ◌∷◌, ◌++◌}
use Prim.Native.Nat.{ℕ, zero, suc, ◌+◌, ◌-◌, ◌≤◌, ◌<◌}
use native.Mathlib.Omega.{arith}
use native.Mathlib.Nat.{zero-add}
use lib.ListN.{length, take, drop, length-append, length-drop}
use lib.Seq.{take-append-le, drop-append-le}
use borrow.Author.Tests.{ne_eqb, lt-ltb, le-ltb, le-leb, lt-leb, eqb-true}
use Rattle.text.specs.Parts.{part}
use Rattle.text.specs.Checks.{◌and_then◌, refuse}
use Rattle.text.specs.Equal.{same_bytes}
use Rattle.text.specs.Bytes.{is_one_of}
use Rattle.text.proofs.Cases.{by_lt}
use Rattle.sheet.specs.declared.Form.{Form}
use Rattle.sheet.specs.declared.Cell.{Cell}
use Rattle.sheet.specs.Layout.{width_of, cell_at}
use Rattle.sheet.specs.Inner.{size_of_cell}
use Rattle.sheet.specs.Sheet.{seen, field_at, field_end, cell_end, begins_at, Has, label_of, line_end, fixed_code, field_read, each, check_cell, check_sheet, bytes_read}
use Rattle.sheet.proofs.Codes.{coded, seen-coded, then_coded, each-coded, bytes-given}
use Rattle.sheet.proofs.Each.{each_first, each_all}
use Rattle.sheet.proofs.Checked.{checked-length, checked-cell}
use Rattle.sheet.proofs.Contents.{seen-fine, ok-seen, sizes, sizes-more, sizes-add, sizes-all, label_length}
use Rattle.sheet.proofs.TextOfRead.{places, three, field-fine}
use Rattle.std.specs.Prelude.{Result, Ok, Err, is_ok}
use Rattle.text.specs.declared.Code.{Code}
use Rattle.text.specs.declared.Code.TheVariants.{WrongFixed, WrongEnd}

-- ---- which cell a byte stands in

-- a cell begins where those before it end, and ends where the next one begins
begins : (k : ℕ) → k < 167 → (cell_at k).at ≡ sizes 0 k
begins k h = eqb-true (cell_at k).at (sizes 0 k) (places k h)

ends : (k : ℕ) → k < 167 → cell_end (cell_at k) ≡ sizes 0 (k + 1)
unfolding size_of_cell
ends k h =
    let size : sizes 0 (k + 1) ≡ sizes 0 k + size_of_cell (cell_at k) = sizes-more 0 k ∙ ap (λ (i : ℕ). sizes 0 k + size_of_cell (cell_at i)) (zero-add k) in
    omega (arith, begins k h, size)

-- those before cell k end where it begins
before-ends : (j k : ℕ) → j < k → k ≤ 167 → cell_end (cell_at j) ≤ sizes 0 k
before-ends j k l h =
    let rest : j + 1 + (k - (j + 1)) ≡ k = omega arith in
    let order : sizes 0 (j + 1) ≤ sizes 0 k = rw rest at (sizes-add 0 (j + 1) (k - (j + 1))) in
    omega (arith, ends j (omega arith))

-- no cell ends behind a later one
pub ends_rise : (j k : ℕ) → j ≤ k → k < 167 → cell_end (cell_at j) ≤ cell_end (cell_at k)
ends_rise j k l h = omega (arith, before-ends j (k + 1) (omega arith) (omega arith), ends k h)

-- each byte of m cells stands in one of them
found : (n m : ℕ) → m ≤ 167 → n < sizes 0 m → (k : ℕ) × Has k n
unfolding sizes
found n zero h l = absurd (omega arith)
found n (suc m) h l =
    let more : suc m ≡ m + 1 = omega arith in
    by_lt n (sizes 0 m)
    (λ (q : n < sizes 0 m). found n m (omega arith) q)
    (λ (q : sizes 0 m ≤ n). (m, record { few = h; low = omega (arith, begins m h); high = omega (arith, ends m h, ap (sizes 0) more) }))

pub has : (n : ℕ) → n < 913 → (k : ℕ) × Has k n
has n h = found n 167 (omega arith) (omega (arith, sizes-all))

-- ---- a text's front, before more bytes

module _ (f g : List ℕ) where
  front : (at w : ℕ) → at + w ≤ length f → part at w (f ++ g) ≡ part at w f
  front at w h =
      ap (take w) (drop-append-le at f g (omega arith)) ∙ take-append-le w (drop at f) g (omega (arith, length-drop at f))

  -- what is all in the front is found there as in the whole
  fixed_front : (t : List ℕ) (at : ℕ) → at + length t ≤ length f → fixed_code t f at ≡ fixed_code t (f ++ g) at
  unfolding fixed_code
  fixed_front t at h =
      rw (le-leb (at + length t) (length f) h, le-leb (at + length t) (length (f ++ g)) (omega (arith, length-append f g)), front at (length t) h)

  field-front : (form : Form) (at : ℕ) → at + width_of form ≤ length f → field_read form f at ≡ field_read form (f ++ g) at
  unfolding field_read
  field-front form at h =
      rw (le-leb (at + width_of form) (length f) h, le-leb (at + width_of form) (length (f ++ g)) (omega (arith, length-append f g)), front at (width_of form) h)

  ends-front : (t : Bool) (at : ℕ) → at + cond t 2 0 ≤ length f → cond t (seen (fixed_code line_end f at) at) (Ok tt) ≡ cond t (seen (fixed_code line_end (f ++ g) at) at) (Ok tt)
  ends-front true at h = ap (λ (x : Result (Unit {0}) Code). seen x at) (fixed_front line_end at h)
  ends-front false at h = refl

  module _ (c : Cell) (long : length (label_of c) ≡ c.labelled) where
    cell-front : cell_end c ≤ length f → check_cell f c ≡ check_cell (f ++ g) c
    unfolding check_cell
    cell-front h =
        rw (fixed_front (label_of c) c.at (omega arith), field-front c.form (field_at c) (omega arith), ends-front c.ends (field_end c) h)

-- ---- and what is not

short_fixed : (t s : List ℕ) (at : ℕ) → length s < at + length t → fixed_code t s at ≡ Err WrongEnd
unfolding fixed_code
short_fixed t s at h = rw (lt-leb (at + length t) (length s) h)

short-field : (form : Form) (s : List ℕ) (at : ℕ) → length s < at + width_of form → field_read form s at ≡ Err WrongEnd
unfolding field_read
short-field form s at h = rw (lt-leb (at + width_of form) (length s) h)

short_end : (t : Bool) (s : List ℕ) (at : ℕ) → at ≤ length s → length s < at + cond t 2 0 → cond t (seen (fixed_code line_end s at) at) (Ok tt) ≡ refuse WrongEnd at
short_end true s at low high = rw (short_fixed line_end s at high)
short_end false s at low high = absurd (omega arith)

-- a cell of an accepted text, cut off
module _ (f g : List ℕ) (c : Cell) (long : length (label_of c) ≡ c.labelled) (fine : check_cell (f ++ g) c ≡ (Ok tt)) where
  cell_cut : c.at ≤ length f → length f < cell_end c → check_cell f c ≡ refuse WrongEnd (begins_at c (length f))
  unfolding check_cell
  cell_cut low high =
      let parts = three (f ++ g) c fine in
      by_lt (length f) (field_at c)
      (λ (h : length f < field_at c). rw (short_fixed (label_of c) f c.at (omega arith), lt-ltb (length f) (field_at c) h))
      (λ (h : field_at c ≤ length f).
      let label = fixed_front f g (label_of c) c.at (omega arith) ∙ seen-fine (fixed_code (label_of c) (f ++ g) c.at) c.at parts.0 in
      by_lt (length f) (field_end c)
      (λ (l : length f < field_end c). rw (label, short-field c.form f (field_at c) l, le-ltb (length f) (field_at c) h, lt-ltb (length f) (field_end c) l))
      (λ (l : field_end c ≤ length f).
      let field = ok-seen (field_read c.form f (field_at c)) (field_at c) (ap (λ (x : Result ℕ Code). is_ok x) (field-front f g c.form (field_at c) l) ∙ field-fine (f ++ g) c fine) in
      rw (label, field, le-ltb (length f) (field_at c) h, le-ltb (length f) (field_end c) l) (short_end c.ends f (field_end c) l high)))

-- ---- the two laws

-- a sheet that ends before byte n is refused with 8, where the field begins that has that byte
pub early_end : (f g : List ℕ) (k : ℕ) → check_sheet (f ++ g) ≡ (Ok tt) → Has k (length f) → check_sheet f ≡ refuse WrongEnd (begins_at (cell_at k) (length f))
unfolding check_sheet
early_end f g k fine h =
    let before : (j : ℕ) → 0 ≤ j → j < k → check_cell f (cell_at j) ≡ (Ok tt) =
    λ (j : ℕ) (z : 0 ≤ j) (l : j < k).
    let few : j < 167 = omega (arith, h.few) in
    cell-front f g (cell_at j) (label_length j few) (omega (arith, before-ends j k l (omega (arith, h.few)), begins k h.few, h.low))
    ∙ checked-cell (f ++ g) fine j few in
    let cut = cell_cut f g (cell_at k) (label_length k h.few) (checked-cell (f ++ g) fine k h.few) h.low h.high in
    rw (each_first (λ j. check_cell f (cell_at j)) k 167 (record { code = WrongEnd; place = begins_at (cell_at k) (length f) }) 0 (omega arith) (omega (arith, h.few)) before cut)

-- one that goes on, at its first extra byte
pub goes_on : (s t : List ℕ) → check_sheet s ≡ (Ok tt) → 0 < length t → check_sheet (s ++ t) ≡ refuse WrongEnd 913
unfolding check_sheet
goes_on s t fine more =
    let all : (j : ℕ) → 0 ≤ j → j < 0 + 167 → check_cell (s ++ t) (cell_at j) ≡ (Ok tt) =
    λ (j : ℕ) (z : 0 ≤ j) (l : j < 0 + 167).
    let few : j < 167 = omega arith in
    sym (cell-front s t (cell_at j) (label_length j few) (omega (arith, before-ends j 167 few (omega arith), sizes-all, checked-length s fine)))
    ∙ checked-cell s fine j few in
    rw (
      each_all (λ j. check_cell (s ++ t) (cell_at j)) 167 0 all,
      ne_eqb (length (s ++ t)) 913 (λ (e : length (s ++ t) ≡ 913). omega (arith, length-append s t, checked-length s fine)),
    )

-- ---- and no other text is 8: one of 913 bytes never is

abbrev pub whole_codes : List ℕ
whole_codes = 3 ∷ 4 ∷ 5 ∷ 6 ∷ []

whole_fixed : (t s : List ℕ) (at : ℕ) → at + length t ≤ length s → coded whole_codes (seen (fixed_code t s at) at) ≡ true
unfolding fixed_code is_one_of
whole_fixed t s at h = rw (le-leb (at + length t) (length s) h) (by (same_bytes (part at (length t) s) t))
  where
    by : (same : Bool) → coded whole_codes (seen {A = Unit {0}} (cond same (Ok tt) (Err WrongFixed)) at) ≡ true
    by true = refl
    by false = refl

whole-field : (form : Form) (s : List ℕ) (at : ℕ) → at + width_of form ≤ length s → coded whole_codes (seen (field_read form s at) at) ≡ true
unfolding field_read is_one_of
whole-field form s at h =
    rw (le-leb (at + width_of form) (length s) h)
    (seen-coded whole_codes (bytes_read form (part at (width_of form) s)) at (bytes-given whole_codes refl refl refl form (part at (width_of form) s)))

whole_end : (ends : Bool) (s : List ℕ) (at : ℕ) → at + cond ends 2 0 ≤ length s → coded whole_codes (cond ends (seen (fixed_code line_end s at) at) (Ok tt)) ≡ true
whole_end true s at h = whole_fixed line_end s at h
whole_end false s at h = refl

whole-cell : (s : List ℕ) (c : Cell) → length (label_of c) ≡ c.labelled → cell_end c ≤ length s → coded whole_codes (check_cell s c) ≡ true
unfolding check_cell
whole-cell s c long h =
    let last = cond c.ends (seen (fixed_code line_end s (field_end c)) (field_end c)) (Ok tt) in
    let field = seen (field_read c.form s (field_at c)) (field_at c) in
    then_coded whole_codes (seen (fixed_code (label_of c) s c.at) c.at) (field and_then last) (whole_fixed (label_of c) s c.at (omega arith))
    (then_coded whole_codes field last (whole-field c.form s (field_at c) (omega arith)) (whole_end c.ends s (field_end c) h))

-- a text of 913 bytes is accepted, or refused with 3, 4, 5 or 6
pub whole_codes_lem : (s : List ℕ) → length s ≡ 913 → coded whole_codes (check_sheet s) ≡ true
unfolding check_sheet
whole_codes_lem s e =
    rw e
    (then_coded whole_codes (each (λ j. check_cell s (cell_at j)) 0 167) (Ok tt)
    (each-coded whole_codes (λ j. check_cell s (cell_at j)) 0 167
    (λ (j : ℕ) (l : 0 ≤ j) (m : j < 0 + 167).
    let few : j < 167 = omega arith in
    whole-cell s (cell_at j) (label_length j few) (omega (arith, before-ends j 167 few (omega arith), sizes-all))))
    refl)
