-- Which codes are given: of a text 3, 4, 5, 6 and 8, of a record 4 and 5, of its room 2. 1 and 7 are not.
use mathlib.Core.Path.{◌≡◌, refl}
use mathlib.Core.Bool.{Bool, true, false, cond}
use mathlib.Core.List.{List, [], ◌∷◌}
use Prim.Native.Nat.{ℕ, zero, suc, ◌+◌, ◌≤◌, ◌<◌}
use native.Mathlib.Omega.{arith}
use lib.Dec.{eqb}
use lib.ListN.{length}
use Rattle.text.specs.Bytes.{is_one_of}
use Rattle.text.specs.Codes.{number_of}
use Rattle.text.specs.Checks.{must, ◌and_then◌}
use Rattle.sheet.specs.declared.Limits.{Limits}
use Rattle.sheet.specs.declared.Form.{Form}
use Rattle.sheet.specs.declared.Form.TheVariants.{Name, Switch, Digit, Number}
use Rattle.sheet.specs.declared.Cell.{Cell}
use Rattle.sheet.specs.declared.Sheet.{Sheet}
use Rattle.sheet.specs.Number.{digits_read, signed_read, number_read}
use Rattle.sheet.specs.Layout.{cell_at}
use Rattle.sheet.specs.Sheet.{seen, field_at, field_end, label_of, line_end, fixed_code, bytes_read, field_read, each, check_cell, check_sheet, held_at, held_code, allowed_cell, allowed_sheet}
use Rattle.std.specs.Prelude.{Result, Ok, Err}
use Rattle.text.specs.declared.Refusal.{Refusal}
use Rattle.text.specs.declared.Code.{Code}
use Rattle.text.specs.declared.Code.TheVariants.{WrongEnd}

-- a refusal has one of these codes
abbrev pub coded : {A : Type 0} → List ℕ → Result A Refusal → Bool
coded codes (Ok x) = true
coded codes (Err r) = is_one_of codes (number_of r.code)

-- and so has one without its place
abbrev pub given : {A : Type 0} → List ℕ → Result A Code → Bool
given codes (Ok x) = true
given codes (Err code) = is_one_of codes (number_of code)

abbrev pub codes_of_text : List ℕ
codes_of_text = 3 ∷ 4 ∷ 5 ∷ 6 ∷ 8 ∷ []

abbrev pub codes_of_record : List ℕ
codes_of_record = 4 ∷ 5 ∷ []

-- whatever a test decides, what holds of both answers' codes holds of its answer's
one_of : {A : Type 0} (codes : List ℕ) (t : Bool) (a b : Result A Code) → given codes (cond t a b) ≡ cond t (given codes a) (given codes b)
one_of codes true a b = refl
one_of codes false a b = refl

both : (t : Bool) → cond t true true ≡ true
both true = refl
both false = refl

pub seen-coded : {A : Type 0} (codes : List ℕ) (x : Result A Code) (place : ℕ) → given codes x ≡ true → coded codes (seen x place) ≡ true
seen-coded codes (Ok x) place e = refl
seen-coded codes (Err code) place e = e

pub then_coded : (codes : List ℕ) (a b : Result (Unit {0}) Refusal) → coded codes a ≡ true → coded codes b ≡ true → coded codes (a and_then b) ≡ true
then_coded codes (Ok u) b p q = q
then_coded codes (Err r) b p q = p

pub each-coded : (codes : List ℕ) (f : ℕ → Result (Unit {0}) Refusal) (k n : ℕ) → ((j : ℕ) → k ≤ j → j < k + n → coded codes (f j) ≡ true) → coded codes (each f k n) ≡ true
unfolding each
each-coded codes f k zero h = refl
each-coded codes f k (suc n) h =
    then_coded codes (f k) (each f (suc k) n) (h k (omega arith) (omega arith))
    (each-coded codes f (suc k) n (λ (j : ℕ) (l : suc k ≤ j) (m : j < suc k + n). h j (omega arith) (omega arith)))

-- three codes are all that a field's bytes give
module _ (codes : List ℕ) (four : is_one_of codes 4 ≡ true) (five : is_one_of codes 5 ≡ true) (six : is_one_of codes 6 ≡ true) where
  digits-given : (l : Limits) (below : Bool) (ds : List ℕ) → given codes (digits_read l below ds) ≡ true
  unfolding digits_read
  digits-given l below ds = simp (one_of, four, five, six, both)

  pub bytes-given : (form : Form) (f : List ℕ) → given codes (bytes_read form f) ≡ true
  unfolding bytes_read number_read signed_read
  bytes-given (Name w) f = simp (one_of, four, both)
  bytes-given Switch f = simp (one_of, four, both)
  bytes-given (Digit most) f = simp (one_of, four, both)
  bytes-given (Number w l) f = simp (one_of, digits-given, both)

  -- and 8 where they are not all there
  field-given : is_one_of codes 8 ≡ true → (form : Form) (s : List ℕ) (at : ℕ) → given codes (field_read form s at) ≡ true
  unfolding field_read
  field-given eight form s at = simp (one_of, bytes-given, eight, both)

-- 3 and 8 all that a fixed group does
fixed_given : (codes : List ℕ) → is_one_of codes 3 ≡ true → is_one_of codes 8 ≡ true → (t s : List ℕ) (at : ℕ) → given codes (fixed_code t s at) ≡ true
unfolding fixed_code
fixed_given codes three eight t s at = simp (one_of, three, eight, both)

-- and 4 and 5 all that a part of a record does
module _ (codes : List ℕ) (four : is_one_of codes 4 ≡ true) (five : is_one_of codes 5 ≡ true) where
  held-given : (form : Form) (v : List ℕ) → given codes (held_code form v) ≡ true
  unfolding held_code
  held-given (Name w) v = simp (one_of, four, both)
  held-given Switch v = simp (one_of, four, both)
  held-given (Digit most) v = simp (one_of, four, both)
  held-given (Number w l) v = simp (one_of, five, both)

fixed_coded : (t s : List ℕ) (at : ℕ) → coded codes_of_text (seen (fixed_code t s at) at) ≡ true
unfolding is_one_of
fixed_coded t s at = seen-coded codes_of_text (fixed_code t s at) at (fixed_given codes_of_text refl refl t s at)

cell-coded : (s : List ℕ) (c : Cell) → coded codes_of_text (check_cell s c) ≡ true
unfolding check_cell is_one_of
cell-coded s c =
    let last = cond c.ends (seen (fixed_code line_end s (field_end c)) (field_end c)) (Ok tt) in
    let read = field_read c.form s (field_at c) in
    let field = seen read (field_at c) in
    then_coded codes_of_text (seen (fixed_code (label_of c) s c.at) c.at) (field and_then last) (fixed_coded (label_of c) s c.at)
    (then_coded codes_of_text field last (seen-coded codes_of_text read (field_at c) (field-given codes_of_text refl refl refl refl c.form s (field_at c))) (by c.ends))
  where
    by : (t : Bool) → coded codes_of_text (cond t (seen (fixed_code line_end s (field_end c)) (field_end c)) (Ok tt)) ≡ true
    by true = fixed_coded line_end s (field_end c)
    by false = refl

-- a text is refused with 3, 4, 5, 6 or 8
pub text_codes : (s : List ℕ) → coded codes_of_text (check_sheet s) ≡ true
unfolding check_sheet is_one_of
text_codes s =
    then_coded codes_of_text (each (λ k. check_cell s (cell_at k)) 0 167) (must (eqb (length s) 913) WrongEnd 913)
    (each-coded codes_of_text (λ k. check_cell s (cell_at k)) 0 167 (λ (k : ℕ) (l : 0 ≤ k) (m : k < 0 + 167). cell-coded s (cell_at k)))
    (by (eqb (length s) 913))
  where
    by : (t : Bool) → coded codes_of_text (must t WrongEnd 913) ≡ true
    by true = refl
    by false = refl

-- a record with 4 or 5
pub record_codes : (x : Sheet) → coded codes_of_record (allowed_sheet x) ≡ true
unfolding allowed_sheet allowed_cell is_one_of
record_codes x =
    let held = held-given codes_of_record refl refl in
    each-coded codes_of_record (allowed_cell x) 0 167
    (λ (k : ℕ) (l : 0 ≤ k) (m : k < 0 + 167). seen-coded codes_of_record (held_code (cell_at k).form (held_at x k)) (field_at (cell_at k)) (held (cell_at k).form (held_at x k)))
