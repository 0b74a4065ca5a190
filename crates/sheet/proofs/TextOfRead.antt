-- An accepted text is the text of its record: one spelling for each record.
use mathlib.Core.Path.{◌≡◌, refl, sym, ap, ◌∙◌}
use mathlib.Core.Bool.{Bool, true, false, cond}
use mathlib.Core.List.{List, [], ◌∷◌, ◌++◌}
use Prim.Native.Nat.{ℕ, zero, suc, ◌+◌, ◌-◌, ◌*◌, ◌/◌, ◌%◌, ◌≤◌, ◌<◌}
use native.Mathlib.Omega.{arith}
use native.Mathlib.Nat.{add-zero, zero-add}
use lib.Dec.{leb, eqb}
use lib.ListN.{length, get_or}
use lib.Seq.{take_all}
use borrow.Author.Tests.{eq-eqb, ne_eqb, lt-ltb, le-ltb, le-leb, lt-leb, leb-true, ltb-true, eqb-true}
use Rattle.text.specs.Parts.{part}
use Rattle.text.specs.Equal.{same_bytes}
use Rattle.text.specs.Names.{between}
use Rattle.text.specs.Table.{values}
use Rattle.text.specs.Checks.{◌and_then◌}
use Rattle.text.proofs.Cases.{by_test, by_eq, by_lt, by_le, both_left}
use Rattle.text.proofs.Checks.{both-fine}
use Rattle.text.proofs.Equal.{same-equal}
use Rattle.text.proofs.Stands.{part-add}
use Rattle.field.proofs.Decimal.{part-long}
use Rattle.sheet.specs.declared.Form.{Form}
use Rattle.sheet.specs.declared.Form.TheVariants.{Name, Switch, Digit, Number}
use Rattle.sheet.specs.declared.Cell.{Cell}
use Rattle.sheet.specs.declared.Sheet.{Sheet}
use Rattle.sheet.specs.Number.{word_in, number_read, number_text}
use Rattle.sheet.specs.Layout.{width_of, cell_at, box_cell, airport_cell}
use Rattle.sheet.specs.Inner.{small_form, size_of_cell}
use Rattle.sheet.specs.Sheet.{seen, field_at, field_end, label_of, line_end, fixed_code, digit_read, switch_read, bytes_read, field_read, check_cell, check_sheet, word_at, name_cell, airport_byte, airport_of, sheet_at, held_at, field_text, cell_text, joined, held_text, sheet_text}
use Rattle.sheet.proofs.Small.{every, not-held, no_err, cell-small, small-parts, small-number}
use Rattle.sheet.proofs.Contents.{seen-fine, seen-ok, sizes, sizes-more, sizes-all, joined-more, label_length, is_word, is_four, word_cell, name_cell_lem, status-cell, part-four, airports-few}
use Rattle.sheet.proofs.Checked.{checked-length, checked-cell}
use Rattle.sheet.proofs.Filled.{values-at, values_length}
use Rattle.sheet.proofs.Spelling.{one-spelling}
use Rattle.std.specs.Prelude.{Result, Ok, is_ok}
use Rattle.text.specs.declared.Code.{Code}
use Rattle.text.specs.declared.Code.TheVariants.{WrongFixed, WrongEnd}
use Rattle.text.specs.declared.Refusal.{Refusal}

-- ---- a field

-- what a field's bytes are held as
unfoldable pub content_of : Form → List ℕ → List ℕ
content_of (Name w) f = f
content_of Switch f = word_in (bytes_read Switch f) ∷ []
content_of (Digit most) f = word_in (bytes_read (Digit most) f) ∷ []
content_of (Number w l) f = word_in (bytes_read (Number w l) f) ∷ []

one_byte : (f : List ℕ) → length f ≡ 1 → f ≡ get_or f 0 0 ∷ []
one_byte [] e = absurd (omega arith)
one_byte (b ∷ []) e = refl
one_byte (b ∷ c ∷ f) e = absurd (omega arith)

switch-spelt : (b : ℕ) → is_ok (switch_read b) ≡ true → cond (eqb (word_in (switch_read b)) 0) 68 82 ≡ b
switch-spelt b e =
    by_test (eqb b 68)
    (λ (p : eqb b 68 ≡ true). rw p (sym (eqb-true b 68 p)))
    (λ (p : eqb b 68 ≡ false).
    by_test (eqb b 82)
    (λ (q : eqb b 82 ≡ true). rw (p, q) (sym (eqb-true b 82 q)))
    (λ (q : eqb b 82 ≡ false). not-held (rw (p, q) at e)))

digit-spelt : (most b : ℕ) → is_ok (digit_read most b) ≡ true → 48 + word_in (digit_read most b) ≡ b
digit-spelt most b e =
    by_test (between 48 (48 + most) b)
    (λ (p : between 48 (48 + most) b ≡ true). rw p (omega (arith, leb-true 48 b (both_left (leb 48 b) (leb b (48 + most)) p))))
    (λ (p : between 48 (48 + most) b ≡ false). not-held (rw p at e))

pub field-spelt : (form : Form) (f : List ℕ) → small_form form ≡ true → length f ≡ width_of form → is_ok (bytes_read form f) ≡ true
    → field_text form (content_of form f) ≡ f
unfolding field_text content_of bytes_read width_of
field-spelt (Name w) f small long e = refl
field-spelt Switch f small long e = ap (λ (b : ℕ). b ∷ []) (switch-spelt (get_or f 0 0) e) ∙ sym (one_byte f long)
field-spelt (Digit most) f small long e = ap (λ (b : ℕ). b ∷ []) (digit-spelt most (get_or f 0 0) e) ∙ sym (one_byte f long)
field-spelt (Number w l) f small long e =
    ap (λ (n : ℕ). number_text n (word_in (number_read l f))) (sym long) ∙ one-spelling l f (small-number w l small).1 e

-- ---- a cell

-- a fixed group that is there
fixed_there : (t s : List ℕ) (at : ℕ) → fixed_code t s at ≡ Ok tt → (at + length t ≤ length s) × (part at (length t) s ≡ t)
unfolding fixed_code
fixed_there t s at e =
    by_le (at + length t) (length s)
    (λ (h : at + length t ≤ length s).
    by_test (same_bytes (part at (length t) s) t)
    (λ (q : same_bytes (part at (length t) s) t ≡ true). (h, same-equal (part at (length t) s) t q))
    (λ (q : same_bytes (part at (length t) s) t ≡ false). no_err WrongFixed tt (rw (le-leb (at + length t) (length s) h, q) at e)))
    (λ (h : length s < at + length t). no_err WrongEnd tt (rw (lt-leb (at + length t) (length s) h) at e))

-- a field that is there
pub field-there : (form : Form) (s : List ℕ) (at : ℕ) → is_ok (field_read form s at) ≡ true
    → (at + width_of form ≤ length s) × (field_read form s at ≡ bytes_read form (part at (width_of form) s))
unfolding field_read
field-there form s at e =
    by_le (at + width_of form) (length s)
    (λ (h : at + width_of form ≤ length s). (h, rw (le-leb (at + width_of form) (length s) h)))
    (λ (h : length s < at + width_of form). not-held (rw (lt-leb (at + width_of form) (length s) h) at e))

module _ (s : List ℕ) (c : Cell) (fine : check_cell s c ≡ (Ok tt)) where
  unfoldable pub last-seen : Result (Unit {0}) Refusal
  last-seen = cond c.ends (seen (fixed_code line_end s (field_end c)) (field_end c)) (Ok tt)

  unfoldable pub field-seen : Result (Unit {0}) Refusal
  field-seen = seen (field_read c.form s (field_at c)) (field_at c)

  pub three : (seen (fixed_code (label_of c) s c.at) c.at ≡ (Ok tt)) × ((field-seen ≡ (Ok tt)) × (last-seen ≡ (Ok tt)))
  unfolding check_cell field-seen last-seen
  three =
      let first = both-fine (seen (fixed_code (label_of c) s c.at) c.at) (field-seen and_then last-seen) tt fine in
      (first.0, both-fine field-seen last-seen tt first.1)

  pub field-fine : is_ok (field_read c.form s (field_at c)) ≡ true
  unfolding field-seen
  field-fine = seen-ok (field_read c.form s (field_at c)) (field_at c) three.1.0

  -- where it ends a line, CR LF
  ends_there : part (field_end c) (cond c.ends 2 0) s ≡ cond c.ends line_end []
  unfolding last-seen
  ends_there = by c.ends refl three.1.1
    where
      by : (t : Bool) → c.ends ≡ t → cond t (seen (fixed_code line_end s (field_end c)) (field_end c)) (Ok tt) ≡ (Ok tt) → part (field_end c) (cond t 2 0) s ≡ cond t line_end []
      by true is e = (fixed_there line_end s (field_end c) (seen-fine (fixed_code line_end s (field_end c)) (field_end c) e)).1
      by false is e = refl

  -- an accepted cell is the text of what it holds
  pub cell-spelt : small_form c.form ≡ true → length (label_of c) ≡ c.labelled
      → part c.at (size_of_cell c) s ≡ cell_text c (content_of c.form (part (field_at c) (width_of c.form) s))
  unfolding size_of_cell cell_text
  cell-spelt small long =
      let label = fixed_there (label_of c) s c.at (seen-fine (fixed_code (label_of c) s c.at) c.at three.0) in
      let there = field-there c.form s (field_at c) field-fine in
      let wide = part-long s (field_at c) (width_of c.form) there.0 in
      let code = ap (λ (x : Result ℕ Code). is_ok x) (sym there.1) ∙ field-fine in
      let field = field-spelt c.form (part (field_at c) (width_of c.form) s) small wide code in
      part-add s c.at c.labelled (width_of c.form + cond c.ends 2 0)
      ∙ ap (λ (t : List ℕ). t ++ part (field_at c) (width_of c.form + cond c.ends 2 0) s) (ap (λ (n : ℕ). part c.at n s) (sym long) ∙ label.1)
      ∙ ap (λ (t : List ℕ). label_of c ++ t) (part-add s (field_at c) (width_of c.form) (cond c.ends 2 0))
      ∙ ap (λ (t : List ℕ). label_of c ++ (t ++ part (field_end c) (cond c.ends 2 0) s)) (sym field)
      ∙ ap (λ (t : List ℕ). label_of c ++ (field_text c.form (content_of c.form (part (field_at c) (width_of c.form) s)) ++ t)) ends_there

-- ---- a sheet

word_content : (form : Form) (f : List ℕ) → is_word form ≡ true → content_of form f ≡ word_in (bytes_read form f) ∷ []
unfolding content_of
word_content (Name w) f e = not-held e
word_content Switch f e = refl
word_content (Digit most) f e = refl
word_content (Number w l) f e = refl

name_content : (form : Form) (s : List ℕ) (at : ℕ) → is_four form ≡ true → content_of form (part at (width_of form) s) ≡ part at 4 s
unfolding content_of width_of
name_content (Name w) s at e = ap (λ (n : ℕ). part at n s) (eqb-true w 4 e)
name_content Switch s at e = not-held e
name_content (Digit most) s at e = not-held e
name_content (Number w l) s at e = not-held e

four_wide : (form : Form) → is_four form ≡ true → width_of form ≡ 4
unfolding width_of
four_wide (Name w) e = eqb-true w 4 e
four_wide Switch e = not-held e
four_wide (Digit most) e = not-held e
four_wide (Number w l) e = not-held e

-- a byte of an airport's name, and its status
pub name_byte : (s : List ℕ) (n j : ℕ) → j < 4 → airport_byte s (5 * n + j) ≡ get_or s (field_at (cell_at (name_cell n)) + j) 0
unfolding airport_byte
name_byte s n j h =
    let a : (5 * n + j) % 5 ≡ j = omega arith in
    let b : (5 * n + j) / 5 ≡ n = omega arith in
    rw (a, b, ne_eqb j 4 (λ (e : j ≡ 4). omega arith))

pub status-byte : (s : List ℕ) (n : ℕ) → airport_byte s (5 * n + 4) ≡ word_at s (suc (name_cell n))
unfolding airport_byte
status-byte s n =
    let a : (5 * n + 4) % 5 ≡ 4 = omega arith in
    let b : (5 * n + 4) / 5 ≡ n = omega arith in
    rw (a, b)

-- the airport of a cell, and the cell of an airport
name_cells_back : (m : ℕ) → m < 50 → eqb (name_cell (airport_of (2 * m))) (67 + 2 * m) ≡ true
name_cells_back = every (λ m. eqb (name_cell (airport_of (2 * m))) (67 + 2 * m)) 50 refl

status_cells_back : (m : ℕ) → m < 50 → eqb (name_cell (airport_of (2 * m + 1))) (67 + 2 * m) ≡ true
status_cells_back = every (λ m. eqb (name_cell (airport_of (2 * m + 1))) (67 + 2 * m)) 50 refl

pub first_cell : ((cell_at 0).form ≡ Name 6) × (field_at (cell_at 0) ≡ 15)
unfolding cell_at
first_cell = (refl, refl)

first_content : (s : List ℕ) → content_of (cell_at 0).form (part (field_at (cell_at 0)) (width_of (cell_at 0).form) s) ≡ part (field_at (cell_at 0)) 6 s
unfolding cell_at content_of width_of
first_content s = refl

both-none : (s : List ℕ) (x : Sheet) → joined (held_text x) 0 0 ≡ part 0 (sizes 0 0) s
unfolding joined sizes
both-none s x = refl

-- each cell stands where those before it end
pub places : (k : ℕ) → k < 167 → eqb (cell_at k).at (sizes 0 k) ≡ true
unfolding sizes size_of_cell cell_at box_cell airport_cell width_of
places = every (λ k. eqb (cell_at k).at (sizes 0 k)) 167 refl

module _ (s : List ℕ) (fine : check_sheet s ≡ (Ok tt)) where
  -- a word is what its field is read as
  pub word-is : (k : ℕ) → k < 167 → word_at s k ≡ word_in (bytes_read (cell_at k).form (part (field_at (cell_at k)) (width_of (cell_at k).form) s))
  word-is k h =
      ap word_in (field-there (cell_at k).form s (field_at (cell_at k)) (field-fine s (cell_at k) (checked-cell s fine k h))).1

  word_back : (k : ℕ) → k < 167 → is_word (cell_at k).form ≡ true
      → word_at s k ∷ [] ≡ content_of (cell_at k).form (part (field_at (cell_at k)) (width_of (cell_at k).form) s)
  word_back k h e = ap (λ (x : ℕ). x ∷ []) (word-is k h) ∙ sym (word_content (cell_at k).form (part (field_at (cell_at k)) (width_of (cell_at k).form) s) e)

  name_back : (k n : ℕ) → k < 167 → n < 50 → name_cell n ≡ k → is_four (cell_at k).form ≡ true
      → part (5 * n) 4 (values (airport_byte s) 0 250) ≡ content_of (cell_at k).form (part (field_at (cell_at k)) (width_of (cell_at k).form) s)
  name_back k n h few is e =
      let v = values (airport_byte s) 0 250 in
      let long = values_length (airport_byte s) 0 250 in
      let at = field_at (cell_at (name_cell n)) in
      let byte : (j : ℕ) → j < 4 → get_or v (5 * n + j) 0 ≡ get_or s (at + j) 0 =
      λ (j : ℕ) (q : j < 4). values-at (airport_byte s) 0 250 (5 * n + j) (omega arith) ∙ ap (airport_byte s) (zero-add (5 * n + j)) ∙ name_byte s n j q in
      let zero-byte : get_or v (5 * n) 0 ≡ get_or s at 0 =
      ap (λ (q : ℕ). get_or v q 0) (sym (add-zero (5 * n))) ∙ byte 0 (omega arith) ∙ ap (λ (q : ℕ). get_or s q 0) (add-zero at) in
      let room = (field-there (cell_at k).form s (field_at (cell_at k)) (field-fine s (cell_at k) (checked-cell s fine k h))).0 in
      let four : width_of (cell_at k).form ≡ 4 = four_wide (cell_at k).form e in
      let near : at + 4 ≤ length s = rw is (omega (arith, room, four)) in
      sym (part-four v (5 * n) (omega (arith, long)))
      ∙ rw (zero-byte, byte 1 (omega arith), byte 2 (omega arith), byte 3 (omega arith)) (part-four s at near)
      ∙ ap (λ (j : ℕ). part (field_at (cell_at j)) 4 s) is
      ∙ sym (name_content (cell_at k).form s (field_at (cell_at k)) e)

  -- an airport's name is the bytes behind the fixed group that has its number
  pub name_there : (n : ℕ) → n < 50 → part (5 * n) 4 (sheet_at s).airports ≡ part (field_at (cell_at (name_cell n))) 4 s
  unfolding sheet_at
  name_there n h =
      let four = name_cell_lem (name_cell n) (omega arith) (omega arith) (omega arith) in
      name_back (name_cell n) n (omega arith) h refl four ∙ name_content (cell_at (name_cell n)).form s (field_at (cell_at (name_cell n))) four

  -- what a cell holds of the record is what its field is read as
  pub held_back : (k : ℕ) → k < 167
      → held_at (sheet_at s) k ≡ content_of (cell_at k).form (part (field_at (cell_at k)) (width_of (cell_at k).form) s)
  unfolding held_at sheet_at
  held_back k h =
      by_eq k 0
      (λ (e : k ≡ 0). rw e (sym (first_content s)))
      (λ (n : k ≡ 0 → ⊥).
      by_lt k 17
      (λ (l : k < 17).
      let e : 1 + (k - 1) ≡ k = omega arith in
      rw (ne_eqb k 0 n, lt-ltb k 17 l) (ap (λ (x : ℕ). x ∷ []) (values-at (word_at s) 1 16 (k - 1) (omega arith) ∙ ap (word_at s) e) ∙ word_back k h (word_cell k (omega arith) (omega arith))))
      (λ (m : 17 ≤ k).
      by_lt k 67
      (λ (l : k < 67).
      let e : 17 + (k - 17) ≡ k = omega arith in
      rw (ne_eqb k 0 n, le-ltb k 17 m, lt-ltb k 67 l) (ap (λ (x : ℕ). x ∷ []) (values-at (word_at s) 17 50 (k - 17) (omega arith) ∙ ap (word_at s) e) ∙ word_back k h (word_cell k (omega arith) l)))
      (λ (q : 67 ≤ k).
      let j : ℕ = k - 67 in
      let few : airport_of j < 50 = ltb-true (airport_of j) 50 (airports-few j (omega arith)) in
      by_eq (j % 2) 0
      (λ (e : j % 2 ≡ 0).
      let two : 2 * (j / 2) ≡ j = omega arith in
      let cell : name_cell (airport_of j) ≡ k = ap (λ (i : ℕ). name_cell (airport_of i)) (sym two) ∙ eqb-true (name_cell (airport_of (2 * (j / 2)))) (67 + 2 * (j / 2)) (name_cells_back (j / 2) (omega arith)) ∙ omega arith in
      rw (ne_eqb k 0 n, le-ltb k 17 m, le-ltb k 67 q, eq-eqb (j % 2) 0 e) (name_back k (airport_of j) h few cell (name_cell_lem k q h e)))
      (λ (e : j % 2 ≡ 0 → ⊥).
      let two : 2 * (j / 2) + 1 ≡ j = omega arith in
      let cell : suc (name_cell (airport_of j)) ≡ k = ap suc (ap (λ (i : ℕ). name_cell (airport_of i)) (sym two) ∙ eqb-true (name_cell (airport_of (2 * (j / 2) + 1))) (67 + 2 * (j / 2)) (status_cells_back (j / 2) (omega arith))) ∙ omega arith in
      rw (ne_eqb k 0 n, le-ltb k 17 m, le-ltb k 67 q, ne_eqb (j % 2) 0 e)
      (ap (λ (x : ℕ). x ∷ []) (values-at (airport_byte s) 0 250 (5 * airport_of j + 4) (omega arith) ∙ ap (airport_byte s) (zero-add (5 * airport_of j + 4)) ∙ status-byte s (airport_of j) ∙ ap (word_at s) cell)
      ∙ word_back k h (status-cell k q h e))))))

  -- the texts of the first n cells are the bytes up to where they end
  cells_back : (n : ℕ) → n ≤ 167 → joined (held_text (sheet_at s)) 0 n ≡ part 0 (sizes 0 n) s
  cells_back zero h = both-none s (sheet_at s)
  cells_back (suc n) h =
      let few : n < 167 = h in
      let at : (cell_at n).at ≡ sizes 0 n = eqb-true (cell_at n).at (sizes 0 n) (places n few) in
      let small = small-parts (cell_at n) (cell-small n few) in
      let text = cell-spelt s (cell_at n) (checked-cell s fine n few) small.1.1 (label_length n few) in
      let more : suc n ≡ n + 1 = omega arith in
      rw more
      (joined-more (held_text (sheet_at s)) 0 n
      ∙ ap (λ (i : ℕ). joined (held_text (sheet_at s)) 0 n ++ held_text (sheet_at s) i) (zero-add n)
      ∙ ap (λ (t : List ℕ). t ++ held_text (sheet_at s) n) (cells_back n (omega arith))
      ∙ ap (λ (v : List ℕ). part 0 (sizes 0 n) s ++ cell_text (cell_at n) v) (held_back n few)
      ∙ ap (λ (t : List ℕ). part 0 (sizes 0 n) s ++ t) (sym text)
      ∙ ap (λ (p : ℕ). part 0 (sizes 0 n) s ++ part p (size_of_cell (cell_at n)) s) (at ∙ sym (zero-add (sizes 0 n)))
      ∙ sym (part-add s 0 (sizes 0 n) (size_of_cell (cell_at n)))
      ∙ ap (λ (m : ℕ). part 0 m s) (sym (sizes-more 0 n ∙ ap (λ (i : ℕ). sizes 0 n + size_of_cell (cell_at i)) (zero-add n))))

  -- an accepted text is the text of its record
  pub text-of-read : sheet_text (sheet_at s) ≡ s
  unfolding sheet_text
  text-of-read =
      cells_back 167 (omega arith)
      ∙ ap (λ (m : ℕ). part 0 m s) sizes-all
      ∙ take_all 913 s (omega (arith, checked-length s fine))
