-- The writer's check is the ranges: a record passes it just where it is allowed. And the record of an accepted text is.
use mathlib.Core.Path.{◌≡◌, refl, sym, ap, ◌∙◌}
use mathlib.Core.Bool.{Bool, true, false, cond, ◌&&◌}
use mathlib.Core.List.{List, [], ◌∷◌}
use Prim.Native.Nat.{ℕ, suc, ◌+◌, ◌-◌, ◌*◌, ◌%◌, ◌^◌, ◌≤◌, ◌<◌}
use native.Mathlib.Omega.{arith}
use lib.Dec.{leb, eqb}
use lib.ListN.{get_or}
use borrow.Author.Tests.{le-leb, lt-leb, leb-true, ltb-true, eqb-true}
use Rattle.text.specs.Parts.{part}
use Rattle.text.specs.Names.{between, all_allowed}
use Rattle.text.proofs.Cases.{by_test, by_eq, by_lt, both_left, both_right}
use Rattle.field.proofs.Decimal.{part-long}
use Rattle.sheet.specs.declared.Limits.{Limits}
use Rattle.sheet.specs.declared.Form.{Form}
use Rattle.sheet.specs.declared.Form.TheVariants.{Name, Switch, Digit, Number}
use Rattle.sheet.specs.declared.Sheet.{Sheet}
use Rattle.sheet.specs.Number.{word_in, is_below, size_of, within}
use Rattle.sheet.specs.Layout.{width_of, cell_at, box_cell, airport_cell}
use Rattle.sheet.specs.Inner.{small_form}
use Rattle.sheet.specs.Sheet.{field_at, switch_read, digit_read, bytes_read, check_sheet, word_at, airport_byte, name_cell, airport_of, sheet_at, held_at, held_code, allowed_cell, allowed_sheet}
use Rattle.sheet.specs.Allowed.{from, number_limits, box_limits, InRange, Allowed, Sized}
use Rattle.sheet.proofs.Small.{every, not-held, is_status, cell-small, small-parts, small-digit, small-number}
use Rattle.sheet.proofs.Each.{each_all}
use Rattle.sheet.proofs.Filled.{values-at, values_length}
use Rattle.sheet.proofs.Contents.{is_word, is_four, word_cell, name_cell_lem, status-is, status-held, code-held, allowed-held, number-held, edge-held, name_of, status-of, first_of, airports-few, airport_back, airport_next}
use Rattle.sheet.proofs.Checked.{checked-length, checked-cell}
use Rattle.sheet.proofs.Spelling.{read-within}
use Rattle.sheet.proofs.TextOfRead.{content_of, field-there, field-fine, first_cell, held_back, word-is}
use Rattle.std.specs.Prelude.{Result, Ok, Err, is_ok}
use Rattle.text.specs.declared.Code.{Code}
use Rattle.text.specs.declared.Code.TheVariants.{NotAllowed, OutOfRange}

-- ---- a word's limits, by its form

abbrev limits_of : Form → Limits
limits_of (Name w) = from 0 0
limits_of Switch = from 0 1
limits_of (Digit most) = from 0 most
limits_of (Number w l) = l

abbrev same : Limits → Limits → Bool
same a b = eqb a.below b.below && (eqb a.least b.least && eqb a.most b.most)

same-is : (a b : Limits) → same a b ≡ true → a ≡ b
same-is a b e =
    let rest = both_right (eqb a.below b.below) (eqb a.least b.least && eqb a.most b.most) e in
    let p = eqb-true a.below b.below (both_left (eqb a.below b.below) (eqb a.least b.least && eqb a.most b.most) e) in
    let q = eqb-true a.least b.least (both_left (eqb a.least b.least) (eqb a.most b.most) rest) in
    let r = eqb-true a.most b.most (both_right (eqb a.least b.least) (eqb a.most b.most) rest) in
    rw (p, q, r)

-- the layout's limits are those of the record's ranges
number_cells : (i : ℕ) → i < 16 → same (limits_of (cell_at (1 + i)).form) (get_or number_limits i (from 0 0)) ≡ true
unfolding cell_at box_cell airport_cell
number_cells = every (λ i. same (limits_of (cell_at (1 + i)).form) (get_or number_limits i (from 0 0))) 16 refl

edge_cells : (i : ℕ) → i < 50 → same (limits_of (cell_at (17 + i)).form) (get_or box_limits (i % 5) (from 0 0)) ≡ true
unfolding cell_at box_cell airport_cell
edge_cells = every (λ i. same (limits_of (cell_at (17 + i)).form) (get_or box_limits (i % 5) (from 0 0))) 50 refl

number-limits : (i : ℕ) → i < 16 → limits_of (cell_at (1 + i)).form ≡ get_or number_limits i (from 0 0)
number-limits i h = same-is (limits_of (cell_at (1 + i)).form) (get_or number_limits i (from 0 0)) (number_cells i h)

edge-limits : (i : ℕ) → i < 50 → limits_of (cell_at (17 + i)).form ≡ get_or box_limits (i % 5) (from 0 0)
edge-limits i h = same-is (limits_of (cell_at (17 + i)).form) (get_or box_limits (i % 5) (from 0 0)) (edge_cells i h)

-- a number that is not in degrees goes as far as its width does
abbrev fills : Form → ℕ → Bool
fills (Name w) most = true
fills Switch most = true
fills (Digit d) most = true
fills (Number w l) most = eqb (suc most) (10 ^ w)

width_cells : (i : ℕ) → i < 16 → fills (cell_at (suc i)).form (get_or number_limits i (from 0 0)).most ≡ true
unfolding cell_at box_cell airport_cell
width_cells = every (λ i. fills (cell_at (suc i)).form (get_or number_limits i (from 0 0)).most) 16 refl

pub widths : (i w : ℕ) (l : Limits) → i < 16 → (cell_at (suc i)).form ≡ Number w l → suc (get_or number_limits i (from 0 0)).most ≡ 10 ^ w
widths i w l h e = eqb-true (suc (get_or number_limits i (from 0 0)).most) (10 ^ w) (rw e at (width_cells i h))

-- few values from 0 on
few-within : (most w : ℕ) → most < 32768 → w < 65536 → within (from 0 most) (is_below w) (size_of w) ≡ leb w most
unfolding within
few-within most w few word =
    by_test (is_below w)
    (λ (e : is_below w ≡ true).
    let far : 32768 ≤ w = leb-true 32768 w e in
    rw (e, lt-leb (65536 - w) 0 (omega arith), lt-leb w most (omega arith)))
    (λ (e : is_below w ≡ false). rw (e, le-leb 0 w (omega arith)))

-- a word is taken just where it is in its form's range
module _ (form : Form) (w : ℕ) (is : is_word form ≡ true) (small : small_form form ≡ true) (word : w < 65536) where
  in_range_lem : held_code form (w ∷ []) ≡ Ok tt → InRange (limits_of form) w
  unfolding held_code
  in_range_lem code = go form is small code
    where
      go : (form : Form) → is_word form ≡ true → small_form form ≡ true → held_code form (w ∷ []) ≡ Ok tt → InRange (limits_of form) w
      go (Name n) is small code = not-held is
      go Switch is small code = few-within 1 w (omega arith) word ∙ code-held (leb w 1) NotAllowed code
      go (Digit most) is small code = few-within most w (omega (arith, small-digit most small)) word ∙ code-held (leb w most) NotAllowed code
      go (Number n l) is small code = code-held (within l (is_below w) (size_of w)) OutOfRange code

  range_in : InRange (limits_of form) w → held_code form (w ∷ []) ≡ Ok tt
  unfolding held_code
  range_in r = go form is small r
    where
      go : (form : Form) → is_word form ≡ true → small_form form ≡ true → InRange (limits_of form) w → held_code form (w ∷ []) ≡ Ok tt
      go (Name n) is small r = not-held is
      go Switch is small r = rw (sym (few-within 1 w (omega arith) word) ∙ r)
      go (Digit most) is small r = rw (sym (few-within most w (omega (arith, small-digit most small)) word) ∙ r)
      go (Number n l) is small r = rw r

status-fine : (form : Form) (w : ℕ) → is_status form ≡ true → w ≤ 1 → held_code form (w ∷ []) ≡ Ok tt
unfolding held_code
status-fine (Name n) w e h = not-held e
status-fine Switch w e h = not-held e
status-fine (Digit most) w e h = rw (le-leb w most (omega (arith, eqb-true most 1 e)))
status-fine (Number n l) w e h = not-held e

-- ---- a name

name_code : (form : Form) (v : List ℕ) → is_word form ≡ false → held_code form v ≡ cond (all_allowed v) (Ok tt) (Err NotAllowed)
unfolding held_code
name_code (Name w) v e = refl
name_code Switch v e = not-held (sym e)
name_code (Digit most) v e = not-held (sym e)
name_code (Number w l) v e = not-held (sym e)

four_name : (form : Form) → is_four form ≡ true → is_word form ≡ false
four_name (Name w) e = refl
four_name Switch e = not-held e
four_name (Digit most) e = not-held e
four_name (Number w l) e = not-held e

first_name : is_word (cell_at 0).form ≡ false
unfolding cell_at
first_name = refl

small-form : (k : ℕ) → k < 167 → small_form (cell_at k).form ≡ true
small-form k h = (small-parts (cell_at k) (cell-small k h)).1.1

-- ---- the record's ranges, cell by cell

module _ (x : Sheet) (sized : Sized x) (a : Allowed x) where
  held-fine : (k : ℕ) → k < 167 → held_code (cell_at k).form (held_at x k) ≡ Ok tt
  held-fine k h =
      by_eq k 0
      (λ (e : k ≡ 0). rw (e, first_of x) (name_code (cell_at 0).form x.designator first_name ∙ rw a.designator))
      (λ (n : k ≡ 0 → ⊥).
      by_lt k 17
      (λ (l : k < 17).
      let is : 1 + (k - 1) ≡ k = omega arith in
      let limits = ap (λ (j : ℕ). limits_of (cell_at j).form) (sym is) ∙ number-limits (k - 1) (omega arith) in
      rw (number-held x k (omega arith) l)
      (range_in (cell_at k).form (get_or x.numbers (k - 1) 0) (word_cell k (omega arith) (omega arith)) (small-form k h) (sized.words (k - 1) (omega arith))
      (rw limits (a.numbers (k - 1) (omega arith)))))
      (λ (m : 17 ≤ k).
      by_lt k 67
      (λ (l : k < 67).
      let is : 17 + (k - 17) ≡ k = omega arith in
      let limits = ap (λ (j : ℕ). limits_of (cell_at j).form) (sym is) ∙ edge-limits (k - 17) (omega arith) in
      rw (edge-held x k m l)
      (range_in (cell_at k).form (get_or x.boxes (k - 17) 0) (word_cell k (omega arith) l) (small-form k h) (sized.edges (k - 17) (omega arith))
      (rw limits (a.boxes (k - 17) (omega arith)))))
      (λ (q : 67 ≤ k).
      let n : ℕ = airport_of (k - 67) in
      let few : n < 50 = ltb-true n 50 (airports-few (k - 67) (omega arith)) in
      by_eq ((k - 67) % 2) 0
      (λ (e : (k - 67) % 2 ≡ 0).
      rw (name_of x k q e) (name_code (cell_at k).form (part (5 * n) 4 x.airports) (four_name (cell_at k).form (name_cell_lem k q h e)) ∙ rw (a.names n few)))
      (λ (e : (k - 67) % 2 ≡ 0 → ⊥). rw (status-of x k q e) (status-fine (cell_at k).form (get_or x.airports (5 * n + 4) 0) (status-is k q h e) (a.statuses n few))))))

  -- an allowed record passes the writer's check
  pub allowed-fine : allowed_sheet x ≡ (Ok tt)
  unfolding allowed_sheet allowed_cell
  allowed-fine = each_all (allowed_cell x) 167 0 (λ (j : ℕ) (l : 0 ≤ j) (m : j < 0 + 167). rw (held-fine j (omega arith)))

module _ (x : Sheet) (sized : Sized x) (fine : allowed_sheet x ≡ (Ok tt)) where
  -- and no other does
  pub fine-allowed : Allowed x
  fine-allowed =
      record {
        designator =
            code-held (all_allowed x.designator) NotAllowed
            (sym (name_code (cell_at 0).form x.designator first_name) ∙ ap (held_code (cell_at 0).form) (sym (first_of x)) ∙ allowed-held x fine 0 (omega arith));
        numbers = numbers;
        boxes = boxes;
        names = names;
        statuses = statuses;
      }
    where
      numbers : (i : ℕ) → i < 16 → InRange (get_or number_limits i (from 0 0)) (get_or x.numbers i 0)
      numbers i h =
          let e : 1 + i - 1 ≡ i = omega arith in
          let held = number-held x (1 + i) (omega arith) (omega arith) ∙ ap (λ (j : ℕ). get_or x.numbers j 0 ∷ []) e in
          rw (← number-limits i h)
          (in_range_lem (cell_at (1 + i)).form (get_or x.numbers i 0) (word_cell (1 + i) (omega arith) (omega arith)) (small-form (1 + i) (omega arith)) (sized.words i h)
          (ap (held_code (cell_at (1 + i)).form) (sym held) ∙ allowed-held x fine (1 + i) (omega arith)))

      boxes : (i : ℕ) → i < 50 → InRange (get_or box_limits (i % 5) (from 0 0)) (get_or x.boxes i 0)
      boxes i h =
          let e : 17 + i - 17 ≡ i = omega arith in
          let held = edge-held x (17 + i) (omega arith) (omega arith) ∙ ap (λ (j : ℕ). get_or x.boxes j 0 ∷ []) e in
          rw (← edge-limits i h)
          (in_range_lem (cell_at (17 + i)).form (get_or x.boxes i 0) (word_cell (17 + i) (omega arith) (omega arith)) (small-form (17 + i) (omega arith)) (sized.edges i h)
          (ap (held_code (cell_at (17 + i)).form) (sym held) ∙ allowed-held x fine (17 + i) (omega arith)))

      names : (n : ℕ) → n < 50 → all_allowed (part (5 * n) 4 x.airports) ≡ true
      names n h =
          let k : ℕ = name_cell n in
          let low : 67 ≤ k = omega arith in
          let high : k < 167 = omega arith in
          let even : (k - 67) % 2 ≡ 0 = omega arith in
          let back : airport_of (k - 67) ≡ n = eqb-true (airport_of (name_cell n - 67)) n (airport_back n h) in
          let held = name_of x k low even ∙ ap (λ (m : ℕ). part (5 * m) 4 x.airports) back in
          code-held (all_allowed (part (5 * n) 4 x.airports)) NotAllowed
          (sym (name_code (cell_at k).form (part (5 * n) 4 x.airports) (four_name (cell_at k).form (name_cell_lem k low high even)))
          ∙ ap (held_code (cell_at k).form) (sym held)
          ∙ allowed-held x fine k high)

      statuses : (n : ℕ) → n < 50 → get_or x.airports (5 * n + 4) 0 ≤ 1
      statuses n h =
          let k : ℕ = suc (name_cell n) in
          let low : 67 ≤ k = omega arith in
          let high : k < 167 = omega arith in
          let odd : (k - 67) % 2 ≡ 0 → ⊥ = λ (e : (k - 67) % 2 ≡ 0). omega arith in
          let back : airport_of (k - 67) ≡ n = eqb-true (airport_of (suc (name_cell n) - 67)) n (airport_next n h) in
          let held = status-of x k low odd ∙ ap (λ (m : ℕ). get_or x.airports (5 * m + 4) 0 ∷ []) back in
          status-held (cell_at k).form (get_or x.airports (5 * n + 4) 0) (status-is k low high odd)
          (ap (held_code (cell_at k).form) (sym held) ∙ allowed-held x fine k high)

-- ---- the record of an accepted text

-- a field's word, of 16 bits and in its form's range; a name's bytes
switch-few : (b : ℕ) → word_in (switch_read b) ≤ 1
switch-few b =
    by_test (eqb b 68)
    (λ (p : eqb b 68 ≡ true). rw p (omega arith))
    (λ (p : eqb b 68 ≡ false).
    by_test (eqb b 82) (λ (q : eqb b 82 ≡ true). rw (p, q) (omega arith)) (λ (q : eqb b 82 ≡ false). rw (p, q) (omega arith)))

digit-few : (most b : ℕ) → word_in (digit_read most b) ≤ most
digit-few most b =
    by_test (between 48 (48 + most) b)
    (λ (p : between 48 (48 + most) b ≡ true). rw p (omega (arith, leb-true b (48 + most) (both_right (leb 48 b) (leb b (48 + most)) p))))
    (λ (p : between 48 (48 + most) b ≡ false). rw p (omega arith))

content_held : (form : Form) (f : List ℕ) → small_form form ≡ true → is_ok (bytes_read form f) ≡ true → held_code form (content_of form f) ≡ Ok tt
unfolding held_code content_of bytes_read
content_held (Name w) f small e =
    by_test (all_allowed f) (λ (p : all_allowed f ≡ true). rw p) (λ (p : all_allowed f ≡ false). not-held (rw p at e))
content_held Switch f small e = rw (le-leb (word_in (switch_read (get_or f 0 0))) 1 (switch-few (get_or f 0 0)))
content_held (Digit most) f small e = rw (le-leb (word_in (digit_read most (get_or f 0 0))) most (digit-few most (get_or f 0 0)))
content_held (Number w l) f small e = rw (read-within l f (small-number w l small).1 e).1

word_held : (form : Form) (f : List ℕ) → small_form form ≡ true → is_ok (bytes_read form f) ≡ true → word_in (bytes_read form f) < 65536
unfolding bytes_read
word_held (Name w) f small e =
    by_test (all_allowed f) (λ (p : all_allowed f ≡ true). rw p (omega arith)) (λ (p : all_allowed f ≡ false). rw p (omega arith))
word_held Switch f small e = omega (arith, switch-few (get_or f 0 0))
word_held (Digit most) f small e = omega (arith, digit-few most (get_or f 0 0), small-digit most small)
word_held (Number w l) f small e = (read-within l f (small-number w l small).1 e).0

module _ (s : List ℕ) (fine : check_sheet s ≡ (Ok tt)) where
  field-code : (k : ℕ) → k < 167 → is_ok (bytes_read (cell_at k).form (part (field_at (cell_at k)) (width_of (cell_at k).form) s)) ≡ true
  field-code k h =
      let code = field-fine s (cell_at k) (checked-cell s fine k h) in
      ap (λ (w : Result ℕ Code). is_ok w) (sym (field-there (cell_at k).form s (field_at (cell_at k)) code).1) ∙ code

  -- it passes the writer's check
  pub read-fine : allowed_sheet (sheet_at s) ≡ (Ok tt)
  unfolding allowed_sheet allowed_cell
  read-fine =
      each_all (allowed_cell (sheet_at s)) 167 0
      (λ (j : ℕ) (l : 0 ≤ j) (m : j < 0 + 167).
      let h : j < 167 = omega arith in
      rw (held_back s fine j h, content_held (cell_at j).form (part (field_at (cell_at j)) (width_of (cell_at j).form) s) (small-form j h) (field-code j h)))

  word_fits : (k : ℕ) → k < 167 → word_at s k < 65536
  word_fits k h =
      rw (word-is s fine k h) (word_held (cell_at k).form (part (field_at (cell_at k)) (width_of (cell_at k).form) s) (small-form k h) (field-code k h))

  -- it is as C's record is by its type
  pub read-sized : Sized (sheet_at s)
  unfolding sheet_at
  read-sized =
      record {
        numbers = values_length (word_at s) 1 16;
        boxes = values_length (word_at s) 17 50;
        designator = part-long s (field_at (cell_at 0)) 6 (omega (arith, first_cell.1, checked-length s fine));
        airports = values_length (airport_byte s) 0 250;
        words = λ (i : ℕ) (h : i < 16). rw (values-at (word_at s) 1 16 i h) (word_fits (1 + i) (omega arith));
        edges = λ (i : ℕ) (h : i < 50). rw (values-at (word_at s) 17 50 i h) (word_fits (17 + i) (omega arith));
      }

  -- and it is allowed
  pub read-allowed : Allowed (sheet_at s)
  read-allowed = fine-allowed (sheet_at s) read-sized read-fine
