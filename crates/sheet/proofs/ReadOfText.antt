-- An allowed record is the record of its text, and that text is accepted.
use mathlib.Core.Path.{◌≡◌, refl, sym, ap, ◌∙◌}
use mathlib.Core.Bool.{Bool, true, false, cond, ◌&&◌, ◌||◌}
use mathlib.Core.List.{List, [], ◌∷◌, ◌++◌, append_assoc}
use Prim.Native.Nat.{ℕ, zero, suc, ◌+◌, ◌-◌, ◌*◌, ◌/◌, ◌%◌, ◌^◌, ◌≤◌, ◌<◌}
use native.Mathlib.Omega.{arith}
use native.Mathlib.Nat.{add-zero, zero-add}
use lib.Dec.{leb, ltb, eqb}
use lib.ListN.{length, get_or, drop, length-append}
use lib.Seq.{get_or-take, get_or-drop}
use borrow.Author.Tests.{ne_eqb, le-leb, leb-true, ltb-true, eqb-true}
use Rattle.text.specs.Parts.{part}
use Rattle.text.specs.Names.{all_allowed}
use Rattle.text.specs.Table.{values}
use Rattle.text.proofs.Cases.{by_eq, by_lt, both_left, both_right}
use Rattle.text.proofs.Equal.{equal-same}
use Rattle.text.proofs.Stands.{Stands, stands_middle, stands-left, stands_right}
use Rattle.field.proofs.Decimal.{part-long}
use Rattle.sheet.specs.declared.Form.{Form}
use Rattle.sheet.specs.declared.Form.TheVariants.{Name, Switch, Digit, Number}
use Rattle.sheet.specs.declared.Sheet.{Sheet}
use Rattle.sheet.specs.Number.{word_in, is_below, size_of, within}
use Rattle.sheet.specs.Layout.{width_of, cell_at, box_cell, airport_cell}
use Rattle.sheet.specs.Allowed.{Sized}
use Rattle.sheet.specs.Inner.{size_of_cell}
use Rattle.sheet.specs.Sheet.{seen, field_at, field_end, label_of, line_end, fixed_code, digit_read, switch_read, bytes_read, field_read, check_cell, check_sheet, word_at, name_cell, airport_byte, airport_of, sheet_at, held_at, held_code, allowed_sheet, field_text, cell_text, joined, held_text, sheet_text}
use Rattle.sheet.proofs.Small.{every, not-held}
use Rattle.sheet.proofs.Contents.{ok-seen, sizes, sizes-more, sizes-all, joined-more, label_length, is_word, is_four, word_cell, name_cell_lem, status-cell, status-is, status-held, code-held, number-length, cell-length, allowed-held, number-held, edge-held, name_of, status-of, first_of, airports-few, airport_back, airport_next}
use Rattle.sheet.proofs.Each.{each_all}
use Rattle.sheet.proofs.Spelt.{spelt-read}
use Rattle.sheet.proofs.TextOfRead.{places, name_byte, status-byte}
use Rattle.std.specs.Prelude.{Result, Ok, is_ok}
use Rattle.text.specs.declared.Code.{Code}
use Rattle.text.specs.declared.Code.TheVariants.{NotAllowed, OutOfRange}

-- ---- a field

-- a number's width holds its limits
abbrev roomy : Form → Bool
roomy (Name w) = true
roomy Switch = true
roomy (Digit most) = true
roomy (Number w l) = ltb 0 w && (ltb l.most (10 ^ w) && (ltb l.below (10 ^ (w - 1)) && (eqb l.below 0 || ltb 1 w)))

roomy_cells : (k : ℕ) → k < 167 → roomy (cell_at k).form ≡ true
unfolding cell_at box_cell airport_cell
roomy_cells = every (λ k. roomy (cell_at k).form) 167 refl

switch_back : (w : ℕ) → w ≤ 1 → switch_read (cond (eqb w 0) 68 82) ≡ Ok w
switch_back w h = by_eq w 0 (λ (e : w ≡ 0). rw e) (λ (n : w ≡ 0 → ⊥). let e : w ≡ 1 = omega arith in rw e)

digit-back : (most w : ℕ) → w ≤ most → digit_read most (48 + w) ≡ Ok w
digit-back most w h =
    let back : 48 + w - 48 ≡ w = omega arith in
    rw (le-leb 48 (48 + w) (omega arith), le-leb (48 + w) (48 + most) (omega arith), back)

some_or : (s t : Bool) → (s || t) ≡ true → s ≡ false → t ≡ true
some_or true t e f = not-held (sym f ∙ e)
some_or false t e f = e

-- a word's field is read as the word
word_read : (form : Form) (w : ℕ) → is_word form ≡ true → roomy form ≡ true → w < 65536 → held_code form (w ∷ []) ≡ Ok tt
    → bytes_read form (field_text form (w ∷ [])) ≡ Ok w
unfolding bytes_read field_text held_code
word_read (Name n) w e r small code = not-held e
word_read Switch w e r small code = switch_back w (leb-true w 1 (code-held (leb w 1) NotAllowed code))
word_read (Digit most) w e r small code = digit-back most w (leb-true w most (code-held (leb w most) NotAllowed code))
word_read (Number n l) w e r small code =
    let b = both_right (ltb 0 n) (ltb l.most (10 ^ n) && (ltb l.below (10 ^ (n - 1)) && (eqb l.below 0 || ltb 1 n))) r in
    let c = both_right (ltb l.most (10 ^ n)) (ltb l.below (10 ^ (n - 1)) && (eqb l.below 0 || ltb 1 n)) b in
    let d = both_right (ltb l.below (10 ^ (n - 1))) (eqb l.below 0 || ltb 1 n) c in
    spelt-read l n w
    (ltb-true 0 n (both_left (ltb 0 n) (ltb l.most (10 ^ n) && (ltb l.below (10 ^ (n - 1)) && (eqb l.below 0 || ltb 1 n))) r))
    (ltb-true l.most (10 ^ n) (both_left (ltb l.most (10 ^ n)) (ltb l.below (10 ^ (n - 1)) && (eqb l.below 0 || ltb 1 n)) b))
    (λ (h : 0 < l.below). ltb-true 1 n (some_or (eqb l.below 0) (ltb 1 n) d (ne_eqb l.below 0 (λ (z : l.below ≡ 0). omega arith))))
    (ltb-true l.below (10 ^ (n - 1)) (both_left (ltb l.below (10 ^ (n - 1))) (eqb l.below 0 || ltb 1 n) c))
    small
    (code-held (within l (is_below w) (size_of w)) OutOfRange code)

word-length : (form : Form) (w : ℕ) → is_word form ≡ true → length (field_text form (w ∷ [])) ≡ width_of form
unfolding field_text width_of
word-length (Name n) w e = not-held e
word-length Switch w e = refl
word-length (Digit most) w e = refl
word-length (Number n l) w e = number-length n w

-- ---- what stands at its place is found there

fixed_fine : (t s : List ℕ) (at : ℕ) → Stands t s at → fixed_code t s at ≡ Ok tt
unfolding fixed_code
fixed_fine t s at h = rw (le-leb (at + length t) (length s) h.room, equal-same (part at (length t) s) t h.same)

field_found : (form : Form) (f s : List ℕ) (at : ℕ) → length f ≡ width_of form → Stands f s at → field_read form s at ≡ bytes_read form f
unfolding field_read
field_found form f s at long h =
    rw (le-leb (at + width_of form) (length s) (omega (arith, h.room, long)))
    (ap (λ (n : ℕ). bytes_read form (part at n s)) (sym long) ∙ ap (bytes_read form) h.same)

-- ---- texts one after the other

joined-add : (f : ℕ → List ℕ) (i n m : ℕ) → joined f i (n + m) ≡ joined f i n ++ joined f (i + n) m
unfolding joined
joined-add f i zero m = let e : 0 + m ≡ m = omega arith in rw (e, add-zero i)
joined-add f i (suc n) m =
    let e : suc n + m ≡ suc (n + m) = omega arith in
    let q : i + suc n ≡ suc i + n = omega arith in
    rw (e, q) (ap (λ (t : List ℕ). f i ++ t) (joined-add f (suc i) n m) ∙ sym (append_assoc (f i) (joined f (suc i) n) (joined f (suc i + n) m)))

moved-stands : (t s u : List ℕ) (a b : ℕ) → u ≡ s → b ≡ a → Stands t u b → Stands t s a
moved-stands t s u a b p q h = rw (← p, ← q) h

-- ---- what a cell holds

abbrev is_name_of : ℕ → Form → Bool
is_name_of n (Name w) = eqb w n
is_name_of n Switch = false
is_name_of n (Digit most) = false
is_name_of n (Number w l) = false

name_read_lem : (form : Form) (n : ℕ) (v : List ℕ) → is_name_of n form ≡ true → length v ≡ n → held_code form v ≡ Ok tt
    → (is_ok (bytes_read form (field_text form v)) ≡ true) × ((length (field_text form v) ≡ width_of form) × (field_text form v ≡ v))
unfolding bytes_read field_text held_code width_of
name_read_lem (Name w) n v e long code = (rw (code-held (all_allowed v) NotAllowed code), (long ∙ sym (eqb-true w n e), refl))
name_read_lem Switch n v e long code = not-held e
name_read_lem (Digit most) n v e long code = not-held e
name_read_lem (Number w l) n v e long code = not-held e

four_name : (form : Form) → is_four form ≡ true → is_name_of 4 form ≡ true
four_name (Name w) e = e
four_name Switch e = not-held e
four_name (Digit most) e = not-held e
four_name (Number w l) e = not-held e

first_name : is_name_of 6 (cell_at 0).form ≡ true
unfolding cell_at
first_name = refl

ends-fine : (t : Bool) (s : List ℕ) (at : ℕ) → Stands (cond t line_end []) s at → cond t (seen (fixed_code line_end s at) at) (Ok tt) ≡ (Ok tt)
ends-fine true s at h = rw (fixed_fine line_end s at h)
ends-fine false s at h = refl

values_are : (f : ℕ → ℕ) (from : ℕ) (l : List ℕ) → ((i : ℕ) → i < length l → f (from + i) ≡ get_or l i 0) → values f from (length l) ≡ l
values_are f from [] h = refl
values_are f from (a ∷ l) h =
    let first : f from ≡ a = ap f (sym (add-zero from)) ∙ h 0 (omega arith) in
    let rest = values_are f (suc from) l (λ (i : ℕ) (q : i < length l). let e : suc from + i ≡ from + suc i = omega arith in ap f e ∙ h (suc i) (omega arith)) in
    rw (first, rest)

module _ (x : Sheet) (sized : Sized x) (fine : allowed_sheet x ≡ (Ok tt)) where
  -- a cell's field is as wide as it says, and is accepted
  Told : ℕ → Type 0
  Told k = (is_ok (bytes_read (cell_at k).form (field_text (cell_at k).form (held_at x k))) ≡ true) × (length (field_text (cell_at k).form (held_at x k)) ≡ width_of (cell_at k).form)

  word-told : (k w : ℕ) → k < 167 → held_at x k ≡ w ∷ [] → is_word (cell_at k).form ≡ true → w < 65536
      → bytes_read (cell_at k).form (field_text (cell_at k).form (held_at x k)) ≡ Ok w
  word-told k w h is e small =
      let code = rw is at (allowed-held x fine k h) in
      rw is (word_read (cell_at k).form w e (roomy_cells k h) small code)

  told-word : (k w : ℕ) → k < 167 → held_at x k ≡ w ∷ [] → is_word (cell_at k).form ≡ true → w < 65536 → Told k
  unfolding Told
  told-word k w h is e small =
      (ap (λ (g : Result ℕ Code). is_ok g) (word-told k w h is e small), rw is (word-length (cell_at k).form w e))

  told_name : (k n : ℕ) → k < 167 → is_name_of n (cell_at k).form ≡ true → length (held_at x k) ≡ n → Told k
  unfolding Told
  told_name k n h e long = let t = name_read_lem (cell_at k).form n (held_at x k) e long (allowed-held x fine k h) in (t.0, t.1.0)

  status-small : (k : ℕ) → 67 ≤ k → k < 167 → ((k - 67) % 2 ≡ 0 → ⊥) → get_or x.airports (5 * airport_of (k - 67) + 4) 0 < 65536
  status-small k q h e =
      let code = rw (status-of x k q e) at (allowed-held x fine k h) in
      omega (arith, status-held (cell_at k).form (get_or x.airports (5 * airport_of (k - 67) + 4) 0) (status-is k q h e) code)

  told : (k : ℕ) → k < 167 → Told k
  told k h =
      by_eq k 0
      (λ (e : k ≡ 0). told_name k 6 h (rw e first_name) (rw e (ap length (first_of x) ∙ sized.designator)))
      (λ (n : k ≡ 0 → ⊥).
      by_lt k 17
      (λ (l : k < 17). told-word k (get_or x.numbers (k - 1) 0) h (number-held x k (omega arith) l) (word_cell k (omega arith) (omega arith)) (sized.words (k - 1) (omega arith)))
      (λ (m : 17 ≤ k).
      by_lt k 67
      (λ (l : k < 67). told-word k (get_or x.boxes (k - 17) 0) h (edge-held x k m l) (word_cell k (omega arith) l) (sized.edges (k - 17) (omega arith)))
      (λ (q : 67 ≤ k).
      let a : ℕ = airport_of (k - 67) in
      let few : a < 50 = ltb-true a 50 (airports-few (k - 67) (omega arith)) in
      by_eq ((k - 67) % 2) 0
      (λ (e : (k - 67) % 2 ≡ 0).
      told_name k 4 h (four_name (cell_at k).form (name_cell_lem k q h e)) (ap length (name_of x k q e) ∙ part-long x.airports (5 * a) 4 (omega (arith, sized.airports))))
      (λ (e : (k - 67) % 2 ≡ 0 → ⊥).
      told-word k (get_or x.airports (5 * a + 4) 0) h (status-of x k q e) (status-cell k q h e) (status-small k q h e)))))

  held-length : (k : ℕ) → k < 167 → length (held_text x k) ≡ size_of_cell (cell_at k)
  unfolding Told
  held-length k h = cell-length (cell_at k) (held_at x k) (label_length k h) (told k h).1

  joined_length : (k : ℕ) → k ≤ 167 → length (joined (held_text x) 0 k) ≡ sizes 0 k
  unfolding joined sizes
  joined_length zero h = refl
  joined_length (suc k) h =
      let more : suc k ≡ k + 1 = omega arith in
      let text : joined (held_text x) 0 (k + 1) ≡ joined (held_text x) 0 k ++ held_text x k = joined-more (held_text x) 0 k ∙ ap (λ (i : ℕ). joined (held_text x) 0 k ++ held_text x i) (zero-add k) in
      let size : sizes 0 (k + 1) ≡ sizes 0 k + size_of_cell (cell_at k) = sizes-more 0 k ∙ ap (λ (i : ℕ). sizes 0 k + size_of_cell (cell_at i)) (zero-add k) in
      ap (λ (i : ℕ). length (joined (held_text x) 0 i)) more
      ∙ ap length text
      ∙ length-append (joined (held_text x) 0 k) (held_text x k)
      ∙ omega (arith, joined_length k (omega arith), held-length k (omega arith), size, ap (sizes 0) more)

  pub text-length : length (sheet_text x) ≡ 913
  unfolding sheet_text
  text-length = joined_length 167 (omega arith) ∙ sizes-all

  -- each cell's text stands at its place
  cell-stands : (k : ℕ) → k < 167 → Stands (held_text x k) (sheet_text x) (cell_at k).at
  unfolding sheet_text joined
  cell-stands k h =
      let f = held_text x in
      let m : ℕ = 166 - k in
      let all : 167 ≡ k + suc m = omega arith in
      let first : 0 + k ≡ k = omega arith in
      let front = joined f 0 k in
      let back = joined f (suc k) m in
      let split : joined f 0 167 ≡ (front ++ f k) ++ back =
      ap (joined f 0) all ∙ joined-add f 0 k (suc m) ∙ ap (λ (i : ℕ). front ++ joined f i (suc m)) first ∙ sym (append_assoc front (f k) back) in
      let at : length front ≡ (cell_at k).at = joined_length k (omega arith) ∙ sym (eqb-true (cell_at k).at (sizes 0 k) (places k h)) in
      moved-stands (f k) (joined f 0 167) ((front ++ f k) ++ back) (cell_at k).at (length front) (sym split) at (stands_middle front (f k) back)

  label_stands : (k : ℕ) → k < 167 → Stands (label_of (cell_at k)) (sheet_text x) (cell_at k).at
  unfolding cell_text
  label_stands k h =
      stands-left (label_of (cell_at k)) (field_text (cell_at k).form (held_at x k) ++ cond (cell_at k).ends line_end []) (sheet_text x) (cell_at k).at (cell-stands k h)

  rest-stands : (k : ℕ) → k < 167 → Stands (field_text (cell_at k).form (held_at x k) ++ cond (cell_at k).ends line_end []) (sheet_text x) (field_at (cell_at k))
  unfolding cell_text
  rest-stands k h =
      let t = field_text (cell_at k).form (held_at x k) ++ cond (cell_at k).ends line_end [] in
      moved-stands t (sheet_text x) (sheet_text x) (field_at (cell_at k)) ((cell_at k).at + length (label_of (cell_at k))) refl (ap (λ (n : ℕ). (cell_at k).at + n) (label_length k h))
      (stands_right (label_of (cell_at k)) t (sheet_text x) (cell_at k).at (cell-stands k h))

  -- each field stands at its place, and is read there
  field-stands : (k : ℕ) → k < 167 → Stands (field_text (cell_at k).form (held_at x k)) (sheet_text x) (field_at (cell_at k))
  field-stands k h =
      stands-left (field_text (cell_at k).form (held_at x k)) (cond (cell_at k).ends line_end []) (sheet_text x) (field_at (cell_at k)) (rest-stands k h)

  field_is : (k : ℕ) → k < 167 → field_read (cell_at k).form (sheet_text x) (field_at (cell_at k)) ≡ bytes_read (cell_at k).form (field_text (cell_at k).form (held_at x k))
  unfolding Told
  field_is k h = field_found (cell_at k).form (field_text (cell_at k).form (held_at x k)) (sheet_text x) (field_at (cell_at k)) (told k h).1 (field-stands k h)

  end_stands : (k : ℕ) → k < 167 → Stands (cond (cell_at k).ends line_end []) (sheet_text x) (field_end (cell_at k))
  unfolding Told
  end_stands k h =
      let f = field_text (cell_at k).form (held_at x k) in
      let e = cond (cell_at k).ends line_end [] in
      moved-stands e (sheet_text x) (sheet_text x) (field_end (cell_at k)) (field_at (cell_at k) + length f) refl (ap (λ (n : ℕ). field_at (cell_at k) + n) (told k h).1)
      (stands_right f e (sheet_text x) (field_at (cell_at k)) (rest-stands k h))

  cell-fine : (k : ℕ) → k < 167 → check_cell (sheet_text x) (cell_at k) ≡ (Ok tt)
  unfolding check_cell Told
  cell-fine k h =
      let code : is_ok (field_read (cell_at k).form (sheet_text x) (field_at (cell_at k))) ≡ true = ap (λ (g : Result ℕ Code). is_ok g) (field_is k h) ∙ (told k h).0 in
      rw (fixed_fine (label_of (cell_at k)) (sheet_text x) (cell_at k).at (label_stands k h), ok-seen (field_read (cell_at k).form (sheet_text x) (field_at (cell_at k))) (field_at (cell_at k)) code)
      (ends-fine (cell_at k).ends (sheet_text x) (field_end (cell_at k)) (end_stands k h))

  -- the text of an allowed record is accepted
  pub text-accepted : check_sheet (sheet_text x) ≡ (Ok tt)
  unfolding check_sheet
  text-accepted =
      rw (each_all (λ j. check_cell (sheet_text x) (cell_at j)) 167 0 (λ (j : ℕ) (l : 0 ≤ j) (m : j < 0 + 167). cell-fine j (omega arith)), text-length)

  -- and each of its words is read back
  word_back : (k w : ℕ) → k < 167 → held_at x k ≡ w ∷ [] → is_word (cell_at k).form ≡ true → w < 65536 → word_at (sheet_text x) k ≡ w
  word_back k w h is e small = ap word_in (field_is k h ∙ word-told k w h is e small)

  numbers-back : (i : ℕ) → i < 16 → word_at (sheet_text x) (1 + i) ≡ get_or x.numbers i 0
  numbers-back i h =
      let e : 1 + i - 1 ≡ i = omega arith in
      word_back (1 + i) (get_or x.numbers i 0) (omega arith) (number-held x (1 + i) (omega arith) (omega arith) ∙ ap (λ (j : ℕ). get_or x.numbers j 0 ∷ []) e)
      (word_cell (1 + i) (omega arith) (omega arith)) (sized.words i h)

  boxes-back : (i : ℕ) → i < 50 → word_at (sheet_text x) (17 + i) ≡ get_or x.boxes i 0
  boxes-back i h =
      let e : 17 + i - 17 ≡ i = omega arith in
      word_back (17 + i) (get_or x.boxes i 0) (omega arith) (edge-held x (17 + i) (omega arith) (omega arith) ∙ ap (λ (j : ℕ). get_or x.boxes j 0 ∷ []) e)
      (word_cell (17 + i) (omega arith) (omega arith)) (sized.edges i h)

  -- a name stands at its place
  name_part : (k n : ℕ) → k < 167 → is_name_of n (cell_at k).form ≡ true → length (held_at x k) ≡ n → part (field_at (cell_at k)) n (sheet_text x) ≡ held_at x k
  name_part k n h e long =
      let same = (name_read_lem (cell_at k).form n (held_at x k) e long (allowed-held x fine k h)).1.1 in
      let wide : length (field_text (cell_at k).form (held_at x k)) ≡ n = ap length same ∙ long in
      ap (λ (m : ℕ). part (field_at (cell_at k)) m (sheet_text x)) (sym wide) ∙ (field-stands k h).same ∙ same

  designator-back : part (field_at (cell_at 0)) 6 (sheet_text x) ≡ x.designator
  designator-back = name_part 0 6 (omega arith) first_name (ap length (first_of x) ∙ sized.designator) ∙ first_of x

  airports-back : (i : ℕ) → i < 250 → airport_byte (sheet_text x) i ≡ get_or x.airports i 0
  airports-back i h =
      let n : ℕ = i / 5 in
      let j : ℕ = i % 5 in
      let is : 5 * n + j ≡ i = omega arith in
      let k : ℕ = name_cell n in
      let low : 67 ≤ k = omega arith in
      let high : suc k < 167 = omega arith in
      let even : (k - 67) % 2 ≡ 0 = omega arith in
      let odd : (suc k - 67) % 2 ≡ 0 → ⊥ = λ (e : (suc k - 67) % 2 ≡ 0). omega arith in
      let back : airport_of (k - 67) ≡ n = eqb-true (airport_of (name_cell n - 67)) n (airport_back n (omega arith)) in
      let next : airport_of (suc k - 67) ≡ n = eqb-true (airport_of (suc (name_cell n) - 67)) n (airport_next n (omega arith)) in
      by_eq j 4
      (λ (e : j ≡ 4).
      let at : 5 * n + 4 ≡ i = omega arith in
      ap (airport_byte (sheet_text x)) (sym at)
      ∙ status-byte (sheet_text x) n
      ∙ word_back (suc k) (get_or x.airports (5 * airport_of (suc k - 67) + 4) 0) high (status-of x (suc k) (omega arith) odd) (status-cell (suc k) (omega arith) high odd) (status-small (suc k) (omega arith) high odd)
      ∙ ap (λ (m : ℕ). get_or x.airports (5 * m + 4) 0) next
      ∙ ap (λ (m : ℕ). get_or x.airports m 0) at)
      (λ (e : j ≡ 4 → ⊥).
      let few : j < 4 = omega arith in
      let four = name_of x k low even ∙ ap (λ (m : ℕ). part (5 * m) 4 x.airports) back in
      let long : length (held_at x k) ≡ 4 = ap length four ∙ part-long x.airports (5 * n) 4 (omega (arith, sized.airports)) in
      let same = name_part k 4 (omega arith) (four_name (cell_at k).form (name_cell_lem k low (omega arith) even)) long ∙ four in
      ap (airport_byte (sheet_text x)) (sym is)
      ∙ name_byte (sheet_text x) n j few
      ∙ sym (get_or-take 4 (drop (field_at (cell_at k)) (sheet_text x)) j 0 few ∙ get_or-drop (field_at (cell_at k)) (sheet_text x) j 0)
      ∙ ap (λ (l : List ℕ). get_or l j 0) same
      ∙ get_or-take 4 (drop (5 * n) x.airports) j 0 few
      ∙ get_or-drop (5 * n) x.airports j 0
      ∙ ap (λ (m : ℕ). get_or x.airports m 0) is)

  -- an allowed record is the record of its text
  pub read-of-text : sheet_at (sheet_text x) ≡ x
  unfolding sheet_at
  read-of-text =
      let s = sheet_text x in
      let numbers : values (word_at s) 1 16 ≡ x.numbers = ap (values (word_at s) 1) (sym sized.numbers) ∙ values_are (word_at s) 1 x.numbers (λ (i : ℕ) (h : i < length x.numbers). numbers-back i (omega (arith, sized.numbers))) in
      let boxes : values (word_at s) 17 50 ≡ x.boxes = ap (values (word_at s) 17) (sym sized.boxes) ∙ values_are (word_at s) 17 x.boxes (λ (i : ℕ) (h : i < length x.boxes). boxes-back i (omega (arith, sized.boxes))) in
      let airports : values (airport_byte s) 0 250 ≡ x.airports = ap (values (airport_byte s) 0) (sym sized.airports) ∙ values_are (airport_byte s) 0 x.airports (λ (i : ℕ) (h : i < length x.airports). ap (airport_byte s) (zero-add i) ∙ airports-back i (omega (arith, sized.airports))) in
      rw (numbers, boxes, designator-back, airports)
