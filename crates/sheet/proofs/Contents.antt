-- What a cell holds of a record, and how long its text is.
use mathlib.Core.Path.{◌≡◌, refl, sym, ap, ◌∙◌}
use mathlib.Core.Bool.{Bool, true, false, cond, ◌&&◌}
use mathlib.Core.List.{List, [], ◌∷◌, ◌++◌, append_assoc, append-nil}
use Prim.Native.Nat.{ℕ, zero, suc, ◌+◌, ◌-◌, ◌*◌, ◌/◌, ◌%◌, ◌≤◌, ◌<◌}
use native.Mathlib.Omega.{arith}
use native.Mathlib.Nat.{add-zero, zero-add}
use lib.Dec.{leb, ltb, eqb}
use lib.ListN.{length, get_or, set, take, length-append}
use lib.Seq.{length-take-le}
use borrow.Author.Tests.{leb-true, eq-eqb, eqb-true, ne_eqb, lt-ltb, le-ltb, lt-leb}
use Rattle.field.specs.Decimal.{decimal}
use Rattle.field.proofs.Decimal.{decimal-length}
use Rattle.sheet.specs.declared.Form.{Form}
use Rattle.sheet.specs.declared.Form.TheVariants.{Name, Switch, Digit, Number}
use Rattle.sheet.specs.declared.Cell.{Cell}
use Rattle.sheet.specs.declared.Held.{Held}
use Rattle.sheet.specs.declared.Sheet.{Sheet}
use Rattle.sheet.specs.Number.{is_below, size_of, blanked, marked, number_text}
use Rattle.sheet.specs.Layout.{width_of, cell_at, box_cell, airport_cell}
use Rattle.sheet.specs.Inner.{held_is, held_form, size_of_cell}
use Rattle.sheet.specs.Sheet.{seen, field_at, name_cell, airport_of, allowed_sheet, allowed_cell, held_at, held_code, field_text, cell_text, line_end, label_of, joined}
use Rattle.text.specs.Parts.{part}
use Rattle.text.proofs.Parts.{part_bytes}
use Rattle.text.proofs.Cases.{by_le, both_left, both_right}
use Rattle.text.proofs.Checks.{err_ok}
use Rattle.sheet.proofs.Small.{every, not-held, no_err, is_status}
use Rattle.sheet.proofs.Each.{each-fine}
use Rattle.std.specs.Prelude.{Result, Ok, Err, is_ok}
use Rattle.text.specs.declared.Code.{Code}
use Rattle.text.specs.declared.Code.TheVariants.{NotAllowed}

-- ---- by form

abbrev pub is_word : Form → Bool
is_word (Name w) = false
is_word Switch = true
is_word (Digit most) = true
is_word (Number w l) = true

abbrev pub is_four : Form → Bool
is_four (Name w) = eqb w 4
is_four Switch = false
is_four (Digit most) = false
is_four (Number w l) = false

pub word_held : (f : Form) (h : Held) → is_word f ≡ true → held_is f h ≡ h.word ∷ []
unfolding held_is
word_held (Name w) h e = not-held e
word_held Switch h e = refl
word_held (Digit most) h e = refl
word_held (Number w l) h e = refl

pub name_held : (f : Form) (h : Held) → is_four f ≡ true → held_is f h ≡ take 4 h.name
unfolding held_is
name_held (Name w) h e = ap (λ (n : ℕ). take n h.name) (eqb-true w 4 e)
name_held Switch h e = not-held e
name_held (Digit most) h e = not-held e
name_held (Number w l) h e = not-held e

-- ---- computed over the cells

word_cells : (k : ℕ) → k < 66 → is_word (cell_at (suc k)).form ≡ true
unfolding cell_at box_cell airport_cell
word_cells = every (λ k. is_word (cell_at (suc k)).form) 66 refl

name_cells : (m : ℕ) → m < 50 → is_four (cell_at (67 + 2 * m)).form ≡ true
unfolding cell_at box_cell airport_cell
name_cells = every (λ m. is_four (cell_at (67 + 2 * m)).form) 50 refl

status_cells : (m : ℕ) → m < 50 → is_status (cell_at (68 + 2 * m)).form ≡ true
unfolding cell_at box_cell airport_cell
status_cells = every (λ m. is_status (cell_at (68 + 2 * m)).form) 50 refl

pub held_forms : (k : ℕ) → k < 167 → held_form (cell_at k).form ≡ true
unfolding cell_at box_cell airport_cell held_form
held_forms = every (λ k. held_form (cell_at k).form) 167 refl

pub word_cell : (k : ℕ) → 0 < k → k < 67 → is_word (cell_at k).form ≡ true
word_cell zero h l = absurd (omega arith)
word_cell (suc k) h l = word_cells k (omega arith)

pub name_cell_lem : (k : ℕ) → 67 ≤ k → k < 167 → (k - 67) % 2 ≡ 0 → is_four (cell_at k).form ≡ true
name_cell_lem k h l e =
    let m : ℕ = (k - 67) / 2 in
    let is : 67 + 2 * m ≡ k = omega arith in
    ap (λ (j : ℕ). is_four (cell_at j).form) (sym is) ∙ name_cells m (omega arith)

pub status-is : (k : ℕ) → 67 ≤ k → k < 167 → ((k - 67) % 2 ≡ 0 → ⊥) → is_status (cell_at k).form ≡ true
status-is k h l e =
    let m : ℕ = (k - 67) / 2 in
    let is : 68 + 2 * m ≡ k = omega arith in
    ap (λ (j : ℕ). is_status (cell_at j).form) (sym is) ∙ status_cells m (omega arith)

status-word : (f : Form) → is_status f ≡ true → is_word f ≡ true
status-word (Name w) e = e
status-word Switch e = refl
status-word (Digit most) e = refl
status-word (Number w l) e = refl

pub status-cell : (k : ℕ) → 67 ≤ k → k < 167 → ((k - 67) % 2 ≡ 0 → ⊥) → is_word (cell_at k).form ≡ true
status-cell k h l e = status-word (cell_at k).form (status-is k h l e)

-- ---- lengths

blanked-length : (l : List ℕ) → length (blanked l) ≡ length l
unfolding blanked
blanked-length [] = refl
blanked-length (b ∷ []) = refl
blanked-length (b ∷ c ∷ l) = by (eqb b 48) (blanked-length (c ∷ l))
  where
    by : (t : Bool) → length (blanked (c ∷ l)) ≡ suc (length l) → length (cond t (32 ∷ blanked (c ∷ l)) (b ∷ c ∷ l)) ≡ suc (suc (length l))
    by true e = ap suc e
    by false e = refl

marked-length : (l : List ℕ) → length (marked l) ≡ length l
unfolding marked
marked-length [] = refl
marked-length (b ∷ []) = refl
marked-length (b ∷ c ∷ l) = by (eqb c 32) (marked-length (c ∷ l))
  where
    by : (t : Bool) → length (marked (c ∷ l)) ≡ suc (length l) → length (cond t (b ∷ marked (c ∷ l)) (45 ∷ c ∷ l)) ≡ suc (suc (length l))
    by true e = ap suc e
    by false e = refl

pub number-length : (w x : ℕ) → length (number_text w x) ≡ w
unfolding number_text
number-length w x = by (is_below x) (decimal w (size_of x)) (decimal-length w (size_of x))
  where
    by : (t : Bool) (l : List ℕ) → length l ≡ w → length (cond t (marked (blanked l)) (blanked l)) ≡ w
    by true l e = marked-length (blanked l) ∙ blanked-length l ∙ e
    by false l e = blanked-length l ∙ e

pub field-length : (f : Form) (h : Held) → length h.name ≡ 6 → held_form f ≡ true → length (field_text f (held_is f h)) ≡ width_of f
unfolding field_text held_is width_of held_form
field-length (Name w) h six e = length-take-le w h.name (omega (arith, leb-true w 6 e))
field-length Switch h six e = refl
field-length (Digit most) h six e = refl
field-length (Number w l) h six e = number-length w h.word

pub ends-length : (t : Bool) → length (cond t line_end []) ≡ cond t 2 0
ends-length true = refl
ends-length false = refl

pub cell-length : (c : Cell) (v : List ℕ) → length (label_of c) ≡ c.labelled → length (field_text c.form v) ≡ width_of c.form
    → length (cell_text c v) ≡ size_of_cell c
unfolding cell_text size_of_cell
cell-length c v e f =
    length-append (label_of c) (field_text c.form v ++ cond c.ends line_end [])
    ∙ rw (e, length-append (field_text c.form v) (cond c.ends line_end []), f, ends-length c.ends)

-- ---- texts one after the other

pub joined-more : (f : ℕ → List ℕ) (k n : ℕ) → joined f k (n + 1) ≡ joined f k n ++ f (k + n)
unfolding joined
joined-more f k zero = rw (add-zero k) (append-nil (f k))
joined-more f k (suc n) =
    let e : suc n + 1 ≡ suc (n + 1) = omega arith in
    let q : k + suc n ≡ suc k + n = omega arith in
    rw (e, q) (ap (λ (t : List ℕ). f k ++ t) (joined-more f (suc k) n) ∙ sym (append_assoc (f k) (joined f (suc k) n) (f (suc k + n))))

-- how long n cells from the k-th on are
unfoldable pub sizes : ℕ → ℕ → ℕ
sizes k zero = 0
sizes k (suc n) = size_of_cell (cell_at k) + sizes (suc k) n

pub sizes-more : (k n : ℕ) → sizes k (n + 1) ≡ sizes k n + size_of_cell (cell_at (k + n))
unfolding sizes
sizes-more k zero = rw (add-zero k) (omega arith)
sizes-more k (suc n) =
    let e : suc n + 1 ≡ suc (n + 1) = omega arith in
    let q : k + suc n ≡ suc k + n = omega arith in
    rw (e, q) (omega (arith, sizes-more (suc k) n))

pub sizes-add : (k m n : ℕ) → sizes k m ≤ sizes k (m + n)
sizes-add k m zero = let e : m + 0 ≡ m = omega arith in rw e (omega arith)
sizes-add k m (suc n) =
    let e : m + suc n ≡ m + n + 1 = omega arith in
    rw e (omega (arith, sizes-add k m n, sizes-more k (m + n)))

pub sizes-all : sizes 0 167 ≡ 913
unfolding sizes size_of_cell cell_at box_cell airport_cell width_of
sizes-all = refl

-- each cell ends within the sheet
pub sizes-within : (k : ℕ) → k < 167 → sizes 0 k + size_of_cell (cell_at k) ≤ 913
sizes-within k h =
    let n : ℕ = 167 - (k + 1) in
    let e : k + 1 + n ≡ 167 = omega arith in
    let whole : sizes 0 (k + 1) ≤ sizes 0 167 = rw e at (sizes-add 0 (k + 1) n) in
    let more : sizes 0 (k + 1) ≡ sizes 0 k + size_of_cell (cell_at k) = sizes-more 0 k ∙ rw (zero-add k) in
    omega (arith, whole, sizes-all, more)

-- ---- one byte

pub one_byte : (d : List ℕ) (b : ℕ) → length d ≡ 1 → set d 0 b ≡ b ∷ []
one_byte [] b e = absurd (omega arith)
one_byte (a ∷ []) b e = refl
one_byte (a ∷ c ∷ d) b e = absurd (omega arith)

pub part-four : (s : List ℕ) (at : ℕ) → at + 4 ≤ length s → get_or s at 0 ∷ get_or s (at + 1) 0 ∷ get_or s (at + 2) 0 ∷ get_or s (at + 3) 0 ∷ [] ≡ part at 4 s
part-four s at h =
    sym (part_bytes 4 at s h ∙ ap (λ (q : ℕ). get_or s q 0 ∷ get_or s (at + 1) 0 ∷ get_or s (at + 2) 0 ∷ get_or s (at + 3) 0 ∷ []) (add-zero at))

label_cells : (k : ℕ) → k < 167 → (eqb (length (cell_at k).label) 16 && leb (cell_at k).labelled 16) ≡ true
unfolding cell_at box_cell airport_cell
label_cells = every (λ k. eqb (length (cell_at k).label) 16 && leb (cell_at k).labelled 16) 167 refl

-- a fixed group is as long as it says
pub label_length : (k : ℕ) → k < 167 → length (label_of (cell_at k)) ≡ (cell_at k).labelled
label_length k h =
    let both = label_cells k h in
    let long = eqb-true (length (cell_at k).label) 16 (both_left (eqb (length (cell_at k).label) 16) (leb (cell_at k).labelled 16) both) in
    let few = leb-true (cell_at k).labelled 16 (both_right (eqb (length (cell_at k).label) 16) (leb (cell_at k).labelled 16) both) in
    length-take-le (cell_at k).labelled (cell_at k).label (omega arith)

-- no refusal was seen: there was none
pub seen-fine : (x : Result (Unit {0}) Code) (place : ℕ) → seen x place ≡ Ok tt → x ≡ Ok tt
seen-fine (Ok u) place e = refl
seen-fine (Err code) place e = err_ok (record { code = code; place = place }) tt e

pub seen-ok : {A : Type 0} (x : Result A Code) (place : ℕ) → seen x place ≡ Ok tt → is_ok x ≡ true
seen-ok (Ok x) place e = refl
seen-ok (Err code) place e = err_ok (record { code = code; place = place }) tt e

pub ok-seen : {A : Type 0} (x : Result A Code) (place : ℕ) → is_ok x ≡ true → seen x place ≡ Ok tt
ok-seen (Ok x) place e = refl
ok-seen (Err code) place e = not-held e

-- in an allowed record each cell's contents are
pub allowed-held : (x : Sheet) → allowed_sheet x ≡ (Ok tt) → (k : ℕ) → k < 167 → held_code (cell_at k).form (held_at x k) ≡ Ok tt
unfolding allowed_sheet allowed_cell
allowed-held x e k h = seen-fine (held_code (cell_at k).form (held_at x k)) (field_at (cell_at k)) (each-fine (allowed_cell x) 0 167 e k (omega arith) (omega arith))

-- a digit of an allowed record
pub digit-held : (most : ℕ) (v : List ℕ) → held_form (Digit most) ≡ true → held_code (Digit most) v ≡ Ok tt → get_or v 0 0 ≤ 9
unfolding held_form held_code
digit-held most v e code =
    by_le (get_or v 0 0) most
    (λ (h : get_or v 0 0 ≤ most). omega (arith, leb-true most 9 e))
    (λ (h : most < get_or v 0 0). no_err NotAllowed tt (rw (lt-leb (get_or v 0 0) most h) at code))

-- where there is no refusal, the test held
pub code-held : (t : Bool) (code : Code) → ◌≡◌ {A = Result (Unit {0}) Code} (cond t (Ok tt) (Err code)) (Ok tt) → t ≡ true
code-held true code e = refl
code-held false code e = no_err code tt e

-- a status of an allowed record
pub status-held : (f : Form) (w : ℕ) → is_status f ≡ true → held_code f (w ∷ []) ≡ Ok tt → w ≤ 1
unfolding held_code
status-held (Name n) w e code = not-held e
status-held Switch w e code = not-held e
status-held (Digit most) w e code = omega (arith, leb-true w most (code-held (leb w most) NotAllowed code), eqb-true most 1 e)
status-held (Number n l) w e code = not-held e

-- CR LF behind a text
pub two_bytes : (t : List ℕ) (a b : ℕ) → (t ++ (a ∷ [])) ++ (b ∷ []) ≡ t ++ (a ∷ b ∷ [])
two_bytes t a b = append_assoc t (a ∷ []) (b ∷ [])

-- ---- what a cell holds, by its number

pub number-held : (x : Sheet) (k : ℕ) → 0 < k → k < 17 → held_at x k ≡ get_or x.numbers (k - 1) 0 ∷ []
unfolding held_at
number-held x k h l = rw (ne_eqb k 0 (λ (e : k ≡ 0). omega arith), lt-ltb k 17 l)

pub edge-held : (x : Sheet) (k : ℕ) → 17 ≤ k → k < 67 → held_at x k ≡ get_or x.boxes (k - 17) 0 ∷ []
unfolding held_at
edge-held x k h l = rw (ne_eqb k 0 (λ (e : k ≡ 0). omega arith), le-ltb k 17 h, lt-ltb k 67 l)

pub name_of : (x : Sheet) (k : ℕ) → 67 ≤ k → (k - 67) % 2 ≡ 0 → held_at x k ≡ part (5 * airport_of (k - 67)) 4 x.airports
unfolding held_at
name_of x k h e = rw (ne_eqb k 0 (λ (e : k ≡ 0). omega arith), le-ltb k 17 (omega arith), le-ltb k 67 h, eq-eqb ((k - 67) % 2) 0 e)

pub status-of : (x : Sheet) (k : ℕ) → 67 ≤ k → ((k - 67) % 2 ≡ 0 → ⊥) → held_at x k ≡ get_or x.airports (5 * airport_of (k - 67) + 4) 0 ∷ []
unfolding held_at
status-of x k h e = rw (ne_eqb k 0 (λ (e : k ≡ 0). omega arith), le-ltb k 17 (omega arith), le-ltb k 67 h, ne_eqb ((k - 67) % 2) 0 e)

pub first_of : (x : Sheet) → held_at x 0 ≡ x.designator
unfolding held_at
first_of x = refl

-- ---- the airport of a cell, and the cell of an airport

pub airports-few : (m : ℕ) → m < 100 → ltb (airport_of m) 50 ≡ true
airports-few = every (λ m. ltb (airport_of m) 50) 100 refl

pub airport_back : (n : ℕ) → n < 50 → eqb (airport_of (name_cell n - 67)) n ≡ true
airport_back = every (λ n. eqb (airport_of (name_cell n - 67)) n) 50 refl

pub airport_next : (n : ℕ) → n < 50 → eqb (airport_of (suc (name_cell n) - 67)) n ≡ true
airport_next = every (λ n. eqb (airport_of (suc (name_cell n) - 67)) n) 50 refl
