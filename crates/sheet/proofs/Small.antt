-- Each cell's numbers are small: one computed test over the cells, and what it says of one.
use mathlib.Core.Path.{◌≡◌, refl, ap}
use mathlib.Core.Bool.{Bool, true, false, cond, ◌&&◌}
use Prim.Native.Nat.{ℕ, suc, ◌+◌, ◌≤◌, ◌<◌}
use native.Mathlib.Omega.{arith}
use lib.Dec.{leb, eqb}
use borrow.Author.Tests.{leb-true, eqb-true}
use Rattle.text.specs.Table.{values}
use Rattle.text.proofs.Table.{agree}
use Rattle.text.proofs.Cases.{by_test, both_left, both_right}
use Rattle.sheet.specs.declared.Limits.{Limits}
use Rattle.sheet.specs.declared.Form.{Form}
use Rattle.sheet.specs.declared.Form.TheVariants.{Name, Switch, Digit, Number}
use Rattle.sheet.specs.declared.Cell.{Cell}
use Rattle.std.specs.Prelude.{Result, Ok, Err, is_ok}
use Rattle.text.specs.declared.Code.{Code}
use Rattle.sheet.specs.Layout.{width_of, cell_at, box_cell, airport_cell}
use Rattle.sheet.specs.Inner.{small_form, small_cell, size_of_cell}
use lib.ListN.{length, get_or}
use mathlib.Core.List.{List, ◌∷◌}
use Rattle.text.specs.Parts.{part}
use Rattle.text.specs.Names.{between}
use Rattle.text.specs.Equal.{same_bytes}
use Rattle.text.proofs.Equal.{same-equal}
use Rattle.packed.specs.Packed.{trim}
use Rattle.sheet.specs.Sheet.{label_of, field_at, numeral, name_cell, word_at, field_read, bytes_read, digit_read}
use Rattle.sheet.specs.Number.{word_in}

-- a test that fails does not hold
pub not-held {ℓ} : {P : Type ℓ} → false ≡ true → P
not-held e = let z : ◌≡◌ {A = ℕ} 0 1 = ap (λ (t : Bool). cond t 1 0) e in absurd (omega arith)

-- nor is a refusal an acceptance
pub no_err {ℓ} : {A : Type 0} {P : Type ℓ} (code : Code) (x : A) → ◌≡◌ {A = Result A Code} (Err code) (Ok x) → P
no_err {A = A} code x e = not-held (ap (λ (r : Result A Code). is_ok r) e)

-- a test that antt computes at each number below n
pub every : (test : ℕ → Bool) (n : ℕ) → values (λ k. cond (test k) 1 0) 0 n ≡ values (λ k. 1) 0 n → (k : ℕ) → k < n → test k ≡ true
every test n e k h = held (test k) (agree (λ k. cond (test k) 1 0) (λ k. 1) n e k h)
  where
    held : (t : Bool) → ◌≡◌ {A = ℕ} (cond t 1 0) 1 → t ≡ true
    held true e = refl
    held false e = absurd (omega arith)

pub cell-small : (k : ℕ) → k < 167 → small_cell (cell_at k) ≡ true
unfolding small_cell small_form cell_at box_cell airport_cell
cell-small = every (λ k. small_cell (cell_at k)) 167 refl

pub small-digit : (most : ℕ) → small_form (Digit most) ≡ true → most ≤ 9
unfolding small_form
small-digit most e = leb-true most 9 e

pub small-number : (w : ℕ) (l : Limits) → small_form (Number w l) ≡ true → (w ≤ 6) × ((l.below ≤ 32768) × (l.most ≤ 32767))
unfolding small_form
small-number w l e =
    let rest = both_right (leb w 6) (leb l.below 32768 && leb l.most 32767) e in (
      leb-true w 6 (both_left (leb w 6) (leb l.below 32768 && leb l.most 32767) e),
      (
        leb-true l.below 32768 (both_left (leb l.below 32768) (leb l.most 32767) rest),
        leb-true l.most 32767 (both_right (leb l.below 32768) (leb l.most 32767) rest),
      ),
    )

pub small_width : (f : Form) → small_form f ≡ true → width_of f ≤ 100
unfolding small_form width_of
small_width (Name w) e = leb-true w 100 e
small_width Switch e = omega arith
small_width (Digit most) e = omega arith
small_width (Number w l) e = omega (arith, (small-number w l e).0)

-- of a cell: its place, its fixed group's length, its form
pub small-parts : (c : Cell) → small_cell c ≡ true → (c.at ≤ 2000) × ((c.labelled ≤ 16) × (small_form c.form ≡ true))
unfolding small_cell
small-parts c e =
    let rest = both_right (leb c.at 2000) (leb c.labelled 16 && small_form c.form) e in (
      leb-true c.at 2000 (both_left (leb c.at 2000) (leb c.labelled 16 && small_form c.form) e),
      (
        leb-true c.labelled 16 (both_left (leb c.labelled 16) (small_form c.form) rest),
        both_right (leb c.labelled 16) (small_form c.form) rest,
      ),
    )

pub small_size : (c : Cell) → small_cell c ≡ true → size_of_cell c ≤ 200
unfolding size_of_cell
small_size c e =
    let parts = small-parts c e in
    omega (arith, parts.1.0, small_width c.form parts.1.1, two c.ends)
  where
    two : (t : Bool) → cond t 2 0 ≤ 2
    two true = omega arith
    two false = omega arith

-- ---- the cells of the airports

-- a status's form
abbrev pub is_status : Form → Bool
is_status (Name w) = false
is_status Switch = false
is_status (Digit most) = eqb most 1
is_status (Number w l) = false

-- the fixed group before an airport's name has its number, 1 to 50: 65 is `A`
labels : (n : ℕ) → n < 50 → same_bytes (trim (label_of (cell_at (name_cell n)))) (65 ∷ numeral (suc n)) ≡ true
unfolding cell_at box_cell airport_cell trim same_bytes
labels = every (λ n. same_bytes (trim (label_of (cell_at (name_cell n)))) (65 ∷ numeral (suc n))) 50 refl

pub airport_label_lem : (n : ℕ) → n < 50 → trim (label_of (cell_at (name_cell n))) ≡ 65 ∷ numeral (suc n)
airport_label_lem n h = same-equal (trim (label_of (cell_at (name_cell n)))) (65 ∷ numeral (suc n)) (labels n h)

-- a name's place, which ends four bytes on
pub name_near : (n : ℕ) → n < 50 → leb (field_at (cell_at (name_cell n)) + 4) 913 ≡ true
unfolding cell_at box_cell airport_cell
name_near = every (λ n. leb (field_at (cell_at (name_cell n)) + 4) 913) 50 refl

pub status-form : (n : ℕ) → n < 50 → is_status (cell_at (suc (name_cell n))).form ≡ true
unfolding cell_at box_cell airport_cell
status-form = every (λ n. is_status (cell_at (suc (name_cell n))).form) 50 refl

word_small : (f : Form) (s : List ℕ) (at : ℕ) → is_status f ≡ true → word_in (field_read f s at) ≤ 9
unfolding field_read bytes_read width_of
word_small (Name w) s at e = not-held e
word_small Switch s at e = not-held e
word_small (Number w l) s at e = not-held e
word_small (Digit most) s at e = by_room (leb (at + 1) (length s)) (get_or (part at 1 s) 0 0) _ (omega arith) (eqb-true most 1 e)
  where
    by_room : (t : Bool) (b : ℕ) (other : Result ℕ Code) → word_in other ≤ 9 → most ≡ 1 → word_in (cond t (digit_read most b) other) ≤ 9
    by_room false b other small q = small
    by_room true b other small q =
        by_test (between 48 (48 + most) b)
        (λ (h : between 48 (48 + most) b ≡ true). rw h (omega (arith, leb-true b (48 + most) (both_right (leb 48 b) (leb b (48 + most)) h))))
        (λ (h : between 48 (48 + most) b ≡ false). rw h (omega arith))

-- a status is a byte
pub status-small : (s : List ℕ) (n : ℕ) → n < 50 → word_at s (suc (name_cell n)) ≤ 9
status-small s n h = word_small (cell_at (suc (name_cell n))).form s (field_at (cell_at (suc (name_cell n)))) (status-form n h)
