-- The sheet: its check, its record, its text.
use Rattle.std.specs.Prelude.{Bool, cond, List, [], ◌∷◌, ◌++◌, ℕ, zero, suc, ◌+◌, ◌-◌, ◌*◌, ◌/◌, ◌%◌, ◌≤◌, ◌<◌, leb, ltb, eqb, length, get_or, take, replicate, Result, Ok, Err}
use Rattle.text.specs.Parts.{part}
use Rattle.text.specs.Equal.{same_bytes}
use Rattle.text.specs.Names.{between, all_allowed}
use Rattle.text.specs.Table.{values}
use Rattle.text.specs.Checks.{must, ◌and_then◌, refuse}
use Rattle.text.specs.Over.{over}
use Rattle.sheet.specs.declared.Form.{Form}
use Rattle.sheet.specs.declared.Form.TheVariants.{Name, Switch, Digit, Number}
use Rattle.sheet.specs.declared.Cell.{Cell}
use Rattle.sheet.specs.declared.Sheet.{Sheet}
use Rattle.sheet.specs.Number.{word_in, is_below, size_of, within, number_read, number_text}
use Rattle.sheet.specs.Layout.{width_of, cell_at, head_count, boxes_end, cell_count, sheet_length}
use Rattle.text.specs.declared.Refusal.{Refusal}
use Rattle.text.specs.declared.Code.{Code}
use Rattle.text.specs.declared.Code.TheVariants.{NoRoom, WrongFixed, NotAllowed, OutOfRange, WrongEnd}

abbrev pub line_end : List ℕ
line_end = 13 ∷ 10 ∷ []

abbrev pub label_of : Cell → List ℕ
label_of c = take c.labelled c.label

-- where a cell's field stands, behind its fixed group, and what follows it
abbrev pub field_at : Cell → ℕ
field_at c = c.at + c.labelled

abbrev pub field_end : Cell → ℕ
field_end c = field_at c + width_of c.form

abbrev pub cell_end : Cell → ℕ
cell_end c = field_end c + cond c.ends 2 0

-- byte n stands in cell k
pub record Has (k n : ℕ) : Type 0 where
  pub few : k < cell_count
  pub low : (cell_at k).at ≤ n
  pub high : n < cell_end (cell_at k)

-- where the field begins that has byte n of a cell: its fixed group, its field, or its CR LF
abbrev pub begins_at : Cell → ℕ → ℕ
begins_at c n = cond (ltb n (field_at c)) c.at (cond (ltb n (field_end c)) (field_at c) (field_end c))

-- whether there is no refusal, and at which place it is
abbrev pub seen : {A : Type 0} → Result A Code → ℕ → Result (Unit {0}) Refusal
seen (Ok x) place = Ok tt
seen (Err code) place = refuse code place

-- one after the other: n checks from the k-th on
unfoldable pub each : (ℕ → Result (Unit {0}) Refusal) → ℕ → ℕ → Result (Unit {0}) Refusal
each check k zero = Ok tt
each check k (suc n) = check k and_then each check (suc k) n

-- ---- A text: in each field 8, then 3 or 4, 6, 5

unfoldable pub fixed_code : List ℕ → List ℕ → ℕ → Result (Unit {0}) Code
fixed_code t s at =
    cond (leb (at + length t) (length s)) (cond (same_bytes (part at (length t) s) t) (Ok tt) (Err WrongFixed)) (Err WrongEnd)

abbrev pub name_read : List ℕ → Result ℕ Code
name_read f = cond (all_allowed f) (Ok 0) (Err NotAllowed)

-- 68 is `D`, disabled, and 82 is `R`, active
abbrev pub switch_read : ℕ → Result ℕ Code
switch_read b = cond (eqb b 68) (Ok 0) (cond (eqb b 82) (Ok 1) (Err NotAllowed))

-- 48 is `0`
abbrev pub digit_read : ℕ → ℕ → Result ℕ Code
digit_read most b = cond (between 48 (48 + most) b) (Ok (b - 48)) (Err NotAllowed)

-- what a field's bytes are
unfoldable pub bytes_read : Form → List ℕ → Result ℕ Code
bytes_read (Name w) f = name_read f
bytes_read Switch f = switch_read (get_or f 0 0)
bytes_read (Digit most) f = digit_read most (get_or f 0 0)
bytes_read (Number w l) f = number_read l f

unfoldable pub field_read : Form → List ℕ → ℕ → Result ℕ Code
field_read form s at = cond (leb (at + width_of form) (length s)) (bytes_read form (part at (width_of form) s)) (Err WrongEnd)

-- a field at a place, and CR LF where it ends a line
abbrev pub field_seen : List ℕ → ℕ → Form → Bool → Result (Unit {0}) Refusal
field_seen s at form ends =
    seen (field_read form s at) at
    and_then cond ends (seen (fixed_code line_end s (at + width_of form)) (at + width_of form)) (Ok tt)

unfoldable pub check_cell : List ℕ → Cell → Result (Unit {0}) Refusal
check_cell s c = seen (fixed_code (label_of c) s c.at) c.at and_then field_seen s (field_at c) c.form c.ends

-- cell by cell, and nothing behind the last
unfoldable pub check_sheet : List ℕ → Result (Unit {0}) Refusal
check_sheet s = each (λ k. check_cell s (cell_at k)) 0 cell_count and_then must (eqb (length s) sheet_length) WrongEnd sheet_length

-- ---- What an accepted text holds

abbrev pub word_at : List ℕ → ℕ → ℕ
word_at s k = word_in (field_read (cell_at k).form s (field_at (cell_at k)))

-- an airport, 0 to 49, by row and column; the cell of its name, which the cell of its status follows
abbrev pub name_cell : ℕ → ℕ
name_cell n = boxes_end + 2 * (5 * (n % 10) + n / 10)

-- an airport's number as its fixed group has it: two digits, or one and a space
abbrev pub numeral : ℕ → List ℕ
numeral n = cond (ltb n 10) ((48 + n) ∷ 32 ∷ []) ((48 + n / 10) ∷ (48 + n % 10) ∷ [])

-- five bytes to an airport: its name, its status
unfoldable pub airport_byte : List ℕ → ℕ → ℕ
airport_byte s i =
    cond (eqb (i % 5) 4) (word_at s (suc (name_cell (i / 5)))) (get_or s (field_at (cell_at (name_cell (i / 5))) + i % 5) 0)

unfoldable pub sheet_at : List ℕ → Sheet
sheet_at s =
    record {
      numbers = values (word_at s) 1 16;
      boxes = values (word_at s) head_count 50;
      designator = part (field_at (cell_at 0)) 6 s;
      airports = values (airport_byte s) 0 250;
    }

-- the one empty sheet, which an answer carries beside a refusal
abbrev pub no_sheet : Sheet
no_sheet = record { numbers = replicate 16 0; boxes = replicate 50 0; designator = replicate 6 0; airports = replicate 250 0 }

unfoldable pub read_sheet : List ℕ → Result Sheet Refusal
read_sheet s = check_sheet s and_then Ok (sheet_at s)

-- ---- A record: what each cell holds of it, a word or the bytes of a name

-- the airport of an airport's cell
abbrev pub airport_of : ℕ → ℕ
airport_of k = k / 2 / 5 + 10 * (k / 2 % 5)

unfoldable pub held_at : Sheet → ℕ → List ℕ
held_at x k =
    cond (eqb k 0) x.designator
    (cond (ltb k head_count) (get_or x.numbers (k - 1) 0 ∷ [])
    (cond (ltb k boxes_end) (get_or x.boxes (k - head_count) 0 ∷ [])
    (cond (eqb ((k - boxes_end) % 2) 0) (part (5 * airport_of (k - boxes_end)) 4 x.airports)
    (get_or x.airports (5 * airport_of (k - boxes_end) + 4) 0 ∷ []))))

-- a name has its bytes, a switch and a digit few values, else 4; a number its limits, else 5
unfoldable pub held_code : Form → List ℕ → Result (Unit {0}) Code
held_code (Name w) v = cond (all_allowed v) (Ok tt) (Err NotAllowed)
held_code Switch v = cond (leb (get_or v 0 0) 1) (Ok tt) (Err NotAllowed)
held_code (Digit most) v = cond (leb (get_or v 0 0) most) (Ok tt) (Err NotAllowed)
held_code (Number w l) v = cond (within l (is_below (get_or v 0 0)) (size_of (get_or v 0 0))) (Ok tt) (Err OutOfRange)

unfoldable pub allowed_cell : Sheet → ℕ → Result (Unit {0}) Refusal
allowed_cell x k = seen (held_code (cell_at k).form (held_at x k)) (field_at (cell_at k))

-- the record by itself, each refusal where its field would stand
unfoldable pub allowed_sheet : Sheet → Result (Unit {0}) Refusal
allowed_sheet x = each (allowed_cell x) 0 cell_count

-- ---- Its text

unfoldable pub field_text : Form → List ℕ → List ℕ
field_text (Name w) v = v
field_text Switch v = cond (eqb (get_or v 0 0) 0) 68 82 ∷ []
field_text (Digit most) v = (48 + get_or v 0 0) ∷ []
field_text (Number w l) v = number_text w (get_or v 0 0)

unfoldable pub cell_text : Cell → List ℕ → List ℕ
cell_text c v = label_of c ++ (field_text c.form v ++ cond c.ends line_end [])

-- n texts from the k-th on
unfoldable pub joined : (ℕ → List ℕ) → ℕ → ℕ → List ℕ
joined text k zero = []
joined text k (suc n) = text k ++ joined text (suc k) n

abbrev pub held_text : Sheet → ℕ → List ℕ
held_text x k = cell_text (cell_at k) (held_at x k)

unfoldable pub sheet_text : Sheet → List ℕ
sheet_text x = joined (held_text x) 0 cell_count

-- the record first, then the room
unfoldable pub write_seen : Sheet → ℕ → Result (Unit {0}) Refusal
write_seen x room = allowed_sheet x and_then must (leb sheet_length room) NoRoom 0

-- what the buffer holds afterwards
abbrev pub left_by : Result (Unit {0}) Refusal → List ℕ → List ℕ → List ℕ
left_by (Ok u) t d = over d 0 t
left_by (Err r) t d = d
