-- Document 02, §13, "The other status sheet": what is promised of esk_sheet_check, esk_sheet_read and esk_sheet_write. A field is a sentence.
-- The ranges are said in sheet/specs/Allowed, the places of the 167 cells in sheet/specs/Layout.
use Rattle.std.specs.Prelude.{◌≡◌, ◌↔◌, true, List, [], ◌∷◌, ◌++◌, ℕ, suc, ◌*◌, ◌^◌, ◌≤◌, ◌<◌, length, get_or, take, drop}
use Rattle.text.specs.Bytes.{is_one_of}
use Rattle.text.specs.Parts.{part}
use Rattle.packed.specs.Packed.{trim}
use Rattle.sheet.specs.Layout.{cell_at}
use Rattle.sheet.specs.Sheet.{check_sheet, read_sheet, no_sheet, sheet_text, write_seen, left_by, label_of, field_at, name_cell, numeral, Has, begins_at}
use Rattle.sheet.specs.Allowed.{from, number_limits, Allowed, Sized}
use Rattle.sheet.specs.Printed.{printed, printed_sheet}
use Rattle.sheet.specs.declared.Limits.{Limits}
use Rattle.sheet.specs.declared.Form.TheVariants.{Number}
use Rattle.sheet.specs.declared.Sheet.{Sheet}
use Rattle.desk.specs.Numbers.{accepted, answer_of, check_numbers, write_numbers}
use Rattle.desk.specs.Sheets.{sheet_numbers}
use Rattle.desk.specs.declared.Answer.{Answer}
use Rattle.desk.specs.declared.SheetAnswer.{SheetAnswer}

-- ---- The calls, by their contracts

abbrev pub check : List ℕ → Answer
check s = check_numbers (check_sheet s)

abbrev pub read : List ℕ → SheetAnswer
read s = sheet_numbers (read_sheet s)

abbrev pub write : Sheet → List ℕ → Answer
write x out = write_numbers (write_seen x (length out)) 913

-- what out holds afterwards
abbrev pub written : Sheet → List ℕ → List ℕ
written x out = left_by (write_seen x (length out)) (sheet_text x) out

-- ---- The promises

pub record SheetPromises : Type 0 where
  -- the reader answers as the check does; a refusal carries the one empty record, all zero
  pub one_answer : (s : List ℕ) → (read s).answer ≡ check s
  pub refused : (s : List ℕ) → ¬ ((check s).code ≡ 0) → ((read s).sheet ≡ no_sheet) × ((check s).length ≡ 0)
  pub spare : (s : List ℕ) → (read s).spare ≡ 0
  -- what is read is within the ranges
  pub allowed : (s : List ℕ) → (check s).code ≡ 0 → Sized (read s).sheet × Allowed (read s).sheet
  -- an accepted sheet reads to a record that writes back the same bytes
  pub read-write : (s out : List ℕ) → (check s).code ≡ 0 → 913 ≤ length out
      → (write (read s).sheet out ≡ accepted 913) × (written (read s).sheet out ≡ s ++ drop 913 out)
  -- an allowed record is written, and reads back as itself; all bytes behind it stay
  pub write_read : (x : Sheet) (out : List ℕ) → Sized x → Allowed x → 913 ≤ length out
      → (write x out ≡ accepted 913)
      × (read (take 913 (written x out)) ≡ record { answer = accepted 0; sheet = x; spare = 0 })
      × (drop 913 (written x out) ≡ drop 913 out)
  -- "one spelling for each record"
  pub one-spelling : (s t : List ℕ) → (check s).code ≡ 0 → (check t).code ≡ 0 → (read s).sheet ≡ (read t).sheet → s ≡ t
  -- a text is accepted just where it is what an allowed record is written as
  pub accepts : (s : List ℕ) → ((check s).code ≡ 0) ↔ ((x : Sheet) × (Sized x × Allowed x × (s ≡ sheet_text x)))
  -- a record is written just where it is allowed and there is room; it is looked at before the room
  pub writes : (x : Sheet) (out : List ℕ) → Sized x → ((write x out).code ≡ 0) ↔ (Allowed x × (913 ≤ length out))
  pub two : (x : Sheet) (out : List ℕ) → Sized x → ((write x out).code ≡ 2) ↔ (Allowed x × (length out < 913))
  -- a refusal leaves the buffer, and carries nothing but code and place
  pub unwritten : (x : Sheet) (out : List ℕ) → ¬ ((write x out).code ≡ 0)
      → (written x out ≡ out) × (write x out ≡ answer_of (write x out).code (write x out).place)
  -- "document 01's codes 2 to 8", of which 7 is not given, and 1 neither
  pub text_codes : (s : List ℕ) → is_one_of (0 ∷ 3 ∷ 4 ∷ 5 ∷ 6 ∷ 8 ∷ []) (check s).code ≡ true
  pub record_codes : (x : Sheet) (out : List ℕ) → is_one_of (0 ∷ 2 ∷ 4 ∷ 5 ∷ []) (write x out).code ≡ true
  pub not-one : ((s : List ℕ) → ¬ ((check s).code ≡ 1)) × ((x : Sheet) (out : List ℕ) → ¬ ((write x out).code ≡ 1))
  pub not-seven : ((s : List ℕ) → ¬ ((check s).code ≡ 7)) × ((x : Sheet) (out : List ℕ) → ¬ ((write x out).code ≡ 7))
  -- "code 8 also for a sheet that ends early", at "the start of the unfinished field": it ends before a byte of cell k, in which every byte
  -- stands; or it goes on, at "the first extra byte"
  pub early : (f g : List ℕ) (k : ℕ) → (check (f ++ g)).code ≡ 0 → Has k (length f) → check f ≡ answer_of 8 (begins_at (cell_at k) (length f))
  pub some-cell : (n : ℕ) → n < 913 → (k : ℕ) × Has k n
  pub goes_on : (s t : List ℕ) → (check s).code ≡ 0 → 0 < length t → check (s ++ t) ≡ answer_of 8 913
  pub empty : check [] ≡ answer_of 8 0
  -- and no sheet of the right length is 8
  pub eight : (s : List ℕ) → (check s).code ≡ 8 → ¬ (length s ≡ 913)
  -- fifty airports, 1 to 50: each name is the four bytes behind `A`, 65, and its own number
  pub names : (s : List ℕ) (n : ℕ) → (check s).code ≡ 0 → n < 50
      → (part (5 * n) 4 (read s).sheet.airports ≡ part (field_at (cell_at (name_cell n))) 4 s)
      × (trim (label_of (cell_at (name_cell n))) ≡ 65 ∷ numeral (suc n))
  -- "where it says only Integer, the widths of its layout": the greatest number of lines 2 to 4 is the greatest that its field's bytes show
  pub widths : (i w : ℕ) (l : Limits) → i < 16 → (cell_at (suc i)).form ≡ Number w l → suc (get_or number_limits i (from 0 0)).most ≡ 10 ^ w
  -- the printed sheet: there are accepted texts, and so allowed records
  pub printed-one : read printed ≡ record { answer = accepted 0; sheet = printed_sheet; spare = 0 }
