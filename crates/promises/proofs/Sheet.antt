-- The promises of the status sheet, kept.
use mathlib.Core.Path.{◌≡◌, refl, sym, ap, ◌∙◌}
use mathlib.Core.Bool.{Bool, true, false, ◌||◌}
use mathlib.Core.List.{List, [], ◌∷◌, ◌++◌}
use Prim.Native.Nat.{ℕ, suc, ◌*◌, ◌≤◌, ◌<◌}
use native.Mathlib.Omega.{arith}
use native.Mathlib.Nat.{zero-add}
use lib.Dec.{leb, eqb}
use lib.ListN.{length, take, drop}
use lib.Seq.{take_at, drop_at}
use borrow.Author.Tests.{le-leb, lt-leb}
use Rattle.text.specs.Bytes.{is_one_of}
use Rattle.text.specs.Codes.{number_of}
use Rattle.text.specs.Parts.{part}
use Rattle.text.specs.Over.{over}
use Rattle.text.specs.Checks.{must, ◌and_then◌}
use Rattle.text.proofs.Cases.{by_le}
use Rattle.packed.specs.Packed.{trim}
use Rattle.sheet.specs.Layout.{cell_at}
use Rattle.sheet.specs.Sheet.{check_sheet, check_cell, each, fixed_code, read_sheet, sheet_at, no_sheet, sheet_text, allowed_sheet, write_seen, left_by, label_of, field_at, name_cell, numeral, Has, begins_at}
use Rattle.sheet.specs.Allowed.{Allowed, Sized}
use Rattle.sheet.specs.Printed.{printed, printed_sheet}
use Rattle.sheet.specs.declared.Sheet.{Sheet}
use Rattle.sheet.proofs.Codes.{coded, codes_of_text, codes_of_record, text_codes, record_codes}
use Rattle.sheet.proofs.Small.{not-held, airport_label_lem}
use Rattle.sheet.proofs.TextOfRead.{text-of-read, name_there}
use Rattle.sheet.proofs.ReadOfText.{text-accepted, text-length, read-of-text}
use Rattle.sheet.proofs.Allowed.{allowed-fine, fine-allowed, read-fine, read-sized, read-allowed, widths}
use Rattle.sheet.proofs.Ends.{has, early_end, goes_on, whole_codes, whole_codes_lem}
use Rattle.sheet.proofs.Printed.{printed-accepted, printed-read}
use Rattle.desk.specs.Numbers.{accepted, answer_of, check_numbers, write_numbers}
use Rattle.desk.specs.Sheets.{sheet_numbers}
use Rattle.desk.specs.declared.Answer.{Answer}
use Rattle.desk.specs.declared.SheetAnswer.{SheetAnswer}
use Rattle.promises.specs.Sheet.{check, read, write, written, SheetPromises}
use Rattle.std.specs.Prelude.{Result, Ok, Err}
use Rattle.text.specs.declared.Refusal.{Refusal}
use Rattle.text.specs.declared.Code.TheVariants.{NoRoom}

-- ---- What was seen, by the code

-- a refusal's code is one of these, so 0 is no refusal
zero-fine : (codes : List ℕ) (x : Result (Unit {0}) Refusal) (n : ℕ) → is_one_of codes 0 ≡ false → coded codes x ≡ true → (write_numbers x n).code ≡ 0 → x ≡ (Ok tt)
zero-fine codes (Ok u) n f c e = refl
zero-fine codes (Err r) n f c e = not-held (sym f ∙ ap (is_one_of codes) (sym e) ∙ c)

not-given : (codes : List ℕ) (code m : ℕ) → is_one_of codes m ≡ false → is_one_of codes code ≡ true → ¬ (code ≡ m)
not-given codes code m f c = λ (e : code ≡ m). not-held (sym f ∙ ap (is_one_of codes) (sym e) ∙ c)

check-is : (x : Result (Unit {0}) Refusal) → check_numbers x ≡ write_numbers x 0
check-is (Ok u) = refl
check-is (Err r) = refl

check-fine : (s : List ℕ) → (check s).code ≡ 0 → check_sheet s ≡ (Ok tt)
unfolding is_one_of
check-fine s e = zero-fine codes_of_text (check_sheet s) 0 refl (text_codes s) (ap (λ (a : Answer). a.code) (sym (check-is (check_sheet s))) ∙ e)

-- ---- Reading

one_answer : (s : List ℕ) → (read s).answer ≡ check s
unfolding sheet_numbers read_sheet
one_answer s = go (check_sheet s)
  where
    go : (x : Result (Unit {0}) Refusal) → (sheet_numbers (x and_then Ok (sheet_at s))).answer ≡ check_numbers x
    go (Ok u) = refl
    go (Err r) = refl

read_is : (s : List ℕ) → check_sheet s ≡ (Ok tt) → read s ≡ record { answer = accepted 0; sheet = sheet_at s; spare = 0 }
unfolding sheet_numbers read_sheet
read_is s e = rw e

sheet_is : (s : List ℕ) → check_sheet s ≡ (Ok tt) → (read s).sheet ≡ sheet_at s
sheet_is s e = ap (λ (a : SheetAnswer). a.sheet) (read_is s e)

refused : (s : List ℕ) → ¬ ((check s).code ≡ 0) → ((read s).sheet ≡ no_sheet) × ((check s).length ≡ 0)
unfolding sheet_numbers read_sheet
refused s n = go (check_sheet s) n
  where
    go : (x : Result (Unit {0}) Refusal) → ¬ ((check_numbers x).code ≡ 0) → ((sheet_numbers (x and_then Ok (sheet_at s))).sheet ≡ no_sheet) × ((check_numbers x).length ≡ 0)
    go (Ok u) m = absurd (m refl)
    go (Err r) m = (refl, refl)

spare : (s : List ℕ) → (read s).spare ≡ 0
unfolding sheet_numbers
spare s = go (read_sheet s)
  where
    go : (x : Result Sheet Refusal) → (sheet_numbers x).spare ≡ 0
    go (Ok y) = refl
    go (Err r) = refl

allowed : (s : List ℕ) → (check s).code ≡ 0 → Sized (read s).sheet × Allowed (read s).sheet
allowed s e = let f = check-fine s e in rw (sheet_is s f) (read-sized s f, read-allowed s f)

-- ---- Writing

module _ (x : Sheet) (out : List ℕ) (fine : allowed_sheet x ≡ (Ok tt)) (room : 913 ≤ length out) where
  seen_it : write_seen x (length out) ≡ (Ok tt)
  unfolding write_seen
  seen_it = rw (fine, le-leb 913 (length out) room)

  wrote_it : write x out ≡ accepted 913
  wrote_it = rw seen_it

  left_it : length (sheet_text x) ≡ 913 → written x out ≡ sheet_text x ++ drop 913 out
  unfolding over
  left_it l = rw (seen_it, zero-add (length (sheet_text x)), l)

read-write : (s out : List ℕ) → (check s).code ≡ 0 → 913 ≤ length out
    → (write (read s).sheet out ≡ accepted 913) × (written (read s).sheet out ≡ s ++ drop 913 out)
read-write s out e room =
    let f = check-fine s e in
    let x = sheet_at s in
    let fine = read-fine s f in
    let text = text-of-read s f in
    rw (sheet_is s f) (wrote_it x out fine room, left_it x out fine room (text-length x (read-sized s f) fine) ∙ ap (λ (t : List ℕ). t ++ drop 913 out) text)

write_read : (x : Sheet) (out : List ℕ) → Sized x → Allowed x → 913 ≤ length out
    → (write x out ≡ accepted 913)
    × (read (take 913 (written x out)) ≡ record { answer = accepted 0; sheet = x; spare = 0 })
    × (drop 913 (written x out) ≡ drop 913 out)
write_read x out z a room =
    let fine = allowed-fine x z a in
    let t = sheet_text x in
    let long = text-length x z fine in
    let e = left_it x out fine room long in (
      wrote_it x out fine room,
      rw (e, take_at t (drop 913 out) 913 long) (read_is t (text-accepted x z fine) ∙ ap (λ (y : Sheet). record { answer = accepted 0; sheet = y; spare = 0 }) (read-of-text x z fine)),
      rw (e, drop_at t (drop 913 out) 913 long),
    )

one-spelling : (s t : List ℕ) → (check s).code ≡ 0 → (check t).code ≡ 0 → (read s).sheet ≡ (read t).sheet → s ≡ t
one-spelling s t e g same =
    let f = check-fine s e in
    let h = check-fine t g in
    sym (text-of-read s f) ∙ ap sheet_text (sym (sheet_is s f) ∙ same ∙ sheet_is t h) ∙ text-of-read t h

accepts : (s : List ℕ) → (check s).code ≡ 0 → (x : Sheet) × (Sized x × Allowed x × (s ≡ sheet_text x))
accepts s e = let f = check-fine s e in (sheet_at s, (read-sized s f, read-allowed s f, sym (text-of-read s f)))

accepted_so : (s : List ℕ) → (x : Sheet) × (Sized x × Allowed x × (s ≡ sheet_text x)) → (check s).code ≡ 0
accepted_so s p = rw (p.1.2, text-accepted p.0 p.1.0 (allowed-fine p.0 p.1.0 p.1.1))

-- ---- The record first, then the room

record Wrote (x : Sheet) (room code : ℕ) : Type 0 where
  zero_so : code ≡ 0 → (allowed_sheet x ≡ (Ok tt)) × (913 ≤ room)
  two_so : code ≡ 2 → (allowed_sheet x ≡ (Ok tt)) × (room < 913)
  given : is_one_of (0 ∷ 2 ∷ 4 ∷ 5 ∷ []) code ≡ true

wrote : (x : Sheet) (room : ℕ) → Wrote x room (write_numbers (write_seen x room) 913).code
unfolding write_seen is_one_of
wrote x room = go (allowed_sheet x) refl (record_codes x)
  where
    go : (a : Result (Unit {0}) Refusal) → allowed_sheet x ≡ a → coded codes_of_record a ≡ true → Wrote x room (write_numbers (a and_then must (leb 913 room) NoRoom 0) 913).code
    go (Ok u) e c =
        by_le 913 room
        (λ (h : 913 ≤ room). rw (le-leb 913 room h) (record { zero_so = λ z. (e, h); two_so = λ z. absurd (omega arith); given = refl }))
        (λ (h : room < 913). rw (lt-leb 913 room h) (record { zero_so = λ z. absurd (omega arith); two_so = λ z. (e, h); given = refl }))
    go (Err r) e c =
        record {
          zero_so = λ (z : number_of r.code ≡ 0). absurd (not-given codes_of_record (number_of r.code) 0 refl c z);
          two_so = λ (z : number_of r.code ≡ 2). absurd (not-given codes_of_record (number_of r.code) 2 refl c z);
          given = among (eqb (number_of r.code) 0) (eqb (number_of r.code) 2) c;
        }
      where
        among : (p q : Bool) → is_one_of codes_of_record (number_of r.code) ≡ true → (p || (q || is_one_of codes_of_record (number_of r.code))) ≡ true
        among true q c = refl
        among false true c = refl
        among false false c = c

writes_so : (x : Sheet) (out : List ℕ) → Sized x → (write x out).code ≡ 0 → Allowed x × (913 ≤ length out)
writes_so x out z e = let w = (wrote x (length out)).zero_so e in (fine-allowed x z w.0, w.1)

two_so : (x : Sheet) (out : List ℕ) → Sized x → (write x out).code ≡ 2 → Allowed x × (length out < 913)
two_so x out z e = let w = (wrote x (length out)).two_so e in (fine-allowed x z w.0, w.1)

so_two : (x : Sheet) (out : List ℕ) → Sized x → Allowed x × (length out < 913) → (write x out).code ≡ 2
unfolding write_seen
so_two x out z p = rw (allowed-fine x z p.0, lt-leb 913 (length out) p.1)

unwritten : (x : Sheet) (out : List ℕ) → ¬ ((write x out).code ≡ 0)
    → (written x out ≡ out) × (write x out ≡ answer_of (write x out).code (write x out).place)
unwritten x out n = go (write_seen x (length out)) n
  where
    go : (a : Result (Unit {0}) Refusal) → ¬ ((write_numbers a 913).code ≡ 0)
        → (left_by a (sheet_text x) out ≡ out) × (write_numbers a 913 ≡ answer_of (write_numbers a 913).code (write_numbers a 913).place)
    go (Ok u) m = absurd (m refl)
    go (Err r) m = (refl, refl)

-- ---- The codes

text-given : (s : List ℕ) → is_one_of (0 ∷ codes_of_text) (check s).code ≡ true
unfolding is_one_of
text-given s = go (check_sheet s) (text_codes s)
  where
    go : (x : Result (Unit {0}) Refusal) → coded codes_of_text x ≡ true → is_one_of (0 ∷ codes_of_text) (check_numbers x).code ≡ true
    go (Ok u) c = refl
    go (Err r) c = among (eqb (number_of r.code) 0) c
      where
        among : (p : Bool) → is_one_of codes_of_text (number_of r.code) ≡ true → (p || is_one_of codes_of_text (number_of r.code)) ≡ true
        among true c = refl
        among false c = c

not-text : (s : List ℕ) (m : ℕ) → is_one_of (0 ∷ codes_of_text) m ≡ false → ¬ ((check s).code ≡ m)
not-text s m f = not-given (0 ∷ codes_of_text) (check s).code m f (text-given s)

not_record : (x : Sheet) (out : List ℕ) (m : ℕ) → is_one_of (0 ∷ 2 ∷ 4 ∷ 5 ∷ []) m ≡ false → ¬ ((write x out).code ≡ m)
not_record x out m f = not-given (0 ∷ 2 ∷ 4 ∷ 5 ∷ []) (write x out).code m f (wrote x (length out)).given

never : (m : ℕ) → is_one_of (0 ∷ codes_of_text) m ≡ false → is_one_of (0 ∷ 2 ∷ 4 ∷ 5 ∷ []) m ≡ false
    → ((s : List ℕ) → ¬ ((check s).code ≡ m)) × ((x : Sheet) (out : List ℕ) → ¬ ((write x out).code ≡ m))
never m f g = (λ s. not-text s m f, λ x out. not_record x out m g)

not-one : ((s : List ℕ) → ¬ ((check s).code ≡ 1)) × ((x : Sheet) (out : List ℕ) → ¬ ((write x out).code ≡ 1))
unfolding is_one_of
not-one = never 1 refl refl

not-seven : ((s : List ℕ) → ¬ ((check s).code ≡ 7)) × ((x : Sheet) (out : List ℕ) → ¬ ((write x out).code ≡ 7))
unfolding is_one_of
not-seven = never 7 refl refl

-- ---- Ends, airports, the printed sheet

early : (f g : List ℕ) (k : ℕ) → (check (f ++ g)).code ≡ 0 → Has k (length f) → check f ≡ answer_of 8 (begins_at (cell_at k) (length f))
early f g k e h = rw (early_end f g k (check-fine (f ++ g) e) h)

on : (s t : List ℕ) → (check s).code ≡ 0 → 0 < length t → check (s ++ t) ≡ answer_of 8 913
on s t e h = rw (goes_on s t (check-fine s e) h)

empty : check [] ≡ answer_of 8 0
unfolding check_sheet each check_cell fixed_code cell_at
empty = refl

eight : (s : List ℕ) → (check s).code ≡ 8 → ¬ (length s ≡ 913)
unfolding is_one_of
eight s e = λ (l : length s ≡ 913). go (check_sheet s) (whole_codes_lem s l) e
  where
    go : (x : Result (Unit {0}) Refusal) → coded whole_codes x ≡ true → (check_numbers x).code ≡ 8 → ⊥
    go (Ok u) c z = let y : ◌≡◌ {A = ℕ} 0 8 = z in omega arith
    go (Err r) c z = not-given whole_codes (number_of r.code) 8 refl c z

names : (s : List ℕ) (n : ℕ) → (check s).code ≡ 0 → n < 50
    → (part (5 * n) 4 (read s).sheet.airports ≡ part (field_at (cell_at (name_cell n))) 4 s)
    × (trim (label_of (cell_at (name_cell n))) ≡ 65 ∷ numeral (suc n))
names s n e h = let f = check-fine s e in (rw (sheet_is s f) (name_there s f n h), airport_label_lem n h)

printed-one : read printed ≡ record { answer = accepted 0; sheet = printed_sheet; spare = 0 }
printed-one = read_is printed printed-accepted ∙ ap (λ (y : Sheet). record { answer = accepted 0; sheet = y; spare = 0 }) printed-read

pub sheet_promises : SheetPromises
sheet_promises =
    record {
      one_answer = one_answer;
      refused = refused;
      spare = spare;
      allowed = allowed;
      read-write = read-write;
      write_read = write_read;
      one-spelling = one-spelling;
      accepts = λ s. (accepts s, accepted_so s);
      writes = λ x out z. (writes_so x out z, λ p. ap (λ (a : Answer). a.code) (wrote_it x out (allowed-fine x z p.0) p.1));
      two = λ x out z. (two_so x out z, so_two x out z);
      unwritten = unwritten;
      text_codes = text-given;
      record_codes = λ x out. (wrote x (length out)).given;
      not-one = not-one;
      not-seven = not-seven;
      early = early;
      some-cell = has;
      goes_on = on;
      empty = empty;
      eight = eight;
      names = names;
      widths = widths;
      printed-one = printed-one;
    }
