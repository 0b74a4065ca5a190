-- Checking and printing on the bytes: what is accepted, the document's one entry, and nothing for a broken journal.
use mathlib.Core.Path.{◌≡◌, refl, ap, ◌∙◌}
use mathlib.Core.Logic.{◌↔◌}
use mathlib.Core.Bool.{true}
use mathlib.Core.List.{List, [], ◌∷◌, ◌++◌}
use Prim.Native.Nat.{ℕ, ◌≤◌}
use native.Mathlib.Omega.{arith}
use lib.ListN.{length}
use borrow.Author.Tests.{le-leb}
use Rattle.text.specs.Bytes.{bytes}
use Rattle.text.specs.Names.{allowed, all_allowed}
use Rattle.text.specs.Over.{over}
use Rattle.field.specs.Decimal.{digits_before}
use Rattle.join.specs.Join.{no_change_text}
use Rattle.join.proofs.Laws.{no-change-fine}
use Rattle.journal.specs.Journal.{Entry, entry_bytes, journal_bytes, is_entry, all_entries, IsJournal, Sound, Broken, entries_in}
use Rattle.journal.specs.Calls.{check_journal}
use Rattle.journal.specs.Printed.{digits_of, line, printed, print_seen, print_told, printed_over}
use Rattle.journal.proofs.Added.{checked-journal}
use Rattle.journal.proofs.Entries.{reads, read_is}
use Rattle.std.specs.Prelude.{Ok}
use Rattle.text.specs.Checks.{refuse}
use Rattle.text.specs.declared.Code.TheVariants.{JournalBroken}

-- the check accepts just where the bytes are those of entries, within both limits
pub check-accepts : (s : List ℕ) (end : ℕ) → (check_journal s end ≡ (Ok tt)) ↔ ((es : List Entry) × IsJournal s end es)
unfolding check_journal
check-accepts s end = (
  λ e. let f = checked-journal s end e in (f.0, read_is s end f.0 f.1),
  λ f. rw (reads s end f.0 f.1),
)

-- what is printed of a sound journal where there is room
pub prints : (s : List ℕ) (end : ℕ) (es : List Entry) (out : List ℕ) → entries_in s end ≡ Sound es → length (printed 0 es) ≤ length out
    → (print_told s end (length out) ≡ Ok (length (printed 0 es))) × (printed_over s end out ≡ over out 0 (printed 0 es))
unfolding print_told printed_over print_seen
prints s end es out e h = rw (e, le-leb (length (printed 0 es)) (length out) h) (refl, refl)

-- nothing at all for a broken one
pub prints-nothing : (s : List ℕ) (end place : ℕ) (out : List ℕ) → entries_in s end ≡ Broken place
    → (print_told s end (length out) ≡ refuse JournalBroken place) × (printed_over s end out ≡ out)
unfolding print_told printed_over print_seen
prints-nothing s end place out e = rw e (refl, refl)

-- ---- "A journal of one no-change command prints `0 XY0001 AWR049999999000000000/` and no more"

abbrev pub one_entry : Entry
one_entry = record { who = bytes "XY0001"; text = no_change_text }

abbrev pub one_line : List ℕ
one_line = bytes "0 XY0001 AWR049999999000000000/" ++ (10 ∷ [])

-- its 31 bytes, the last three being 0, 22 and `J`
abbrev pub one_journal : List ℕ
one_journal = bytes "XY0001AWR049999999000000000/" ++ (0 ∷ 22 ∷ 74 ∷ [])

one-bytes : one_journal ≡ journal_bytes (one_entry ∷ [])
unfolding journal_bytes entry_bytes no_change_text
one-bytes = refl

one_entry_lem : all_entries (one_entry ∷ []) ≡ true
unfolding all_entries is_entry all_allowed allowed
one_entry_lem = rw no-change-fine

one-printed : printed 0 (one_entry ∷ []) ≡ one_line
unfolding printed line digits_of digits_before no_change_text
one-printed = refl

pub one-read : entries_in one_journal 31 ≡ Sound (one_entry ∷ [])
one-read =
    reads one_journal 31 (one_entry ∷ [])
    (record { few = omega arith; inside = omega arith; bytes = one-bytes; entries = one_entry_lem })

pub one-prints : (out : List ℕ) → 32 ≤ length out
    → (print_told one_journal 31 (length out) ≡ Ok 32) × (printed_over one_journal 31 out ≡ over out 0 one_line)
one-prints out h =
    let long : length (printed 0 (one_entry ∷ [])) ≡ 32 = ap length one-printed in
    let f = prints one_journal 31 (one_entry ∷ []) out one-read (omega arith) in
    (f.0 ∙ ap Ok long, f.1 ∙ ap (over out 0) one-printed)
