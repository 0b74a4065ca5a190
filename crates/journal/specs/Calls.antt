-- Document 02, §8: what the calls answer, by the entries that the journal has.
use Rattle.std.specs.Prelude.{Bool, cond, ◌&&◌, ℕ, ◌+◌, ◌-◌, leb, length, take, Result, Ok, Err}
use mathlib.Core.List.{List, [], ◌∷◌, foldl}
use Rattle.text.specs.Checks.{must, ◌and_then◌, refuse}
use Rattle.text.specs.Equal.{same_bytes}
use Rattle.text.specs.Names.{is_designator}
use Rattle.text.specs.Over.{over}
use Rattle.settings.specs.Valid.{reset}
use Rattle.settings.specs.declared.Settings.{Settings}
use Rattle.command.specs.Text.{check_command}
use Rattle.config.specs.Config.{apply_to}
use Rattle.journal.specs.Journal.{Entry, entry_bytes, journal_bytes, most, Read, Sound, Broken, entries_in}
use Rattle.text.specs.declared.Refusal.{Refusal}
use Rattle.text.specs.declared.Code.TheVariants.{JournalBroken, NoRoom, NotAllowed, OutOfRange}

-- a broken journal is 14 where reading from the end first fails; else what is then asked of its entries
abbrev pub seen_of : {A : Type 0} → Read A → (A → Result (Unit {0}) Refusal) → Result (Unit {0}) Refusal
seen_of (Sound a) next = next a
seen_of (Broken place) next = refuse JournalBroken place

-- a length, or the refusal
abbrev pub told : Result (Unit {0}) Refusal → ℕ → Result ℕ Refusal
told (Ok u) n = Ok n
told (Err r) n = Err r

-- ---- Checking

unfoldable pub check_journal : List ℕ → ℕ → Result (Unit {0}) Refusal
check_journal s end = seen_of (entries_in s end) (λ (es : List Entry). Ok tt)

-- ---- Adding: 14, 4, the command's own refusals, "last 2 where the entry doesn't fit in either"

abbrev pub taken : List ℕ → List ℕ → Entry
taken d t = record { who = d; text = t }

-- where the journal then ends
abbrev pub new_end : ℕ → Entry → ℕ
new_end end e = end + length (entry_bytes e)

abbrev pub fits_in : List ℕ → ℕ → Bool
fits_in s end = leb end most && leb end (length s)

unfoldable pub add_seen : List ℕ → ℕ → List ℕ → List ℕ → Result (Unit {0}) Refusal
add_seen s end d t =
    check_journal s end
    and_then must (is_designator d) NotAllowed 0
    and_then check_command t
    and_then must (fits_in s (new_end end (taken d t))) NoRoom 0

-- the journal's new length
unfoldable pub added : List ℕ → ℕ → List ℕ → List ℕ → Result ℕ Refusal
added s end d t = told (add_seen s end d t) (new_end end (taken d t))

-- what the buffer holds afterwards
abbrev pub left_by : Result (Unit {0}) Refusal → List ℕ → ℕ → List ℕ → List ℕ
left_by (Ok u) s at bytes = over s at bytes
left_by (Err r) s at bytes = s

unfoldable pub added_over : List ℕ → ℕ → List ℕ → List ℕ → List ℕ
added_over s end d t = left_by (add_seen s end d t) s end (entry_bytes (taken d t))

-- ---- Dropping the last n entries, "for any n up to the count"

abbrev pub without : ℕ → List Entry → List Entry
without n es = take (length es - n) es

abbrev pub drop_told : Read (List Entry) → ℕ → Result ℕ Refusal
drop_told (Sound es) n = told (must (leb n (length es)) OutOfRange 0) (length (journal_bytes (without n es)))
drop_told (Broken place) n = refuse JournalBroken place

-- the length that is left
unfoldable pub dropped : List ℕ → ℕ → ℕ → Result ℕ Refusal
dropped s end n = drop_told (entries_in s end) n

-- ---- "Replay for one aircraft starts from reset and gives what its entries, in order, give"

-- the texts taken for one aircraft, in order
unfoldable pub texts_for : List ℕ → List Entry → List (List ℕ)
texts_for d [] = []
texts_for d (e ∷ es) = cond (same_bytes d e.who) (e.text ∷ texts_for d es) (texts_for d es)

unfoldable pub replay : List ℕ → List Entry → Settings
replay d es = foldl apply_to reset (texts_for d es)

-- 14, then the designator (4 at 0)
abbrev pub replay_told : Read (List Entry) → List ℕ → Result Settings Refusal
replay_told (Sound es) d = cond (is_designator d) (Ok (replay d es)) (refuse NotAllowed 0)
replay_told (Broken place) d = refuse JournalBroken place

unfoldable pub replayed : List ℕ → ℕ → List ℕ → Result Settings Refusal
replayed s end d = replay_told (entries_in s end) d
