-- Document 02, §8, of the calls on a journal, in the numbers and bytes that the host is given: a field is a sentence.
use Rattle.std.specs.Prelude.{◌≡◌, ◌↔◌, ◌⊎◌, ℕ, ◌+◌, ◌-◌, ◌≤◌, ◌<◌, length, get_or, take, drop}
use mathlib.Core.List.{List, [], ◌∷◌, ◌++◌, foldl}
use Rattle.text.specs.Bytes.{bytes}
use Rattle.text.specs.Parts.{part}
use Rattle.settings.specs.Valid.{reset}
use Rattle.settings.specs.declared.Settings.{Settings}
use Rattle.command.specs.Text.{check_command}
use Rattle.config.specs.Config.{apply_to}
use Rattle.field.specs.Decimal.{value}
use Rattle.journal.specs.Journal.{Entry, last_entry}
use Rattle.journal.specs.Calls.{check_journal, added, added_over, dropped, texts_for, replayed}
use Rattle.journal.specs.Printed.{offset_text, print_told, printed_over}
use Rattle.desk.specs.Numbers.{accepted, answer_of, check_numbers, length_numbers}
use Rattle.desk.specs.Journal.{entry_numbers, replay_numbers, kept_replay}
use Rattle.desk.specs.declared.Answer.{Answer}
use Rattle.desk.specs.declared.HostEntry.{HostEntry}
use Rattle.promises.specs.BoardRuns.{IsAccepted, SixAllowed}
use Rattle.promises.specs.JournalBytes.{bytes_of, all_bytes, SoundEntry, AllSound, JournalOf, lines_from}

-- ---- What the calls answer, and what they leave; the journal is the first `end` bytes of the buffer s

abbrev pub check_answer : List ℕ → ℕ → Answer
check_answer s end = check_numbers (check_journal s end)

abbrev pub last_answer : List ℕ → ℕ → HostEntry
last_answer s end = entry_numbers (last_entry s end)

abbrev pub add_answer : List ℕ → ℕ → List ℕ → List ℕ → Answer
add_answer s end d t = length_numbers (added s end d t)

abbrev pub drop_answer : List ℕ → ℕ → ℕ → Answer
drop_answer s end n = length_numbers (dropped s end n)

abbrev pub replay_answer : List ℕ → ℕ → List ℕ → Answer
replay_answer s end d = replay_numbers (replayed s end d)

abbrev pub settings_after : Settings → List ℕ → ℕ → List ℕ → Settings
settings_after x s end d = kept_replay x (replayed s end d)

abbrev pub print_answer : List ℕ → ℕ → List ℕ → Answer
print_answer s end out = length_numbers (print_told s end (length out))

-- ---- The sentences

-- reading from the end came to a place where it fails: some entries behind it were read, and there the next is not one. The
-- place is that of the trailer, or 0 where fewer than three bytes are left or the journal passes a limit
pub record FailsAt (s : List ℕ) (end place : ℕ) : Type 0 where
  pub here : ℕ
  pub later : List Entry
  pub read : take end s ≡ take here s ++ all_bytes later
  pub sound : AllSound later
  pub whole : here + length (all_bytes later) ≡ end
  pub within : (later ≡ []) ⊎ (end ≤ 65535)
  pub some : 1 ≤ here
  pub none : here ≤ 65535 → here ≤ length s → (front : List ℕ) (e : Entry) → SoundEntry e → take here s ≡ front ++ bytes_of e → ⊥
  pub trailer : 3 ≤ here → here ≤ 65535 → here ≤ length s → place + 3 ≡ here
  pub limits : (here < 3 → place ≡ 0) × (65535 < here → place ≡ 0) × (length s < here → place ≡ 0)

-- an entry was added: its bytes stand behind the others, every other byte stays, and the journal reads as before with it behind
pub record AddedTo (s : List ℕ) (end : ℕ) (d t : List ℕ) (es : List Entry) : Type 0 where
  pub answer : add_answer s end d t ≡ accepted (end + (9 + length t))
  pub before : take end (added_over s end d t) ≡ take end s
  pub entry : part end (9 + length t) (added_over s end d t) ≡ bytes_of (record { who = d; text = t })
  pub behind : drop (end + (9 + length t)) (added_over s end d t) ≡ drop (end + (9 + length t)) s
  pub journal : JournalOf (added_over s end d t) (end + (9 + length t)) (es ++ (record { who = d; text = t } ∷ []))

-- the last n entries were dropped: the bytes that are left are the journal of the first ones, and give their state
pub record DroppedTo (s : List ℕ) (end n : ℕ) (es : List Entry) : Type 0 where
  pub size : ℕ
  pub answer : drop_answer s end n ≡ accepted size
  pub journal : JournalOf (take size s) size (take (length es - n) es)
  pub state : (x : Settings) (d : List ℕ) → SixAllowed d
      → settings_after x (take size s) size d ≡ foldl apply_to reset (texts_for d (take (length es - n) es))

pub record PrintedTo (s : List ℕ) (end : ℕ) (es : List Entry) (out : List ℕ) : Type 0 where
  pub answer : print_answer s end out ≡ accepted (length (lines_from 0 es))
  pub text : take (length (lines_from 0 es)) (printed_over s end out) ≡ lines_from 0 es
  pub rest : drop (length (lines_from 0 es)) (printed_over s end out) ≡ drop (length (lines_from 0 es)) out

pub record JournalPromises : Type 0 where
  -- accepted exactly where the bytes are those of sound entries, within both limits; the entries are then unique
  pub accepts : (s : List ℕ) (end : ℕ) → ((check_answer s end).code ≡ 0) ↔ ((es : List Entry) × JournalOf s end es)
  pub unique : (es fs : List Entry) → AllSound es → AllSound fs → all_bytes es ≡ all_bytes fs → es ≡ fs
  -- "14, at the place of the trailer where reading from the end first fails, or 0"
  pub broken : (s : List ℕ) (end : ℕ) → ¬ ((check_answer s end).code ≡ 0)
      → (place : ℕ) × (check_answer s end ≡ answer_of 14 place) × FailsAt s end place
  pub one_place : (s : List ℕ) (end p q : ℕ) → FailsAt s end p → FailsAt s end q → p ≡ q
  -- one entry from the end: where it starts, where its text does and how long that is; or that none is left
  pub newest : (s : List ℕ) (end : ℕ) (es : List Entry) (e : Entry) → JournalOf s end (es ++ (e ∷ []))
      → last_answer s end
      ≡ record { place = 0; offset = length (all_bytes es); text = length (all_bytes es) + 6; length = length e.text; code = 0; given = 1; spare = 0 }
  pub nothing : (s : List ℕ) (end : ℕ) → JournalOf s end []
      → last_answer s end ≡ record { place = 0; offset = 0; text = 0; length = 0; code = 0; given = 0; spare = 0 }
  -- adding: 14, designator (4), the command's own refusals, "last 2 where the entry doesn't fit in either"
  pub adds : (s : List ℕ) (end : ℕ) (d t : List ℕ) (es : List Entry) → JournalOf s end es → SixAllowed d → IsAccepted t
      → end + (9 + length t) ≤ 65535 → end + (9 + length t) ≤ length s → AddedTo s end d t es
  pub add-broken : (s : List ℕ) (end : ℕ) (d t : List ℕ) → ¬ ((check_answer s end).code ≡ 0) → add_answer s end d t ≡ check_answer s end
  pub add-four : (s : List ℕ) (end : ℕ) (d t : List ℕ) → (check_answer s end).code ≡ 0 → ¬ SixAllowed d → add_answer s end d t ≡ answer_of 4 0
  pub add-own : (s : List ℕ) (end : ℕ) (d t : List ℕ) → (check_answer s end).code ≡ 0 → SixAllowed d → ¬ IsAccepted t
      → add_answer s end d t ≡ check_numbers (check_command t)
  pub add-two : (s : List ℕ) (end : ℕ) (d t : List ℕ) → (check_answer s end).code ≡ 0 → SixAllowed d → IsAccepted t
      → ((end + (9 + length t) ≤ 65535) × (end + (9 + length t) ≤ length s) → ⊥) → add_answer s end d t ≡ answer_of 2 0
  pub add-untouched : (s : List ℕ) (end : ℕ) (d t : List ℕ) → ¬ ((add_answer s end d t).code ≡ 0) → added_over s end d t ≡ s
  -- "Replay for one aircraft starts from reset and gives what its entries, in order, give"
  pub replays : (x : Settings) (s : List ℕ) (end : ℕ) (d : List ℕ) (es : List Entry) → JournalOf s end es → SixAllowed d
      → (replay_answer s end d ≡ accepted 0) × (settings_after x s end d ≡ foldl apply_to reset (texts_for d es))
  -- the same without a name for those entries: none give reset, one more of its own acts behind the rest, another's does nothing
  pub replay-none : (x : Settings) (s : List ℕ) (end : ℕ) (d : List ℕ) → JournalOf s end [] → SixAllowed d → settings_after x s end d ≡ reset
  pub replay-own : (x : Settings) (s : List ℕ) (end : ℕ) (u : List ℕ) (next : ℕ) (d t : List ℕ) (es : List Entry) → JournalOf s end es
      → JournalOf u next (es ++ (record { who = d; text = t } ∷ [])) → settings_after x u next d ≡ apply_to (settings_after x s end d) t
  pub replay-other : (x : Settings) (s : List ℕ) (end : ℕ) (u : List ℕ) (next : ℕ) (d : List ℕ) (e : Entry) (es : List Entry)
      → JournalOf s end es → JournalOf u next (es ++ (e ∷ [])) → SixAllowed d → ¬ (e.who ≡ d)
      → settings_after x u next d ≡ settings_after x s end d
  pub replay-broken : (x : Settings) (s : List ℕ) (end : ℕ) (d : List ℕ) → ¬ ((check_answer s end).code ≡ 0)
      → (replay_answer s end d ≡ check_answer s end) × (settings_after x s end d ≡ x)
  pub replay-four : (x : Settings) (s : List ℕ) (end : ℕ) (d : List ℕ) → (check_answer s end).code ≡ 0 → ¬ SixAllowed d
      → (replay_answer s end d ≡ answer_of 4 0) × (settings_after x s end d ≡ x)
  -- "Dropping the last n entries must leave exactly the state that the rest give, for any n up to the count"
  pub drops : (s : List ℕ) (end n : ℕ) (es : List Entry) → JournalOf s end es → n ≤ length es → DroppedTo s end n es
  pub drop-five : (s : List ℕ) (end n : ℕ) (es : List Entry) → JournalOf s end es → length es < n → drop_answer s end n ≡ answer_of 5 0
  pub drop-broken : (s : List ℕ) (end n : ℕ) → ¬ ((check_answer s end).code ≡ 0) → drop_answer s end n ≡ check_answer s end
  -- printing: one line per entry, newest first; nothing at all for a broken journal
  pub prints : (s : List ℕ) (end : ℕ) (es : List Entry) (out : List ℕ) → JournalOf s end es → length (lines_from 0 es) ≤ length out
      → PrintedTo s end es out
  pub print_two : (s : List ℕ) (end : ℕ) (es : List Entry) (out : List ℕ) → JournalOf s end es → length out < length (lines_from 0 es)
      → (print_answer s end out ≡ answer_of 2 0) × (printed_over s end out ≡ out)
  pub print_broken : (s : List ℕ) (end : ℕ) (out : List ℕ) → ¬ ((check_answer s end).code ≡ 0)
      → (print_answer s end out ≡ check_answer s end) × (printed_over s end out ≡ out)
  -- an offset's digits are the offset, with no zero before them
  pub offsets : (n : ℕ) → n ≤ 65535 → value (offset_text n) ≡ n
  pub no_zero : (n : ℕ) → n ≤ 65535 → get_or (offset_text n) 0 0 ≡ 48 → n ≡ 0
  -- "A journal of one no-change command prints `0 XY0001 AWR049999999000000000/` and no more"
  pub one : (out : List ℕ) → 32 ≤ length out
      → (print_answer (bytes "XY0001AWR049999999000000000/" ++ (0 ∷ 22 ∷ 74 ∷ [])) 31 out ≡ accepted 32)
      × (take 32 (printed_over (bytes "XY0001AWR049999999000000000/" ++ (0 ∷ 22 ∷ 74 ∷ [])) 31 out)
      ≡ bytes "0 XY0001 AWR049999999000000000/" ++ (10 ∷ []))
