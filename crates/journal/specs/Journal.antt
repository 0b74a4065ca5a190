-- Document 02, §8: what a journal is, and how it is read from its end.
use Rattle.std.specs.Prelude.{◌≡◌, Bool, true, cond, ◌&&◌, List, [], ◌∷◌, ◌++◌, ℕ, zero, suc, ◌+◌, ◌-◌, ◌*◌, ◌/◌, ◌%◌, ◌≤◌, leb, eqb, length, get_or, take, Result, Ok, Err, Option, Some, None}
use Rattle.text.specs.Checks.{refuse, is_fine}
use Rattle.text.specs.Equal.{same_bytes}
use Rattle.text.specs.Names.{is_designator}
use Rattle.text.specs.Parts.{part}
use Rattle.command.specs.Text.{check_command}
use Rattle.text.specs.declared.Code.TheVariants.{JournalBroken}
use Rattle.text.specs.declared.Refusal.{Refusal}
use Rattle.journal.specs.declared.Entry.{Entry as Found}

-- ---- "six bytes of designator, the command text, then a trailer of three bytes: the text's length in two, high byte first, and
-- the letter J"

pub record Entry : Type 0 where
  pub who : List ℕ
  pub text : List ℕ

-- `J` is 74
abbrev pub trailer : ℕ → List ℕ
trailer n = n / 256 ∷ n % 256 ∷ 74 ∷ []

unfoldable pub entry_bytes : Entry → List ℕ
entry_bytes e = e.who ++ e.text ++ trailer (length e.text)

-- "written as taken": the oldest first
unfoldable pub journal_bytes : List Entry → List ℕ
journal_bytes [] = []
journal_bytes (e ∷ es) = entry_bytes e ++ journal_bytes es

-- an entry that a journal may have: its designator well formed, its text accepted
unfoldable pub is_entry : Entry → Bool
is_entry e = is_designator e.who && is_fine (check_command e.text)

unfoldable pub all_entries : List Entry → Bool
all_entries [] = true
all_entries (e ∷ es) = is_entry e && all_entries es

-- "up to 65,535 bytes"
abbrev pub most : ℕ
most = 65535

-- the first `end` bytes of a buffer are the journal of these entries
pub record IsJournal (s : List ℕ) (end : ℕ) (es : List Entry) : Type 0 where
  pub few : end ≤ most
  pub inside : end ≤ length s
  pub bytes : take end s ≡ journal_bytes es
  pub entries : all_entries es ≡ true

-- ---- One step from the end: the entry that ends before byte `end`

-- the entry whose first byte stands at a place, with a text of n bytes
abbrev pub entry_at : List ℕ → ℕ → ℕ → Entry
entry_at s at n = record { who = part at 6 s; text = part (at + 6) n s }

-- the text's length as the trailer at a place has it
abbrev pub length_in : List ℕ → ℕ → ℕ
length_in s place = 256 * get_or s place 0 + get_or s (place + 1) 0

-- three bytes that are the trailer of that length
abbrev pub is_trailer : List ℕ → ℕ → Bool
is_trailer s place = same_bytes (part place 3 s) (trailer (length_in s place))

-- what a step tells of an entry that starts at a place, with a text of n bytes
abbrev pub starts_at : ℕ → ℕ → Result (Option Found) Refusal
starts_at at n = Ok (Some (record { at = at; length = n }))

-- what stands before the trailer at a place: designator and a text of n bytes
unfoldable pub before_trailer : List ℕ → ℕ → ℕ → Result (Option Found) Refusal
before_trailer s place n =
    cond (leb (6 + n) place && is_entry (entry_at s (place - (6 + n)) n)) (starts_at (place - (6 + n)) n) (refuse JournalBroken place)

unfoldable pub at_trailer : List ℕ → ℕ → Result (Option Found) Refusal
at_trailer s place = cond (is_trailer s place) (before_trailer s place (length_in s place)) (refuse JournalBroken place)

-- the trailer's place is that of a failure, or 0 "where fewer than three bytes are left or its length passes 65,535 or its buffer"
unfoldable pub last_entry : List ℕ → ℕ → Result (Option Found) Refusal
last_entry s end =
    cond (eqb end 0) (Ok None)
    (cond (leb 3 end && leb end most && leb end (length s)) (at_trailer s (end - 3)) (refuse JournalBroken 0))

-- ---- The walk from the end

-- what reading gives: what was gathered from the newest entry to the oldest, or the place where it first fails
pub data Read (A : Type 0) : Type 0 where
  Sound : A → Read A
  Broken : ℕ → Read A

abbrev pub on_last : {A : Type 0} → Result (Option Found) Refusal → Read A → (ℕ → ℕ → Read A) → Read A
on_last (Ok None) done next = done
on_last (Ok (Some e)) done next = next e.at e.length
on_last (Err r) done next = Broken r.place

-- `steps` is more than the entries that there can be, so that the walk ends at byte 0 or where it fails
unfoldable pub walk_back : {A : Type 0} → (ℕ → ℕ → A → A) → List ℕ → ℕ → ℕ → A → Read A
walk_back gather s zero end a = Broken 0
walk_back gather s (suc steps) end a =
    on_last (last_entry s end) (Sound a) (λ (at n : ℕ). walk_back gather s steps at (gather at n a))

-- a walk over all of them: each entry has nine bytes or more
abbrev pub walk : {A : Type 0} → (ℕ → ℕ → A → A) → List ℕ → ℕ → A → Read A
walk gather s end a = walk_back gather s (suc end) end a

-- the entries of the journal in the first `end` bytes of a buffer, the oldest first
unfoldable pub entries_in : List ℕ → ℕ → Read (List Entry)
entries_in s end = walk (λ (at n : ℕ) (later : List Entry). entry_at s at n ∷ later) s end []
