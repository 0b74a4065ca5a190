-- Document 02, §8, of the bytes of a journal and of the lines that are printed of it, in its own words.
use Rattle.std.specs.Prelude.{◌≡◌, List, [], ◌∷◌, ◌++◌, ℕ, ◌+◌, ◌/◌, ◌%◌, ◌≤◌, length, take}
use Rattle.text.specs.Bytes.{bytes}
use Rattle.journal.specs.Journal.{Entry}
use Rattle.journal.specs.Printed.{offset_text}
use Rattle.promises.specs.BoardRuns.{IsAccepted, SixAllowed}

-- ---- A journal

-- "six bytes of designator, the command text, then a trailer of three bytes: the text's length in two, high byte first, and the letter J"
abbrev pub bytes_of : Entry → List ℕ
bytes_of e = e.who ++ e.text ++ (length e.text / 256 ∷ length e.text % 256 ∷ bytes "J")

-- "written as taken"
unfoldable pub all_bytes : List Entry → List ℕ
all_bytes [] = []
all_bytes (e ∷ es) = bytes_of e ++ all_bytes es

pub record SoundEntry (e : Entry) : Type 0 where
  pub who : SixAllowed e.who
  pub text : IsAccepted e.text

abbrev pub AllSound : List Entry → Type 0
AllSound [] = Unit {0}
AllSound (e ∷ es) = SoundEntry e × AllSound es

-- the first `end` bytes of s are the journal of these entries
pub record JournalOf (s : List ℕ) (end : ℕ) (es : List Entry) : Type 0 where
  pub few : end ≤ 65535
  pub inside : end ≤ length s
  pub same : take end s ≡ all_bytes es
  pub sound : AllSound es

-- ---- What is printed

-- one line: "the entry's offset in decimal, a space, the designator, a space, the text, LF"
abbrev pub line_of : ℕ → Entry → List ℕ
line_of at e = offset_text at ++ bytes " " ++ e.who ++ bytes " " ++ e.text ++ (10 ∷ [])

-- "newest first"
unfoldable pub lines_from : ℕ → List Entry → List ℕ
lines_from at [] = []
lines_from at (e ∷ es) = lines_from (at + length (bytes_of e)) es ++ line_of at e
