-- What the inner functions gather on the walk from the end. No promise to a caller rests on these names.
use Rattle.std.specs.Prelude.{◌≡◌, cond, List, [], ◌++◌, ℕ, ◌+◌, ◌-◌, ◌≤◌, eqb, length, take, Result, Ok}
use Rattle.text.specs.Checks.{refuse}
use Rattle.text.specs.Equal.{same_bytes}
use Rattle.text.specs.Over.{over}
use Rattle.command.specs.Text.{longest, check_command}
use Rattle.join.specs.Join.{join_text, no_change_text}
use Rattle.journal.specs.Journal.{entry_at, walk, Read, Sound, Broken}
use Rattle.journal.specs.Printed.{line}
use Rattle.text.specs.declared.Code.TheVariants.{JournalBroken, OutOfRange}
use Rattle.text.specs.declared.Refusal.{Refusal}
use Rattle.journal.specs.declared.Kept.{Kept}

-- the length that a walk gathered, or the refusal
abbrev pub length_told : Read ℕ → Result ℕ Refusal
length_told (Sound n) = Ok n
length_told (Broken place) = refuse JournalBroken place

-- ---- Printing: the lines, and how long they are together

abbrev pub with_line : List ℕ → ℕ → ℕ → List ℕ → List ℕ
with_line s at n lines = lines ++ line at (entry_at s at n)

abbrev pub with_size : List ℕ → ℕ → ℕ → ℕ → ℕ
with_size s at n size = size + length (line at (entry_at s at n))

-- the lines of a sound journal, and room for them
pub record LinesFit (s : List ℕ) (end room : ℕ) : Type 0 where
  pub lines : List ℕ
  pub sound : walk (with_line s) s end [] ≡ Sound lines
  pub fits : length lines ≤ room

-- they stand over the start of a buffer
pub record LinesOver (s : List ℕ) (end : ℕ) (before after : List ℕ) : Type 0 where
  pub written : (lines : List ℕ) → walk (with_line s) s end [] ≡ Sound lines → after ≡ over before 0 lines

-- ---- Dropping: how many entries are still to go, and where the journal then ends

unfoldable pub kept_at : ℕ → ℕ → Kept → Kept
kept_at at n k = cond (eqb k.wanted 0) k (record { wanted = k.wanted - 1; end = at })

unfoldable pub kept_told : Read Kept → Result ℕ Refusal
kept_told (Sound k) = cond (eqb k.wanted 0) (Ok k.end) (refuse OutOfRange 0)
kept_told (Broken place) = refuse JournalBroken place

-- ---- Replaying: one command that acts as all that were taken for the aircraft from here on

unfoldable pub joined_at : List ℕ → List ℕ → ℕ → ℕ → List ℕ → List ℕ
joined_at s d at n later = cond (same_bytes d (entry_at s at n).who) (join_text (entry_at s at n).text later) later

-- an accepted command in the first n bytes of a buffer that holds any command
pub record Holds (bytes : List ℕ) (n : ℕ) (t : List ℕ) : Type 0 where
  pub room : length bytes ≡ longest
  pub short : n ≤ longest
  pub found : take n bytes ≡ t
  pub fine : check_command t ≡ Ok tt

-- what the walk gathered for an aircraft, or the refusal; the buffer then holds it
pub record Gathered (s d : List ℕ) (end : ℕ) (r : Result ℕ Refusal) (bytes : List ℕ) : Type 0 where
  pub broken : (place : ℕ) → walk (joined_at s d) s end no_change_text ≡ Broken place → r ≡ refuse JournalBroken place
  pub sound : (t : List ℕ) → walk (joined_at s d) s end no_change_text ≡ Sound t → (r ≡ Ok (length t)) × Holds bytes (length t) t
