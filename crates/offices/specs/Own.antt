-- Document 02, §6: an office's "own flags and sections in the waiting text".
use Rattle.std.specs.Prelude.{◌≡◌, Bool, true, cond, List, [], ℕ, ◌-◌, ◌≤◌, ◌<◌, length, get_or}
use Rattle.command.specs.Sections.{bytes_of}
use Rattle.commute.specs.Commute.{flag_of}
use Rattle.board.specs.Board.{is_none}
use Rattle.offices.specs.Offices.{is_grant}
use Rattle.offices.specs.declared.Grant.{Grant}

-- flag i, from 0 in the command's order, and section k
abbrev pub grants_flag : Grant → ℕ → Bool
grants_flag g i = is_grant (get_or g.flags i 0)

abbrev pub grants_section : Grant → ℕ → Bool
grants_section g k = is_grant (get_or g.sections (k - 2) 0)

-- a byte for each flag and section, as the record in C has
pub record Full (g : Grant) : Type 0 where
  pub seven : length g.flags ≡ 7
  pub eight : length g.sections ≡ 8

-- a flag's byte in what waits, and a section's bytes; where nothing waits no flag is set and no section named
abbrev pub flag_in : List ℕ → ℕ → ℕ
flag_in t i = cond (is_none t) 57 (flag_of t i)

abbrev pub section_in : List ℕ → ℕ → List ℕ
section_in t k = cond (is_none t) [] (bytes_of t k)

-- two texts set the same inside a grant, byte for byte
pub record SameOwn (g : Grant) (s t : List ℕ) : Type 0 where
  pub flags : (i : ℕ) → i < 7 → grants_flag g i ≡ true → flag_in s i ≡ flag_in t i
  pub sections : (k : ℕ) → 2 ≤ k → k ≤ 9 → grants_section g k ≡ true → section_in s k ≡ section_in t k
