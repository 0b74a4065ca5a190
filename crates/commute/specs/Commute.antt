-- Document 02, §12: which flags and sections two commands set differently. The call's answer.
use Rattle.std.specs.Prelude.{Bool, cond, ◌&&◌, not, List, [], ◌∷◌, ℕ, ◌+◌, ◌*◌, ◌/◌, ◌%◌, ◌^◌, eqb, get_or, Result, Ok, Err}
use Rattle.text.specs.Equal.{same_bytes}
use Rattle.section.specs.Layout.{numbers}
use Rattle.command.specs.Text.{is_named, check_command}
use Rattle.command.specs.Sections.{bytes_of}
use Rattle.commute.specs.declared.Apart.{Apart}
use Rattle.commute.specs.declared.Fault.{Fault}
use Rattle.commute.specs.declared.Fault.TheVariants.{First, Second}
use Rattle.text.specs.declared.Refusal.{Refusal}

-- ---- "each flag and section that both set"

-- a flag's byte, `9` sets none
abbrev pub sets : ℕ → Bool
sets f = not (eqb f 57)

-- flag i of a text, in the command's order from 0
abbrev pub flag_of : List ℕ → ℕ → ℕ
flag_of s i = get_or s (5 + i) 0

-- both set it, and differently
abbrev pub apart : ℕ → ℕ → Bool
apart f g = (sets f && sets g) && not (eqb f g)

abbrev pub flag_apart : List ℕ → List ℕ → ℕ → Bool
flag_apart a b i = apart (flag_of a i) (flag_of b i)

-- both name section k, with other bytes: what a section holds has one spelling
abbrev pub section_apart : List ℕ → List ℕ → ℕ → Bool
section_apart a b k = (is_named a k && is_named b k) && not (same_bytes (bytes_of a k) (bytes_of b k))

-- ---- As bits

abbrev pub flag_numbers : List ℕ
flag_numbers = 0 ∷ 1 ∷ 2 ∷ 3 ∷ 4 ∷ 5 ∷ 6 ∷ []

-- a bit for each of the numbers, the first is bit 0
unfoldable pub bits_of : (ℕ → Bool) → List ℕ → ℕ
bits_of test [] = 0
bits_of test (k ∷ ks) = 2 * bits_of test ks + cond (test k) 1 0

-- bit i of a number
abbrev pub bit : ℕ → ℕ → ℕ
bit i n = n / 2 ^ i % 2

-- the flags and the sections that two texts set differently
abbrev pub all_apart : List ℕ → List ℕ → Apart
all_apart a b = record { flags = bits_of (flag_apart a b) flag_numbers; sections = bits_of (section_apart a b) numbers }

-- ---- The answer: the first text's refusals, then the second's

abbrev pub by_seen : Result (Unit {0}) Refusal → Result (Unit {0}) Refusal → Apart → Result Apart Fault
by_seen (Err r) y x = Err (First r)
by_seen (Ok u) (Err r) x = Err (Second r)
by_seen (Ok u) (Ok v) x = Ok x

unfoldable pub compared : List ℕ → List ℕ → Result Apart Fault
compared a b = by_seen (check_command a) (check_command b) (all_apart a b)
