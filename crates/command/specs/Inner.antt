-- What the inner functions of the check and of the reader answer. No promise to a caller rests on these names.
use Rattle.std.specs.Prelude.{◌≡◌, Bool, true, cond, ◌||◌, List, ℕ, ◌-◌, ◌≤◌, ◌<◌, ltb, eqb, length, drop, get_or, Result, Ok}
use Rattle.section.specs.Layout.{check_section, numbers}
use Rattle.section.specs.Contents.{Content}
use Rattle.settings.specs.Settings.{amount_in, enroute_from, ascent_from, descent_from, hours_from, fixed_hold}
use Rattle.settings.specs.declared.Fixed.{Fixed}
use Rattle.command.specs.Text.{is_flag, is_downlink, is_indicator, is_named, check_from, check_command}
use Rattle.command.specs.Sections.{is_one_of, place_from, place_of, held_in}
use Rattle.text.specs.declared.Refusal.{Refusal}

-- the test of the byte i bytes behind the first flag
abbrev pub head_test : ℕ → ℕ → Bool
head_test i b = cond (ltb i 7) (is_flag b) (cond (eqb i 7) (is_downlink b) (is_indicator (i - 6) b))

-- 0 or one of four other bytes
abbrev pub is_among : ℕ → ℕ → ℕ → ℕ → ℕ → Bool
is_among b one two nine own = eqb b 48 || eqb b one || eqb b two || eqb b nine || eqb b own

-- a section, where it is named
abbrev pub section_seen : List ℕ → ℕ → ℕ → Result ℕ Refusal
section_seen s k at = cond (is_named s k) (check_section k s at) (Ok at)

-- ---- Where the sections of an accepted text stand

-- the sections before k are passed, and their places noted under their numbers: what stands at a place decides of the others, and each
-- of them is found from there
pub record Reached (s : List ℕ) (k at : ℕ) (places : List ℕ) : Type 0 where
  pub inside : at ≤ length s
  pub decides : check_from numbers s 22 ≡ check_from (drop (k - 2) numbers) s at
  pub room : length places ≡ 11
  pub later : (j : ℕ) → k ≤ j → place_of s j ≡ place_from (drop (k - 2) numbers) s at j
  pub noted : (j : ℕ) → 2 ≤ j → j < k → get_or places j 0 ≡ place_of s j

-- the places of the sections, each under its number, and under 10 where the text ends
pub record Noted (s places : List ℕ) : Type 0 where
  pub under : (k : ℕ) → 2 ≤ k → k ≤ 10 → get_or places k 0 ≡ place_of s k

-- the place of section k in an accepted text
pub record Stands (s : List ℕ) (k at : ℕ) : Type 0 where
  pub fine : check_command s ≡ Ok tt
  pub number : is_one_of numbers k ≡ true
  pub place : at ≡ place_of s k

-- what section k holds over what it held: the text's where it is named
abbrev pub held_over : List ℕ → ℕ → List Content → List Content
held_over s k old = cond (is_named s k) (held_in s k) old

-- the sections of numbers over others
abbrev pub fixed_over : List ℕ → Fixed → Fixed
fixed_over s old =
    record {
      enroute = enroute_from (held_over s 4 (fixed_hold old 4));
      ascent = ascent_from (held_over s 5 (fixed_hold old 5));
      descent = descent_from (held_over s 7 (fixed_hold old 7));
      routine6 = amount_in (held_over s 6 (fixed_hold old 6)) 0;
      routine8 = amount_in (held_over s 8 (fixed_hold old 8)) 0;
      hours = hours_from (held_over s 9 (fixed_hold old 9));
    }

-- whether a text names a section of lists
abbrev pub names_lists : List ℕ → Bool
names_lists s = is_named s 2 || is_named s 3
