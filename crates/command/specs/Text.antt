-- Document 01, "The command": its text, field by field from left to right.
use Rattle.std.specs.Prelude.{Bool, cond, ◌&&◌, ◌||◌, not, List, [], ◌∷◌, ℕ, ◌+◌, leb, eqb, length, get_or, Result, Ok, Err}
use Rattle.text.specs.Names.{between}
use Rattle.text.specs.Parts.{part}
use Rattle.text.specs.Equal.{same_bytes}
use Rattle.text.specs.Checks.{must, refuse, after}
use Rattle.field.specs.Fields.{room, check_delimiter}
use Rattle.section.specs.Layout.{numbers, layout_of, is_empty, check_section, items_most}
use Rattle.text.specs.declared.Refusal.{Refusal}
use Rattle.text.specs.declared.Code.TheVariants.{NotAllowed, WrongEnd, WrongFixed, WrongLength}

-- ---- The first 22 bytes: `AWR04`, seven flags, a downlink digit, eight indicators E2 to E9, `/`

abbrev pub awr04 : List ℕ
awr04 = 65 ∷ 87 ∷ 82 ∷ 48 ∷ 52 ∷ []

-- 0, 1 or 9 (no change)
abbrev pub is_flag : ℕ → Bool
is_flag b = eqb b 48 || eqb b 49 || eqb b 57

-- 0, 1 or 2
abbrev pub is_downlink : ℕ → Bool
is_downlink b = between 48 50 b

-- 0 or its own number, if there is such a section
abbrev pub is_indicator : ℕ → ℕ → Bool
is_indicator k b = eqb b 48 || (not (is_empty (layout_of k)) && eqb b (48 + k))

-- the bytes from the first flag to the last indicator
abbrev pub head_bytes : List (ℕ → Bool)
head_bytes =
    is_flag
    ∷ is_flag
    ∷ is_flag
    ∷ is_flag
    ∷ is_flag
    ∷ is_flag
    ∷ is_flag
    ∷ is_downlink
    ∷ is_indicator 2
    ∷ is_indicator 3
    ∷ is_indicator 4
    ∷ is_indicator 5
    ∷ is_indicator 6
    ∷ is_indicator 7
    ∷ is_indicator 8
    ∷ is_indicator 9
    ∷ []

-- bytes that are fields by themselves: another byte is 4
unfoldable pub check_each : List (ℕ → Bool) → List ℕ → ℕ → Result ℕ Refusal
check_each [] s at = Ok at
check_each (test ∷ tests) s at =
    room 1 s at (cond (test (get_or s at 0)) (check_each tests s (at + 1)) (refuse NotAllowed at))

-- one fixed group
unfoldable pub check_awr04 : List ℕ → Result ℕ Refusal
check_awr04 s = room 5 s 0 (cond (same_bytes (part 0 5 s) awr04) (Ok 5) (refuse WrongFixed 0))

unfoldable pub check_head : List ℕ → Result ℕ Refusal
check_head s = after (check_awr04 s) (λ at. after (check_each head_bytes s at) (check_delimiter s))

-- ---- Then the sections named, in rising order

-- E2 stands at byte 13
abbrev pub is_named : List ℕ → ℕ → Bool
is_named s k = eqb (get_or s (11 + k) 0) (48 + k)

unfoldable pub check_from : List ℕ → List ℕ → ℕ → Result ℕ Refusal
check_from [] s at = Ok at
check_from (k ∷ ks) s at = cond (is_named s k) (after (check_section k s at) (check_from ks s)) (check_from ks s at)

-- ---- The whole

-- the most bytes: the longest has 22 and every section at its longest
abbrev pub longest : ℕ
longest = 845

unfoldable pub sections_most : List ℕ → ℕ
sections_most [] = 0
sections_most (k ∷ ks) = cond (is_empty (layout_of k)) 0 (items_most (layout_of k)) + sections_most ks

-- bytes after the last delimiter are 8 at the first of them
abbrev pub ended : List ℕ → Result ℕ Refusal → Result (Unit {0}) Refusal
ended s (Ok at) = must (eqb at (length s)) WrongEnd at
ended s (Err r) = Err r

unfoldable pub check_command : List ℕ → Result (Unit {0}) Refusal
check_command s =
    cond (leb (length s) longest) (ended s (after (check_head s) (check_from numbers s))) (refuse WrongLength 0)
