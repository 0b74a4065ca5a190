-- Document 02, §5: what differs between two configurations, and the command that makes the first into the second.
use Rattle.std.specs.Prelude.{Bool, cond, ◌&&◌, not, List, [], ◌∷◌, ◌++◌, map, ℕ, ◌-◌, leb, ltb, eqb, length, get_or, replicate, Result, Ok, Err}
use Rattle.text.specs.Over.{over}
use Rattle.text.specs.declared.Code.{Code}
use Rattle.text.specs.declared.Code.TheVariants.{NoRoom, SettingsInvalid}
use Rattle.section.specs.Layout.{numbers}
use Rattle.settings.specs.Settings.{contents_of, settings_from}
use Rattle.settings.specs.Valid.{valid}
use Rattle.settings.specs.declared.Settings.{Settings}
use Rattle.command.specs.Text.{is_named}
use Rattle.command.specs.Record.{command_text}
use Rattle.command.specs.declared.Command.{Command}
use Rattle.commute.specs.Commute.{sets, flag_of, flag_numbers}
use Rattle.difference.specs.Same.{same_contents}
use Rattle.difference.specs.declared.Listed.{Listed}
use Rattle.difference.specs.declared.Differing.{Differing}

-- ---- "each differing flag and section"

-- flag i, in the command's order from 0
abbrev pub flag_differs : Settings → Settings → ℕ → Bool
flag_differs a b i = not (eqb (get_or a.flags i 0) (get_or b.flags i 0))

abbrev pub section_differs : Settings → Settings → ℕ → Bool
section_differs a b k = not (same_contents (contents_of a k) (contents_of b k))

-- ---- "in the order of the command, each once, equal ones never"

-- the items: flags 1 to 7, then 10 and the section's number
abbrev pub items : List ℕ
items = 1 ∷ 2 ∷ 3 ∷ 4 ∷ 5 ∷ 6 ∷ 7 ∷ 12 ∷ 13 ∷ 14 ∷ 15 ∷ 16 ∷ 17 ∷ 18 ∷ 19 ∷ []

-- an item that is a flag, or a section
abbrev pub by_item : (ℕ → Bool) → (ℕ → Bool) → ℕ → Bool
by_item flag section j = cond (ltb j 10) (flag (j - 1)) (section (j - 10))

-- those that pass a test
unfoldable pub those : (ℕ → Bool) → List ℕ → List ℕ
those test [] = []
those test (j ∷ js) = cond (test j) (j ∷ those test js) (those test js)

unfoldable pub differing : Settings → Settings → List ℕ
differing a b = those (by_item (flag_differs a b) (section_differs a b)) items

-- whether a command's text sets an item
abbrev pub set_by : List ℕ → ℕ → Bool
set_by s = by_item (λ (i : ℕ). sets (flag_of s i)) (is_named s)

-- ---- "the command that makes the first into the second and names exactly the listed items. Its downlink digit is 0"

-- what differs is set to what the second has, any other flag is 9, any other section not named
unfoldable pub between : Settings → Settings → Command
between a b =
    record {
      settings =
          settings_from
          (map (λ (i : ℕ). cond (flag_differs a b i) (get_or b.flags i 0) 9) flag_numbers)
          (λ (k : ℕ). cond (section_differs a b k) (contents_of b k) []);
      downlink = 0;
      named = map (λ (k : ℕ). cond (section_differs a b k) k 0) numbers;
      spare = 0;
    }

-- ---- The answer: "Refusals: 12, then 2"

-- how many, and which; entries that aren't used are 0
abbrev pub listing : List ℕ → Listed
listing js = record { count = length js; items = js ++ replicate (15 - length js) 0 }

abbrev pub answered : List ℕ → ℕ → Differing
answered js n = record { length = n; listed = listing js }

unfoldable pub difference : Settings → Settings → ℕ → Result Differing Code
difference a b room =
    cond (valid a && valid b)
    (cond (leb (length (command_text (between a b))) room)
    (Ok (answered (differing a b) (length (command_text (between a b)))))
    (Err NoRoom))
    (Err SettingsInvalid)

-- what the buffer holds afterwards
unfoldable pub left_by : Settings → Settings → List ℕ → List ℕ
left_by a b out =
    cond (valid a && valid b && leb (length (command_text (between a b))) (length out))
    (over out 0 (command_text (between a b)))
    out
