-- What the inner functions of the finder answer. No promise to a caller rests on these names.
use Rattle.std.specs.Prelude.{cond, List, [], ◌∷◌, ℕ, ◌+◌, Result, Ok}
use Rattle.section.specs.declared.Row.{Row}
use Rattle.command.specs.Text.{is_named}
use Rattle.finder.specs.Finding.{pass_section}
use Rattle.text.specs.declared.Refusal.{Refusal}

-- how many bytes digits of these rows are
unfoldable pub width_of : List Row → ℕ
width_of [] = 0
width_of (r ∷ rs) = r.width + width_of rs

-- a section, where it is named
abbrev pub section_passed : List ℕ → ℕ → ℕ → Result ℕ Refusal
section_passed s k at = cond (is_named s k) (pass_section k s at) (Ok at)
