-- What the inner functions ask for and answer. No promise to a caller rests on these names.
use Rattle.std.specs.Prelude.{◌≡◌, Bool, true, ◌&&◌, List, [], ◌∷◌, ◌++◌, map, ℕ, ◌+◌, ◌-◌, ◌≤◌, leb, length, get_or, take, replicate, Result, Ok, Err}
use Rattle.section.specs.declared.Row.{Row}
use Rattle.section.specs.declared.Layout.{Layout}
use Rattle.section.specs.Layout.{Item, Section, no_row}
use Rattle.section.specs.Contents.{Content, amount_of, contents_text, contents_allowed}
use Rattle.text.specs.declared.Refusal.{Refusal}

-- ---- Rows

-- rows that are read without overflow: three digits at the most
unfoldable pub all_small : List Row → Bool
all_small [] = true
all_small (r ∷ rs) = (leb r.width 3 && leb r.most 999) && all_small rs

-- a section's lists, and its rows
pub record Laid (x : Section) (l : Layout) : Type 0 where
  pub boxes : l.boxes ≡ x.boxes
  pub airfields : l.airfields ≡ x.airfields
  pub count : l.count ≡ length x.rows
  pub rows : take l.count l.rows ≡ x.rows

-- ---- A section's numbers, eight of them, those without a row zero

unfoldable pub numbers_of : List Content → List ℕ
numbers_of cs = map amount_of cs ++ replicate (8 - length cs) 0

-- each is a byte where its row's most is
abbrev pub Fit : Section → List ℕ → Type 0
Fit x v = (i : ℕ) → (get_or x.rows i no_row).most ≤ 255 → get_or v i 0 ≤ 255

-- ---- A record's section: where what follows it would begin, or the refusal

-- what a check saw, and where it goes on from there
abbrev pub going_on : Result (Unit {0}) Refusal → ℕ → Result ℕ Refusal
going_on (Ok u) next = Ok next
going_on (Err r) next = Err r

-- allowed contents are followed by what stands behind their text
abbrev pub pass_contents : List Item → ℕ → List Content → Result ℕ Refusal
pass_contents is at cs = going_on (contents_allowed is at cs) (at + length (contents_text is cs))

-- no further than a place
abbrev pub Reaches : ℕ → Result ℕ Refusal → Type 0
Reaches most (Ok p) = p ≤ most
Reaches most (Err r) = Unit
