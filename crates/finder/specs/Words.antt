-- Document 02, §7, of texts that need not be accepted: which section is whole, which count is on the way. A section stands where the
-- counts of those before it say, in an accepted text and in any other.
use Rattle.std.specs.Prelude.{◌≡◌, true, List, [], ◌∷◌, ℕ, ◌+◌, ◌≤◌, ◌<◌, length, Result, Ok}
use Rattle.field.specs.Fields.{check_number}
use Rattle.lists.specs.Lists.{most_boxes, most_airfields}
use Rattle.section.specs.Layout.{Item, Digits, AirfieldList, BoxList, layout_of, item_size, items_size}
use Rattle.command.specs.Text.{check_head, is_named, longest}
use Rattle.command.specs.Sections.{place_of}
use Rattle.text.specs.declared.Refusal.{Refusal}

-- a count as document 01 checks it; digits have none
abbrev pub count_seen : Item → List ℕ → ℕ → Result ℕ Refusal
count_seen (Digits r) s at = Ok (at + 2)
count_seen AirfieldList s at = check_number 2 0 most_airfields s at
count_seen BoxList s at = check_number 2 0 most_boxes s at

-- where the items end that begin at a place
abbrev pub behind : List Item → List ℕ → ℕ → ℕ
behind [] s at = at
behind (i ∷ is) s at = behind is s (at + item_size i s at)

-- each of their counts is accepted
abbrev pub CountsFine : List Item → List ℕ → ℕ → Type 0
CountsFine [] s at = Unit
CountsFine (i ∷ is) s at = (count_seen i s at ≡ Ok (at + 2)) × CountsFine is s (at + item_size i s at)

-- section k, which begins at a place, ends in the text
pub record Whole (k : ℕ) (s : List ℕ) (at : ℕ) : Type 0 where
  pub counts : CountsFine (layout_of k) s at
  pub ends : at + items_size (layout_of k) s at ≤ length s

-- the sections named before section k do
abbrev pub WholeBefore : ℕ → List ℕ → Type 0
WholeBefore k s = (j : ℕ) → 2 ≤ j → j < k → is_named s j ≡ true → Whole j s (place_of s j)

-- a text with a good header that names section k
pub record Names (k : ℕ) (s : List ℕ) : Type 0 where
  pub low : 2 ≤ k
  pub high : k ≤ 9
  pub short : length s ≤ longest
  pub head : check_head s ≡ Ok 22
  pub named : is_named s k ≡ true

-- section h is passed over or asked for on the way to section k, and those before it are whole
pub record OnTheWay (h k : ℕ) (s : List ℕ) : Type 0 where
  pub asked : Names k s
  pub low : 2 ≤ h
  pub most : h ≤ k
  pub named : is_named s h ≡ true
  pub before : WholeBefore h s
