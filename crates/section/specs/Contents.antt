-- What a section holds: read out of its text, checked as a record, written as its text.
use Rattle.std.specs.Prelude.{◌&&◌, List, [], ◌∷◌, ◌++◌, ℕ, ◌+◌, leb, length, Result, Ok}
use Rattle.text.specs.Parts.{part}
use Rattle.text.specs.Checks.{must, ◌and_then◌}
use Rattle.field.specs.Decimal.{value, decimal}
use Rattle.lists.specs.Lists.{airfields_at, airfields_allowed, airfields_text, no_airfields, boxes_at, boxes_allowed, boxes_text, no_boxes}
use Rattle.lists.specs.declared.Airfields.{Airfields}
use Rattle.lists.specs.declared.Boxes.{Boxes}
use Rattle.section.specs.Layout.{Item, Digits, AirfieldList, BoxList, item_size}
use Rattle.text.specs.declared.Refusal.{Refusal}

-- what an item holds
pub data Content : Type 0 where
  Amount : ℕ → Content
  Names : Airfields → Content
  Areas : Boxes → Content

-- ---- Out of a text, from a place on

abbrev pub content_at : Item → List ℕ → ℕ → Content
content_at (Digits r) s at = Amount (value (part at r.width s))
content_at AirfieldList s at = Names (airfields_at s at)
content_at BoxList s at = Areas (boxes_at s at)

unfoldable pub contents_at : List Item → List ℕ → ℕ → List Content
contents_at [] s at = []
contents_at (i ∷ is) s at = content_at i s at ∷ contents_at is s (at + item_size i s at)

-- ---- Into a text

abbrev pub amount_of : Content → ℕ
amount_of (Amount v) = v
amount_of (Names l) = 0
amount_of (Areas l) = 0

abbrev pub names_of : Content → Airfields
names_of (Amount v) = no_airfields
names_of (Names l) = l
names_of (Areas l) = no_airfields

abbrev pub areas_of : Content → Boxes
areas_of (Amount v) = no_boxes
areas_of (Names l) = no_boxes
areas_of (Areas l) = l

abbrev pub content_text : Item → Content → List ℕ
content_text (Digits r) c = decimal r.width (amount_of c)
content_text AirfieldList c = airfields_text (names_of c)
content_text BoxList c = boxes_text (areas_of c)

unfoldable pub contents_text : List Item → List Content → List ℕ
contents_text [] cs = 47 ∷ []
contents_text (i ∷ is) [] = 47 ∷ []
contents_text (i ∷ is) (c ∷ cs) = content_text i c ++ contents_text is cs

-- ---- A record's own check, with the places where the fields would stand

abbrev pub content_allowed : Item → ℕ → Content → Result (Unit {0}) Refusal
content_allowed (Digits r) at c = must (leb r.least (amount_of c) && leb (amount_of c) r.most) r.code at
content_allowed AirfieldList at c = airfields_allowed at (names_of c)
content_allowed BoxList at c = boxes_allowed at (areas_of c)

unfoldable pub contents_allowed : List Item → ℕ → List Content → Result (Unit {0}) Refusal
contents_allowed [] at cs = (Ok tt)
contents_allowed (i ∷ is) at [] = (Ok tt)
contents_allowed (i ∷ is) at (c ∷ cs) =
    content_allowed i at c and_then contents_allowed is (at + length (content_text i c)) cs
