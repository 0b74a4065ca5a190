-- Document 01, "The command": each section number has its own length and its own limits.
use Rattle.std.specs.Prelude.{◌≡◌, Bool, true, false, cond, List, [], ◌∷◌, map, ℕ, zero, suc, ◌+◌, ◌*◌, eqb, Result, Ok}
use Rattle.field.specs.Fields.{check_digits, check_delimiter}
use Rattle.text.specs.Checks.{after}
use Rattle.lists.specs.Lists.{most_boxes, most_airfields, check_airfields, check_boxes, count_at}
use Rattle.section.specs.declared.Row.{Row}
use Rattle.text.specs.declared.Refusal.{Refusal}
use Rattle.text.specs.declared.Code.TheVariants.{NotAllowed, OutOfRange}

-- what a section is made of
pub data Item : Type 0 where
  Digits : Row → Item
  AirfieldList : Item  -- count 00-20 and that many airfields
  BoxList : Item  -- count 00-16 and that many boxes

-- a number of w digits: one that doesn't fit is 5
abbrev pub number : ℕ → ℕ → ℕ → Row
number w least most = record { code = OutOfRange; width = w; least = least; most = most }

-- a mark, one byte, a digit from the first to the second: another is 4
abbrev pub mark : ℕ → ℕ → Row
mark least most = record { code = NotAllowed; width = 1; least = least; most = most }

abbrev pub no_row : Row
no_row = number 0 0 0

-- so many lists of boxes, so many of airfields, then digits
pub record Section : Type 0 where
  pub boxes : ℕ
  pub airfields : ℕ
  pub rows : List Row

abbrev pub layout : ℕ → ℕ → List Row → Section
layout boxes airfields rows = record { boxes = boxes; airfields = airfields; rows = rows }

-- the section numbers, in rising order
abbrev pub numbers : List ℕ
numbers = 2 ∷ 3 ∷ 4 ∷ 5 ∷ 6 ∷ 7 ∷ 8 ∷ 9 ∷ []

-- the entry at a number, or what there is for any other
abbrev pub look : {A : Type 0} → ℕ → List (ℕ × A) → A → A
look k [] other = other
look k ((j, a) ∷ rows) other = cond (eqb k j) a (look k rows other)

-- the sections, each ended by `/`
abbrev pub sections : List (ℕ × Section)
sections =
    (2, layout 2 0 [])
    ∷ (3, layout 0 4 (number 1 0 1 ∷ []))
    ∷ (4, layout 0 0 (number 2 1 60 ∷ number 1 0 1 ∷ []))
    ∷ (
      5,
      layout 0 0
          (mark 0 1
          ∷ number 2 3 20
          ∷ number 3 30 600
          ∷ number 2 3 60
          ∷ number 3 51 111
          ∷ number 3 150 350
          ∷ mark 1 2
          ∷ mark 0 1
          ∷ []),
    )
    ∷ (6, layout 0 0 (number 1 0 1 ∷ []))
    ∷ (7, layout 0 0 (mark 0 1 ∷ number 3 10 300 ∷ number 3 150 350 ∷ mark 1 2 ∷ mark 0 1 ∷ []))
    ∷ (8, layout 0 0 (number 1 0 1 ∷ []))
    ∷ (9, layout 0 0 (number 2 0 23 ∷ number 2 0 23 ∷ []))
    ∷ []

-- any other number has nothing
abbrev pub none : Section
none = layout 0 0 []

unfoldable pub table_of : ℕ → Section
table_of k = look k sections none

-- n items of one kind before others
abbrev pub several : Item → ℕ → List Item → List Item
several i zero js = js
several i (suc n) js = i ∷ several i n js

abbrev pub digits_of : Section → List Item
digits_of x = map Digits x.rows

abbrev pub lists_and_digits : Section → List Item
lists_and_digits x = several AirfieldList x.airfields (digits_of x)

abbrev pub items_of : Section → List Item
items_of x = several BoxList x.boxes (lists_and_digits x)

-- a section's items, in their order
unfoldable pub layout_of : ℕ → List Item
layout_of k = items_of (table_of k)

-- no items, no section
abbrev pub is_empty : List Item → Bool
is_empty [] = true
is_empty (i ∷ is) = false

-- ---- A section's text, from a place on

abbrev pub check_item : Item → List ℕ → ℕ → Result ℕ Refusal
check_item (Digits r) s at = check_digits r.code r.width r.least r.most s at
check_item AirfieldList s at = check_airfields s at
check_item BoxList s at = check_boxes s at

unfoldable pub check_items : List Item → List ℕ → ℕ → Result ℕ Refusal
check_items [] s at = check_delimiter s at
check_items (i ∷ is) s at = after (check_item i s at) (check_items is s)

abbrev pub check_section : ℕ → List ℕ → ℕ → Result ℕ Refusal
check_section k s at = check_items (layout_of k) s at

-- ---- How long a section is, from its counts alone

abbrev pub item_size : Item → List ℕ → ℕ → ℕ
item_size (Digits r) s at = r.width
item_size AirfieldList s at = 2 + 4 * count_at s at
item_size BoxList s at = 2 + 14 * count_at s at

-- with the delimiter
unfoldable pub items_size : List Item → List ℕ → ℕ → ℕ
items_size [] s at = 1
items_size (i ∷ is) s at = item_size i s at + items_size is s (at + item_size i s at)

-- the longest that each can be
abbrev pub item_most : Item → ℕ
item_most (Digits r) = r.width
item_most AirfieldList = 2 + 4 * most_airfields
item_most BoxList = 2 + 14 * most_boxes

unfoldable pub items_most : List Item → ℕ
items_most [] = 1
items_most (i ∷ is) = item_most i + items_most is

-- ---- An accepted section, which ends where its counts say

abbrev pub Accepted : ℕ → List ℕ → ℕ → Type 0
Accepted k s at = check_section k s at ≡ Ok (at + items_size (layout_of k) s at)
