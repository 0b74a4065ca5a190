-- Sections: their checks look only at the bytes that they pass over, and so does what is read there; how long each can be.
use mathlib.Core.Path.{◌≡◌}
use mathlib.Core.List.{List, [], ◌∷◌}
use Prim.Native.Nat.{ℕ, ◌+◌, ◌≤◌}
use native.Mathlib.Omega.{arith}
use Rattle.field.specs.Decimal.{value}
use Rattle.field.specs.Fields.{check_delimiter, check_airfield}
use Rattle.field.specs.Boxes.{check_box}
use Rattle.field.proofs.Local.{Local, Reads, Sized, after-cases, reads_fixed, reads_with}
use Rattle.field.proofs.LocalThen.{bound_local, bound-first, bound-second, bound-sized}
use Rattle.field.proofs.LocalFields.{digits_local, digits-reads, digits-sized, delimiter_local, delimiter-sized}
use Rattle.lists.specs.Lists.{check_airfields, airfields_at, check_boxes, boxes_at}
use Rattle.lists.proofs.Local.{airfields_local, airfields-sized, airfields-reads, boxes_local, boxes-sized, boxes-reads, count_most}
use Rattle.section.specs.Layout.{Item, Digits, AirfieldList, BoxList, check_item, check_items, item_size, items_size, item_most, items_most}
use Rattle.section.specs.Contents.{Amount, Names, Areas, content_at, contents_at}
use Rattle.std.specs.Prelude.{Ok}

-- ---- One item

-- every item is local
pub item_local : (i : Item) → Local (check_item i)
item_local (Digits r) = digits_local r.code r.width r.least r.most
item_local AirfieldList = airfields_local
item_local BoxList = boxes_local

-- it is as long as item_size says
pub item_sized : (i : Item) → Sized (check_item i) (item_size i)
item_sized (Digits r) = digits-sized r.code r.width r.least r.most
item_sized AirfieldList = airfields-sized
item_sized BoxList = boxes-sized

-- and no longer than it can be
pub item_most_lem : (i : Item) (s : List ℕ) (at p : ℕ) → check_item i s at ≡ Ok p → item_size i s at ≤ item_most i
item_most_lem (Digits r) s at p e = omega arith
item_most_lem AirfieldList s at p e = omega (arith, count_most 20 check_airfield s at p e)
item_most_lem BoxList s at p e = omega (arith, count_most 16 check_box s at p e)

-- what it holds depends on its own bytes only
pub item_reads : (i : Item) → Reads (check_item i) (content_at i)
item_reads (Digits r) = digits-reads r.code r.width r.least r.most (λ b. Amount (value b))
item_reads AirfieldList = reads_with check_airfields airfields_at (λ s at. 0) (λ l z. Names l) airfields-reads (reads_fixed {A = ℕ} check_airfields 0)
item_reads BoxList = reads_with check_boxes boxes_at (λ s at. 0) (λ l z. Areas l) boxes-reads (reads_fixed {A = ℕ} check_boxes 0)

-- ---- A section: its items and `/`

abbrev no_value : List ℕ → ℕ → ℕ
no_value s at = 0

-- every section is local
pub items_local : (is : List Item) → Local (check_items is)
unfolding check_items
items_local [] = delimiter_local
items_local (i ∷ is) =
    bound_local (check_item i) no_value (λ a. check_items is) (item_local i) (reads_fixed (check_item i) 0) (λ a. items_local is)

-- it is as long as its counts say
pub items-sized : (is : List Item) → Sized (check_items is) (items_size is)
unfolding check_items items_size
items-sized [] = delimiter-sized
items-sized (i ∷ is) =
    bound-sized (check_item i) no_value (λ a. check_items is) (item_size i) (λ a. items_size is) (reads_fixed (check_item i) 0) (item_sized i)
    (λ a. items-sized is)

-- what it holds depends on its own bytes only
pub items-reads : (is : List Item) → Reads (check_items is) (contents_at is)
unfolding check_items contents_at
items-reads [] = reads_fixed check_delimiter []
items-reads (i ∷ is) =
    reads_with (check_items (i ∷ is)) (content_at i) (λ s at. contents_at is s (at + item_size i s at)) (λ c cs. c ∷ cs)
    (bound-first (check_item i) no_value (λ a. check_items is) (content_at i) (item_reads i))
    (bound-second (check_item i) no_value (λ a. check_items is) (item_size i) (λ a. contents_at is) (reads_fixed (check_item i) 0) (item_sized i)
    (λ a. items-reads is))

-- no accepted section is longer than its longest
pub items-most : (is : List Item) (s : List ℕ) (at p : ℕ) → check_items is s at ≡ Ok p → items_size is s at ≤ items_most is
unfolding check_items items_size items_most
items-most [] s at p e = omega arith
items-most (i ∷ is) s at q e =
    after-cases (check_item i s at) (check_items is s) q e
    (λ p (d : check_item i s at ≡ Ok p) (c : check_items is s p ≡ Ok q).
    let k : p ≡ at + item_size i s at = (item_sized i).passes s at p d in
    omega (arith, item_most_lem i s at p d, items-most is s (at + item_size i s at) q (rw k at c)))

-- a section has at least its delimiter
pub items-some : (is : List Item) (s : List ℕ) (at : ℕ) → 1 ≤ items_size is s at
unfolding items_size
items-some [] s at = omega arith
items-some (i ∷ is) s at = omega (arith, items-some is s (at + item_size i s at))
