-- An accepted section, item by item: where the next item stands, that it was accepted, and what is left.
use mathlib.Core.Path.{◌≡◌, refl, ap, ◌∙◌}
use mathlib.Core.Bool.{true}
use mathlib.Core.List.{List, ◌∷◌}
use Prim.Native.Nat.{ℕ, ◌+◌, ◌*◌, ◌≤◌, ◌<◌}
use native.Mathlib.Omega.{arith}
use lib.ListN.{length}
use Rattle.text.specs.Parts.{part}
use Rattle.field.specs.Decimal.{all_digits, value}
use Rattle.field.specs.Fields.{check_digits}
use Rattle.field.proofs.Accepted.{Both, both, number}
use Rattle.lists.specs.Lists.{count_at, check_list}
use Rattle.lists.proofs.Accepted.{counted}
use Rattle.section.specs.Layout.{Item, check_item, check_items, item_size, items_size}
use Rattle.section.proofs.Local.{item_sized}
use Rattle.section.proofs.Own.{cut_inside}
use Rattle.std.specs.Prelude.{Result, Ok}
use Rattle.text.specs.declared.Refusal.{Refusal}
use Rattle.text.specs.declared.Code.{Code}

-- of the items `is` from `at` on the items js are left, which begin at p
pub record Left (is : List Item) (s : List ℕ) (at : ℕ) (js : List Item) (p : ℕ) : Type 0 where
  pub accepted : check_items js s p ≡ Ok (p + items_size js s p)
  pub size : at + items_size is s at ≡ p + items_size js s p

module _ {is : List Item} {s : List ℕ} {at : ℕ} where
  -- before the first all of them
  pub left-all : check_items is s at ≡ Ok (at + items_size is s at) → Left is s at is at
  left-all e = record { accepted = e; size = refl }

  -- what is left lies in the text
  pub left-inside : {js : List Item} {p : ℕ} → Left is s at js p → p + items_size js s p ≤ length s
  left-inside {js} {p} l = cut_inside js s p (p + items_size js s p) l.accepted

module _ {is : List Item} {s : List ℕ} {at : ℕ} {i : Item} {js : List Item} {p : ℕ} (l : Left is s at (i ∷ js) p) where
  parts : Both (check_item i s p) (check_items js s) (p + items_size (i ∷ js) s p)
  unfolding check_items
  parts = both (check_item i s p) (check_items js s) (p + items_size (i ∷ js) s p) l.accepted

  ends : parts.mid ≡ p + item_size i s p
  ends = (item_sized i).passes s p parts.mid parts.first

  -- the next item was accepted
  pub left_item : check_item i s p ≡ Ok (p + item_size i s p)
  left_item = parts.first ∙ ap Ok ends

  -- behind it one item less is left
  pub left-on : Left is s at js (p + item_size i s p)
  unfolding items_size
  left-on =
      let n = item_size i s p in
      let e : p + (n + items_size js s (p + n)) ≡ p + n + items_size js s (p + n) = omega arith in
      record { accepted = rw ends at parts.second ∙ ap Ok e; size = l.size ∙ e }

-- ---- What the readers of the fields ask

-- a number of w digits
module _ (code : Code) (w least most : ℕ) (s : List ℕ) (at : ℕ) (e : check_digits code w least most s at ≡ Ok (at + w)) where
  pub number_read_lem : (limit : ℕ) → w ≤ 3 → most < limit
      → (at + w ≤ length s) × ((w ≤ 3) × ((all_digits (part at w s) ≡ true) × (value (part at w s) < limit)))
  number_read_lem limit few fits =
      let n = number code w least most s at (at + w) e in
      (n.room, (few, (n.digits, omega (arith, n.high))))

-- the count of a list
module _ (limit : ℕ) (entry : List ℕ → ℕ → Result ℕ Refusal) (w : ℕ) (s : List ℕ) (at : ℕ)
    (e : check_list limit entry s at ≡ Ok (at + (2 + w * count_at s at))) where
  pub count-read : limit ≤ 20 → w ≤ 14
      → (at + 2 ≤ length s) × ((all_digits (part at 2 s) ≡ true) × ((count_at s at ≤ 20) × (w ≤ 14)))
  count-read few short =
      let n = (counted limit entry s at (at + (2 + w * count_at s at)) e).count in
      (n.room, (n.digits, (omega (arith, n.high), short)))

  -- and the list
  pub list_read : (at ≤ length s) × (check_list limit entry s at ≡ Ok (at + 2 + w * count_at s at))
  list_read =
      let n = (counted limit entry s at (at + (2 + w * count_at s at)) e).count in
      let same : at + (2 + w * count_at s at) ≡ at + 2 + w * count_at s at = omega arith in
      (omega (arith, n.room), e ∙ ap Ok same)
