-- The check of a section, item by item: how far it has come, and what is left to check.
use mathlib.Core.Path.{◌≡◌, refl, sym, ◌∙◌}
use mathlib.Core.List.{List, ◌∷◌}
use Prim.Native.Nat.{ℕ, zero, suc, ◌≤◌}
use lib.ListN.{length}
use Rattle.field.specs.Fields.{repeat}
use Rattle.text.specs.Checks.{after}
use Rattle.field.proofs.Local.{ends-inside}
use Rattle.lists.specs.Lists.{check_airfields, check_boxes}
use Rattle.section.specs.Layout.{Item, AirfieldList, BoxList, several, check_item, check_items, table_of, layout_of, digits_of, lists_and_digits}
use Rattle.section.proofs.Local.{item_local}
use Rattle.std.specs.Prelude.{Result, Ok, Err}
use Rattle.text.specs.declared.Refusal.{Refusal}

-- the items `is` from `at` on have been passed up to the items js, which begin at p
pub record Come (is : List Item) (s : List ℕ) (at : ℕ) (js : List Item) (p : ℕ) : Type 0 where
  pub same : check_items is s at ≡ check_items js s p
  pub inside : p ≤ length s

module _ {is : List Item} {s : List ℕ} {at : ℕ} where
  -- one item more
  pub come_on : {i : Item} {js : List Item} {p q : ℕ} → Come is s at (i ∷ js) p → check_item i s p ≡ Ok q → Come is s at js q
  unfolding check_items
  come_on {i} {js} {p} {q} c e =
      record { same = c.same ∙ rw e; inside = ends-inside (check_item i) (item_local i) s p q e c.inside }

  -- an item that is refused
  pub come_stop : {i : Item} {js : List Item} {p : ℕ} {r : Refusal} → Come is s at (i ∷ js) p → check_item i s p ≡ Err r → Err r ≡ check_items is s at
  unfolding check_items
  come_stop c e = sym (c.same ∙ rw e)

  -- the rest decides
  pub come_rest : {js : List Item} {p : ℕ} {r : Result ℕ Refusal} → Come is s at js p → r ≡ check_items js s p → r ≡ check_items is s at
  come_rest c e = e ∙ sym c.same

-- ---- Lists of one kind, one after the other

-- one check and then others, which are two
pub grouped : (x : Result ℕ Refusal) (f g h : ℕ → Result ℕ Refusal) → ((p : ℕ) → f p ≡ after (g p) h) → after x f ≡ after (after x g) h
grouped (Ok p) f g h e = e p
grouped (Err r) f g h e = refl

-- they are checked first
pub lists-first : (i : Item) (n : ℕ) (js : List Item) (s : List ℕ) (at : ℕ)
    → check_items (several i n js) s at ≡ after (repeat (check_item i s) n at) (check_items js s)
unfolding check_items repeat
lists-first i zero js s at = refl
lists-first i (suc n) js s at =
    grouped (check_item i s at) (check_items (several i n js) s) (repeat (check_item i s) n) (check_items js s) (lists-first i n js s)

-- one check and then another, which is the same as a third
pub then_same : (x : Result ℕ Refusal) (f g : ℕ → Result ℕ Refusal) → ((p : ℕ) → f p ≡ g p) → after x f ≡ after x g
then_same (Ok p) f g e = e p
then_same (Err r) f g e = refl

-- a section: its lists of boxes, its lists of airfields, its digits
pub section_parts : (k : ℕ) (s : List ℕ) (at : ℕ)
    → check_items (layout_of k) s at
    ≡ after (repeat (check_boxes s) (table_of k).boxes at)
    (λ p. after (repeat (check_airfields s) (table_of k).airfields p) (check_items (digits_of (table_of k)) s))
unfolding layout_of
section_parts k s at =
    let x = table_of k in
    lists-first BoxList x.boxes (lists_and_digits x) s at
    ∙ then_same (repeat (check_boxes s) x.boxes at) (check_items (lists_and_digits x) s)
    (λ p. after (repeat (check_airfields s) x.airfields p) (check_items (digits_of x) s)) (lists-first AirfieldList x.airfields (digits_of x) s)
