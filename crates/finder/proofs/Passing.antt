-- Sections passed over by their counts: how far that comes, and that an accepted section is passed over whole.
use mathlib.Core.Path.{◌≡◌, refl, sym, ap, ◌∙◌}
use mathlib.Core.Bool.{true, false}
use mathlib.Core.List.{List, [], ◌∷◌}
use Prim.Native.Nat.{ℕ, zero, suc, ◌+◌, ◌*◌, ◌≤◌, ◌<◌}
use native.Mathlib.Omega.{arith}
use native.Mathlib.Nat.{mul-le-mul}
use lib.Dec.{leb}
use lib.ListN.{length}
use borrow.Author.Tests.{le-leb, lt-leb}
use Rattle.text.proofs.Cases.{by_test, by_le}
use Rattle.field.specs.Fields.{check_number, check_airfield, repeat}
use Rattle.text.specs.Checks.{after, refuse}
use Rattle.field.specs.Boxes.{check_box}
use Rattle.field.proofs.Accepted.{Number, number, stop_next, next-same, delimiter}
use Rattle.field.proofs.Number.{digits-fine}
use Rattle.field.proofs.Local.{after-cases}
use Rattle.lists.specs.Lists.{count_at, check_list}
use Rattle.lists.proofs.Accepted.{counted}
use Rattle.section.specs.Layout.{Item, Digits, AirfieldList, BoxList, several, check_item, check_items, table_of, layout_of, digits_of, lists_and_digits}
use Rattle.section.proofs.Come.{grouped, then_same}
use Rattle.section.proofs.Local.{item_sized}
use Rattle.finder.specs.Finding.{pass_list, pass_item, pass_items}
use Rattle.std.specs.Prelude.{Result, Ok, Err}
use Rattle.text.specs.declared.Refusal.{Refusal}
use Rattle.text.specs.declared.Code.TheVariants.{OutOfRange, WrongEnd}

-- ---- One list

module _ (most w : ℕ) (s : List ℕ) (start at : ℕ) where
  -- it would begin past the end
  pub list-past : length s < at → pass_list most w s start at ≡ refuse WrongEnd start
  unfolding pass_list
  list-past h = rw (lt-leb at (length s) h)

  -- its count is refused
  pub list_stop : (r : Refusal) → at ≤ length s → check_number 2 0 most s at ≡ Err r → pass_list most w s start at ≡ Err r
  unfolding pass_list
  list_stop r h e = rw (le-leb at (length s) h, e)

  -- its count is accepted
  pub list-next : (p : ℕ) → at ≤ length s → check_number 2 0 most s at ≡ Ok p → pass_list most w s start at ≡ Ok (p + w * count_at s at)
  unfolding pass_list
  list-next p h e = rw (le-leb at (length s) h, e)

-- a list that is passed over had its count in the text
pub record Counted (most w : ℕ) (s : List ℕ) (at p : ℕ) : Type 0 where
  pub count : Number 2 0 most s at (at + 2)
  pub ends : p ≡ at + 2 + w * count_at s at

pub list_counted : (most w : ℕ) (s : List ℕ) (start at p : ℕ) → pass_list most w s start at ≡ Ok p → Counted most w s at p
unfolding pass_list
list_counted most w s start at p e =
    by_test (leb at (length s))
    (λ (l : leb at (length s) ≡ true).
    after-cases (check_number 2 0 most s at) (λ first. Ok (first + w * count_at s at)) p (rw l at e)
    (λ q (c : check_number 2 0 most s at ≡ Ok q) (d : Ok (q + w * count_at s at) ≡ Ok p).
    let n = number OutOfRange 2 0 most s at q c in
    let m : q ≡ at + 2 = sym n.next in
    record { count = rw m at n; ends = sym (next-same d) ∙ ap (λ (r : ℕ). r + w * count_at s at) m }))
    (λ (l : leb at (length s) ≡ false). stop_next WrongEnd start p (rw l at e))

-- no further than the entries of a full list behind the end
pub list_reaches : (most w : ℕ) (s : List ℕ) (start at p : ℕ) → most ≤ 20 → w ≤ 14 → pass_list most w s start at ≡ Ok p → p ≤ length s + 280
list_reaches most w s start at p few short e =
    let c = list_counted most w s start at p e in
    let high : count_at s at ≤ 20 = omega (arith, c.count.high) in
    omega (arith, c.count.room, c.ends, mul-le-mul short high)

-- ---- What the check accepts is passed over whole

list-accepted : (most w : ℕ) (entry : List ℕ → ℕ → Result ℕ Refusal) (s : List ℕ) (start at p : ℕ)
    → check_list most entry s at ≡ Ok p → p ≡ at + (2 + w * count_at s at) → pass_list most w s start at ≡ Ok p
list-accepted most w entry s start at p e d =
    let n = (counted most entry s at p e).count in
    list-next most w s start at (at + 2) (omega (arith, n.room)) (digits-fine OutOfRange 2 0 most s at n.room n.digits n.low n.high)
    ∙ ap Ok (omega arith)

-- an item
pub item_accepted : (i : Item) (s : List ℕ) (start at p : ℕ) → check_item i s at ≡ Ok p → pass_item i s start at ≡ Ok p
item_accepted (Digits r) s start at p e = ap Ok (sym ((item_sized (Digits r)).passes s at p e))
item_accepted AirfieldList s start at p e = list-accepted 20 4 check_airfield s start at p e ((item_sized AirfieldList).passes s at p e)
item_accepted BoxList s start at p e = list-accepted 16 14 check_box s start at p e ((item_sized BoxList).passes s at p e)

-- and a section
pub items-accepted : (is : List Item) (s : List ℕ) (start at p : ℕ) → check_items is s at ≡ Ok p → pass_items is s start at ≡ Ok p
unfolding check_items pass_items
items-accepted [] s start at p e =
    let d = delimiter s at p e in
    rw (le-leb (at + 1) (length s) d.0) (ap Ok d.2)
items-accepted (i ∷ is) s start at p e =
    after-cases (check_item i s at) (check_items is s) p e
    (λ q (c : check_item i s at ≡ Ok q) (d : check_items is s q ≡ Ok p).
    rw (item_accepted i s start at q c) (items-accepted is s start q p d))

-- ---- Lists of one kind, one after the other

-- they are passed over first
pub lists-first : (i : Item) (n : ℕ) (js : List Item) (s : List ℕ) (start at : ℕ)
    → pass_items (several i n js) s start at ≡ after (repeat (pass_item i s start) n at) (pass_items js s start)
unfolding pass_items repeat
lists-first i zero js s start at = refl
lists-first i (suc n) js s start at =
    grouped (pass_item i s start at) (pass_items (several i n js) s start) (repeat (pass_item i s start) n) (pass_items js s start)
    (lists-first i n js s start)

-- a section: its lists of boxes, its lists of airfields, its digits
pub section_parts : (k : ℕ) (s : List ℕ) (start at : ℕ)
    → pass_items (layout_of k) s start at
    ≡ after (repeat (pass_list 16 14 s start) (table_of k).boxes at)
    (λ p. after (repeat (pass_list 20 4 s start) (table_of k).airfields p) (pass_items (digits_of (table_of k)) s start))
unfolding layout_of
section_parts k s start at =
    let x = table_of k in
    lists-first BoxList x.boxes (lists_and_digits x) s start at
    ∙ then_same (repeat (pass_list 16 14 s start) x.boxes at) (pass_items (lists_and_digits x) s start)
    (λ p. after (repeat (pass_list 20 4 s start) x.airfields p) (pass_items (digits_of x) s start))
    (lists-first AirfieldList x.airfields (digits_of x) s start)

-- n lists come no further than one
pub lists_reach : (most w : ℕ) (s : List ℕ) (start n at p : ℕ) → repeat (pass_list most w s start) n at ≡ Ok p
    → most ≤ 20 → w ≤ 14 → at ≤ length s + 280 → p ≤ length s + 280
unfolding repeat
lists_reach most w s start zero at p e few short h = rw (← next-same e) h
lists_reach most w s start (suc n) at p e few short h =
    after-cases (pass_list most w s start at) (repeat (pass_list most w s start) n) p e
    (λ q (c : pass_list most w s start at ≡ Ok q) (d : repeat (pass_list most w s start) n q ≡ Ok p).
    lists_reach most w s start n q p d few short (list_reaches most w s start at q few short c))

-- ---- A section

-- it ends in the text, behind where it began
pub items-inside : (is : List Item) (s : List ℕ) (start at p : ℕ) → pass_items is s start at ≡ Ok p → (at < p) × (p ≤ length s)
unfolding pass_items
items-inside [] s start at p e =
    by_le (at + 1) (length s)
    (λ (l : at + 1 ≤ length s).
    let d : at + 1 ≡ p = next-same (rw (le-leb (at + 1) (length s) l) at e) in
    omega arith)
    (λ (l : length s < at + 1). stop_next WrongEnd start p (rw (lt-leb (at + 1) (length s) l) at e))
items-inside (i ∷ is) s start at p e =
    after-cases (pass_item i s start at) (pass_items is s start) p e
    (λ q (c : pass_item i s start at ≡ Ok q) (d : pass_items is s start q ≡ Ok p).
    let o = onward i s start at q c in
    let r = items-inside is s start q p d in
    omega arith)
  where
    onward : (i : Item) (s : List ℕ) (start at q : ℕ) → pass_item i s start at ≡ Ok q → at ≤ q
    onward (Digits r) s start at q c = let d : at + r.width ≡ q = next-same c in omega arith
    onward AirfieldList s start at q c = omega (arith, (list_counted 20 4 s start at q c).ends)
    onward BoxList s start at q c = omega (arith, (list_counted 16 14 s start at q c).ends)
