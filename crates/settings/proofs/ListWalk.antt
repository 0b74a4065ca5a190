-- The four lists of an accepted section 3, and the digit behind them, each where it stands.
use mathlib.Core.Path.{◌≡◌}
use mathlib.Core.List.{List, [], ◌∷◌}
use Prim.Native.Nat.{ℕ, ◌+◌, ◌≤◌}
use native.Mathlib.Omega.{arith}
use lib.ListN.{length}
use Rattle.section.specs.Layout.{Item, Digits, number, several, table_of, AirfieldList, layout_of, Accepted, items_size}
use Rattle.section.proofs.Own.{cut_inside}
use Rattle.section.proofs.Walk.{Left, left-all, left-on}
use Rattle.settings.specs.Inner.{lists_at}

abbrev digit : List Item
digit = Digits (number 1 0 1) ∷ []

-- each of them, and the digit behind them, where it stands
module _ (s : List ℕ) (at : ℕ) (e : Accepted 3 s at) where
  pub left-first : Left (several AirfieldList 4 digit) s at (several AirfieldList 4 digit) at
  unfolding layout_of table_of
  left-first = left-all e

  pub left-second : Left (several AirfieldList 4 digit) s at (several AirfieldList 3 digit) (lists_at s at).second
  left-second = left-on left-first

  pub left-third : Left (several AirfieldList 4 digit) s at (several AirfieldList 2 digit) (lists_at s at).third
  left-third = left-on left-second

  pub left_fourth : Left (several AirfieldList 4 digit) s at (several AirfieldList 1 digit) (lists_at s at).fourth
  left_fourth = left-on left-third

  pub left-last : Left (several AirfieldList 4 digit) s at digit (lists_at s at).last
  left-last = left-on left_fourth

  -- the section ends two bytes behind the last
  pub lists-size : at + items_size (layout_of 3) s at ≡ (lists_at s at).last + 2
  unfolding layout_of table_of items_size
  lists-size = omega arith

  -- in the text
  pub lists-inside : (lists_at s at).last + 2 ≤ length s
  lists-inside = rw (← lists-size) (cut_inside (layout_of 3) s at (at + items_size (layout_of 3) s at) e)
