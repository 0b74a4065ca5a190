-- The statement by figures: the log that the events of a night call for, from the definitions of the history alone, and the board's own log.
use mathlib.Core.Path.{◌≡◌, refl}
use mathlib.Core.List.{List, [], ◌∷◌, ◌++◌, map}
use Prim.Native.Nat.{ℕ, ◌-◌, ◌*◌}
use lib.ListN.{replicate}
use Rattle.text.specs.Equal.{same_bytes}
use Rattle.text.specs.Names.{allowed, all_allowed}
use Rattle.text.specs.Over.{over}
use Rattle.text.specs.declared.Code.TheVariants.{BoardFull, NoRoom, NotAllowed, NothingWaits, WrongEnd}
use Rattle.field.specs.Decimal.{all_digits, value_from}
use Rattle.field.specs.Fields.{check_digits, check_delimiter}
use Rattle.section.specs.Layout.{layout_of, table_of, check_items, items_size, items_most}
use Rattle.command.specs.Text.{check_each, check_awr04, check_head, check_from, sections_most, longest, check_command}
use Rattle.command.specs.Sections.{place_from}
use Rattle.join.specs.Join.{choose, join_sections, join_text}
use Rattle.join.proofs.Printed.{first, second, both}
use Rattle.board.specs.Board.{empty_slot, is_free, is_for, any, lowest, waiting, is_valid, Reply, Given, Refused, add, take_out}
use Rattle.board.specs.History.{Event, Add, Take, Entry, since_from, joined, after, logged, member, callers, busy_among, called_for}
use Rattle.board.specs.Lent.{board_of, lengths_fit, is_shaped, add_lent, take_lent, no_slot}
use Rattle.board.specs.Calls.{Lent, after_calls}

abbrev said : Event → Reply → Entry
said e r = record { event = e; reply = r }

abbrev asked : List Entry → List Event
asked log = map (λ (x : Entry). x.event) log

-- `XY0001`, `ZZ0001` and `ZY0001`
abbrev xy : List ℕ
xy = 88 ∷ 89 ∷ 48 ∷ 48 ∷ 48 ∷ 49 ∷ []

abbrev zz : List ℕ
zz = 90 ∷ 90 ∷ 48 ∷ 48 ∷ 48 ∷ 49 ∷ []

abbrev zy : List ℕ
zy = 90 ∷ 89 ∷ 48 ∷ 48 ∷ 48 ∷ 49 ∷ []

-- ---- One slot: two commands for one aircraft, one for another, too little room, two takings, then the other again

abbrev night : List Entry
night =
    said (Add xy first) (Given first)
    ∷ said (Add xy second) (Given both)
    ∷ said (Add zz first) (Refused BoardFull 0)
    ∷ said (Take xy 30) (Refused NoRoom 0)
    ∷ said (Take xy 31) (Given both)
    ∷ said (Take xy 31) (Refused NothingWaits 0)
    ∷ said (Add zz first) (Given first)
    ∷ said (Add zz []) (Refused WrongEnd 0)
    ∷ said (Add [] first) (Refused NotAllowed 0)
    ∷ []

-- no board is named here
night_called : called_for 1 [] (asked night) ≡ night
unfolding called_for since_from joined member callers busy_among same_bytes allowed all_allowed first second both check_command sections_most layout_of table_of items_most items_size check_head check_awr04 check_each check_delimiter check_from check_items check_digits all_digits value_from join_text choose join_sections place_from
night_called = refl

-- a slot that is free, with an old designator in it
night-logged : logged (record { who = zz; text = [] } ∷ []) (asked night) ≡ night
unfolding logged add take_out is_valid any lowest is_for is_free waiting same_bytes allowed all_allowed first second both check_command sections_most layout_of table_of items_most items_size check_head check_awr04 check_each check_delimiter check_from check_items check_digits all_digits value_from join_text choose join_sections place_from
night-logged = refl

-- ---- Two slots: two aircraft, the second taken first

abbrev pair : List Entry
pair =
    said (Add xy first) (Given first)
    ∷ said (Add zz second) (Given second)
    ∷ said (Take zz 31) (Given second)
    ∷ said (Take xy 31) (Given first)
    ∷ []

pair_called : called_for 2 [] (asked pair) ≡ pair
unfolding called_for since_from joined member callers busy_among same_bytes allowed all_allowed first second check_command sections_most layout_of table_of items_most check_head check_awr04 check_each check_delimiter check_from check_items check_digits all_digits value_from
pair_called = refl

pair-logged : logged (record { who = []; text = [] } ∷ record { who = []; text = [] } ∷ []) (asked pair) ≡ pair
unfolding logged add take_out is_valid any lowest is_for is_free waiting same_bytes allowed all_allowed first second check_command sections_most layout_of table_of items_most check_head check_awr04 check_each check_delimiter check_from check_items check_digits all_digits value_from
pair-logged = refl

-- ---- Which slots are used: the lowest free one, the freed one again

abbrev refilled : List Event
refilled = Add xy first ∷ Add zz second ∷ Take xy 31 ∷ Add zy second ∷ []

slots-used : after (empty_slot ∷ empty_slot ∷ empty_slot ∷ []) refilled
    ≡ record { who = zy; text = second } ∷ record { who = zz; text = second } ∷ empty_slot ∷ []
unfolding after add take_out is_valid any lowest is_for is_free waiting same_bytes allowed all_allowed first second check_command sections_most layout_of table_of items_most check_head check_awr04 check_each check_delimiter check_from check_items check_digits all_digits value_from
slots-used = refl

-- ---- And on what is lent: two slots, each with the longest command's bytes

abbrev lent : Lent
lent = record { slots = no_slot ∷ no_slot ∷ []; area = replicate (longest * 2) 0 }

lent-holds : after_calls lent (Add xy first ∷ Add zz second ∷ Take xy 31 ∷ [])
    ≡ record {
      slots = record { designator = xy; length = 0 } ∷ record { designator = zz; length = 31 } ∷ [];
      area = first ++ (replicate (longest - 26) 0 ++ (second ++ replicate (longest - 31) 0));
    }
unfolding after_calls add_lent take_lent is_shaped lengths_fit board_of over add take_out is_valid any lowest is_for is_free waiting same_bytes allowed all_allowed first second check_command sections_most layout_of table_of items_most check_head check_awr04 check_each check_delimiter check_from check_items check_digits all_digits value_from
lent-holds = refl
