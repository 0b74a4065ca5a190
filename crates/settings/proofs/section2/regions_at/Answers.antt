-- `settings::section2::regions_at` meets its contract.
use mathlib.Core.List.{List, ◌∷◌, []}
use lib.Dec.{lit≤}
use Rattle.field.specs.Boxes.{check_box}
use Rattle.section.specs.Layout.{Item, BoxList, layout_of, table_of}
use Rattle.section.proofs.Walk.{Left, left-all, left_item, left-on, count-read, list_read}
use Rattle.settings.proofs.section2.regions_at.Goals as goal
use Rattle.settings.proofs.section2.regions_at.Goals.{Start}

abbrev items : List Item
items = BoxList ∷ BoxList ∷ []

-- the section was accepted
left : (c : Start) → let a = c.args in Left items a.s.now a.at items a.at
unfolding layout_of table_of
left c = left-all c.requires

pub list_end-requires : goal.list_end-requires
list_end-requires c =
    let r = count-read 16 check_box 14 _ _ (left_item (left (goal.at.list_end-requires c).Start)) (lit≤ tt) (lit≤ tt) in
    record { at_in_bounds = r.0; s_value = r.1.0; at_bound = r.1.1 }

pub boxes_at-requires : goal.boxes_at-requires
boxes_at-requires c =
    let r = list_read 16 check_box 14 _ _ (left_item (left (goal.at.boxes_at-requires c).Start)) in
    record { at_in_bounds = r.0; at_value = r.1 }

pub boxes_at-requires-2 : goal.boxes_at-requires-2
boxes_at-requires-2 c =
    rw c.list_end.ensures
    (let r = list_read 16 check_box 14 _ _ (left_item (left-on (left (goal.at.boxes_at-requires-2 c).Start))) in record { at_in_bounds = r.0; at_value = r.1 })
