-- `settings::section3::airports_at` meets its contract: each list at its place.
use mathlib.Core.Path.{ap}
use lib.Dec.{lit≤, lit<}
use Rattle.field.specs.Fields.{check_airfield}
use Rattle.settings.specs.declared.places.ListPlaces.{ListPlaces}
use Rattle.section.proofs.Walk.{left_item, number_read_lem, list_read}
use Rattle.text.specs.declared.Code.TheVariants.{OutOfRange}
use Rattle.settings.proofs.ListWalk.{left-first, left-second, left-third, left_fourth, left-last}
use Rattle.settings.proofs.section3.airports_at.Goals as goal

pub phases_at-requires : goal.phases_at-requires
phases_at-requires c =
    let first = list_read 20 check_airfield 4 _ _ (left_item (left-first _ _ c.requires.accepted)) in
    let second = list_read 20 check_airfield 4 _ _ (left_item (left-second _ _ c.requires.accepted)) in
    rw (ap (λ (x : ListPlaces). x.second) c.requires.p_value) (record { ascent_in_bounds = (first.0, second.0); ascent_value = first.1; descent_value = second.1 })

pub phases_at-requires-2 : goal.phases_at-requires-2
phases_at-requires-2 c =
    let third = list_read 20 check_airfield 4 _ _ (left_item (left-third _ _ c.requires.accepted)) in
    let fourth = list_read 20 check_airfield 4 _ _ (left_item (left_fourth _ _ c.requires.accepted)) in
    rw (ap (λ (x : ListPlaces). x.third) c.requires.p_value, ap (λ (x : ListPlaces). x.fourth) c.requires.p_value) (record { ascent_in_bounds = (third.0, fourth.0); ascent_value = third.1; descent_value = fourth.1 })

pub small_at-requires : goal.small_at-requires
small_at-requires c =
    rw (ap (λ (x : ListPlaces). x.last) c.requires.p_value)
    (let r = number_read_lem OutOfRange 1 0 1 _ _ (left_item (left-last _ _ c.requires.accepted)) 256 (lit≤ tt) (lit< tt) in record { w_in_bounds = r.0; w_bound = r.1.0; s_value = r.1.1.0; s_bound = r.1.1.1 })
