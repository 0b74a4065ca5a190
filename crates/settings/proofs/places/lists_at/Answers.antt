-- `settings::places::lists_at` meets its contract: from list to list.
use mathlib.Core.Path.{◌≡◌, ap, ◌∙◌}
use lib.Dec.{lit≤}
use Rattle.field.specs.Fields.{check_airfield}
use Rattle.settings.specs.Inner.{behind_list, lists_at}
use Rattle.section.proofs.Walk.{left_item, count-read}
use Rattle.settings.proofs.ListWalk.{left-first, left-second, left-third, left_fourth}
use Rattle.settings.proofs.places.lists_at.Goals as goal
use Rattle.settings.proofs.places.lists_at.Goals.{After-list_end-fourth, After-list_end-second, After-list_end-third}

second : (c : After-list_end-second) → let a = c.args in c.list_end-second.result ≡ (lists_at a.s.now a.at).second
second c = c.list_end-second.ensures

third : (c : After-list_end-third) → let a = c.args in c.list_end-third.result ≡ (lists_at a.s.now a.at).third
third c =
    let second : let a = c.args in c.list_end-second.result ≡ (lists_at a.s.now a.at).second = c.list_end-second.ensures in
    c.list_end-third.ensures ∙ ap (behind_list c.args.s.now) (second)

fourth : (c : After-list_end-fourth) → let a = c.args in c.list_end-fourth.result ≡ (lists_at a.s.now a.at).fourth
fourth c =
    let second : let a = c.args in c.list_end-second.result ≡ (lists_at a.s.now a.at).second = c.list_end-second.ensures in
    let third : let a = c.args in c.list_end-third.result ≡ (lists_at a.s.now a.at).third = c.list_end-third.ensures ∙ ap (behind_list c.args.s.now) (second) in
    c.list_end-fourth.ensures ∙ ap (behind_list c.args.s.now) (third)

pub list_end-second-requires : goal.list_end-second-requires
list_end-second-requires c =
    let r = count-read 20 check_airfield 4 _ _ (left_item (left-first _ _ c.requires)) (lit≤ tt) (lit≤ tt) in
    record { at_in_bounds = r.0; s_value = r.1.0; at_bound = r.1.1 }

pub list_end-third-requires : goal.list_end-third-requires
list_end-third-requires c =
    rw (second (goal.at.list_end-third-requires c).After-list_end-second)
    (let r = count-read 20 check_airfield 4 _ _ (left_item (left-second _ _ c.requires)) (lit≤ tt) (lit≤ tt) in record { at_in_bounds = r.0; s_value = r.1.0; at_bound = r.1.1 })

pub list_end-fourth-requires : goal.list_end-fourth-requires
list_end-fourth-requires c =
    rw (third (goal.at.list_end-fourth-requires c).After-list_end-third)
    (let r = count-read 20 check_airfield 4 _ _ (left_item (left-third _ _ c.requires)) (lit≤ tt) (lit≤ tt) in record { at_in_bounds = r.0; s_value = r.1.0; at_bound = r.1.1 })

pub list_end-last-requires : goal.list_end-last-requires
list_end-last-requires c =
    rw (fourth (goal.at.list_end-last-requires c).After-list_end-fourth)
    (let r = count-read 20 check_airfield 4 _ _ (left_item (left_fourth _ _ c.requires)) (lit≤ tt) (lit≤ tt) in record { at_in_bounds = r.0; s_value = r.1.0; at_bound = r.1.1 })

pub returns : goal.returns
returns c = rw (c.list_end-last.ensures, fourth (goal.at.returns c).After-list_end-fourth, third (goal.at.returns c).After-list_end-third, second (goal.at.returns c).After-list_end-second)
