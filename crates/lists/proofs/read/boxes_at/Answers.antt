-- `lists::read::boxes_at` meets its contract.
use native.Mathlib.Omega.{arith}
use lib.Dec.{lit≤}
use Prim.Native.Nat.{◌+◌, ◌*◌, ◌<◌}
use mathlib.Core.Path.{◌≡◌, ◌∙◌}
use Rattle.field.specs.Boxes.{check_box}
use Rattle.lists.specs.Lists.{boxes_at, count_at}
use Rattle.lists.proofs.Accepted.{Counted, counted}
use Rattle.lists.proofs.read.boxes_at.Goals as goal
use Rattle.lists.proofs.read.boxes_at.Goals.{After-wide, Start}

-- the list was accepted
listed : (c : Start) → let a = c.args in Counted 16 check_box a.s.now a.at (a.at + 2 + 14 * count_at a.s.now a.at)
listed c = counted _ _ _ _ _ c.requires.at_value

many : (c : After-wide) → c.wide.result ≡ count_at c.args.s.now c.args.at
many c = c.wide.ensures ∙ c.small_at-count.ensures

pub small_at-count-requires : goal.small_at-count-requires
small_at-count-requires c =
    let l = listed (goal.at.small_at-count-requires c).Start in
    let small : count_at c.args.s.now c.args.at < 256 = omega (arith, l.count.high) in
    record { w_in_bounds = l.count.room; w_bound = lit≤ tt; s_value = l.count.digits; s_bound = small }

pub overflow_add-at : goal.overflow_add-at
overflow_add-at c = omega (arith, (listed (goal.at.overflow_add-at c).Start).count.room)

pub regions_of-regions-requires : goal.regions_of-regions-requires
regions_of-regions-requires c =
    let l = listed (goal.at.regions_of-regions-requires c).Start in
    rw (many (goal.at.regions_of-regions-requires c).After-wide) (record { n_le_most_boxes = l.count.high; from_value = l.entries })

pub returns : goal.returns
unfolding boxes_at
returns c = rw (c.regions_of-regions.ensures, many (goal.at.returns c).After-wide, c.small_at-count.ensures)
