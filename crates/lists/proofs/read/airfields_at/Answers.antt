-- `lists::read::airfields_at` meets its contract.
use native.Mathlib.Omega.{arith}
use lib.Dec.{lit≤}
use Prim.Native.Nat.{◌+◌, ◌*◌, ◌<◌}
use mathlib.Core.Path.{◌≡◌, ◌∙◌}
use Rattle.lists.specs.Lists.{airfields_at, count_at}
use Rattle.lists.proofs.Accepted.{Named, airfields}
use Rattle.lists.proofs.read.airfields_at.Goals as goal
use Rattle.lists.proofs.read.airfields_at.Goals.{After-wide, Start}

-- the list was accepted
named : (c : Start) → let a = c.args in Named a.s.now a.at (a.at + 2 + 4 * count_at a.s.now a.at)
named c = airfields _ _ _ c.requires.at_value

counted : (c : After-wide) → c.wide.result ≡ count_at c.args.s.now c.args.at
counted c = c.wide.ensures ∙ c.small_at-count.ensures

pub small_at-count-requires : goal.small_at-count-requires
small_at-count-requires c =
    let l = named (goal.at.small_at-count-requires c).Start in
    let small : count_at c.args.s.now c.args.at < 256 = omega (arith, l.count.high) in
    record { w_in_bounds = l.count.room; w_bound = lit≤ tt; s_value = l.count.digits; s_bound = small }

pub overflow_add-at : goal.overflow_add-at
overflow_add-at c = omega (arith, (named (goal.at.overflow_add-at c).Start).count.room)

pub overflow_mul-wide : goal.overflow_mul-wide
overflow_mul-wide c = omega (arith, c.wide.ensures)

pub names_of-names-requires : goal.names_of-names-requires
names_of-names-requires c =
    let l = named (goal.at.names_of-names-requires c).Start in
    rw (counted (goal.at.names_of-names-requires c).After-wide) (omega (arith, l.next, l.room), omega (arith, l.count.high))

pub returns : goal.returns
unfolding airfields_at
returns c = rw (c.names_of-names.ensures, counted (goal.at.returns c).After-wide, c.small_at-count.ensures)
