use borrow.Author.Rules.{rules}
use native.Mathlib.Omega.{arith}
use lib.ListN.{length}
use mathlib.Core.Path.{◌≡◌, sym, ◌∙◌}
use Rattle.lists.proofs.Turns.{to_end, regions_zero_end}
use Rattle.lists.proofs.record.regions_zero.Goals as goal

pub returns : goal.returns
returns c =
    let bs = c.args.regions in
    let full : length bs ≡ 16 = search rules in
    rw (← to_end bs 16 c.args.n (omega arith)) (sym (c.loop-b.invariant ∙ regions_zero_end c.loop-b.zero _ c.loop-b.b-index c.loop-b-test.false))
