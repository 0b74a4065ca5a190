use borrow.Author.Rules.{rules}
use native.Mathlib.Omega.{arith}
use mathlib.Core.Path.{◌≡◌, sym, ◌∙◌}
use lib.ListN.{length}
use Rattle.lists.proofs.Turns.{zero_turn, zero_end}
use Rattle.section.proofs.numbers.are_zero.Goals as goal
use Rattle.section.proofs.numbers.are_zero.Goals.{Start}

eight : (c : Start) → length c.args.v ≡ 8
eight c = search rules

pub loop-x-preserved : goal.loop-x-preserved
loop-x-preserved c =
    let l = c.loop-x in
    l.invariant ∙ zero_turn l.zero c.args.v l.x-index (omega (arith, eight (goal.at.loop-x-preserved c).Start, c.loop-x-test.true))

pub returns : goal.returns
returns c =
    let l = c.loop-x in
    sym (l.invariant ∙ zero_end l.zero c.args.v l.x-index (omega (arith, eight (goal.at.returns c).Start, c.loop-x-test.false)))
