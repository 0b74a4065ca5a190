use borrow.Author.Rules.{rules}
use native.Mathlib.Omega.{arith}
use mathlib.Core.Path.{◌≡◌, sym, ◌∙◌}
use lib.ListN.{length}
use Rattle.settings.proofs.Pieces.{valid_turn, valid_end}
use Rattle.settings.proofs.valid.are_valid.Goals as goal
use Rattle.settings.proofs.valid.are_valid.Goals.{Start}

seven : (c : Start) → length c.args.flags ≡ 7
seven c = search rules

pub loop-flag-preserved : goal.loop-flag-preserved
loop-flag-preserved c =
    let l = c.loop-flag in
    l.invariant
    ∙ valid_turn l.fine c.args.flags l.flag-index (omega (arith, seven (goal.at.loop-flag-preserved c).Start, c.loop-flag-test.true))

pub returns : goal.returns
returns c =
    let l = c.loop-flag in
    sym (l.invariant ∙ valid_end l.fine c.args.flags l.flag-index (omega (arith, seven (goal.at.returns c).Start, c.loop-flag-test.false)))
