use mathlib.Core.Path.{sym, ◌∙◌}
use mathlib.Core.Bool.{and-true}
use native.Mathlib.Omega.{arith}
use borrow.Author.Rules.{rules}
use Rattle.difference.proofs.Equal.{regions_turn, regions_end}
use Rattle.difference.proofs.same.same_regions.Goals as goal

pub loop-i-preserved : goal.loop-i-preserved
loop-i-preserved c =
    let l = c.loop-i in
    let a = c.args in
    (omega arith, l.invariant.1 ∙ rw c.same_region-same.ensures (regions_turn _ l.same a.a a.b l.i (search rules) (search rules)))

pub returns : goal.returns
returns c =
    let a = c.args in
    let l = c.loop-i in
    sym (l.invariant.1 ∙ rw (regions_end a.a a.b l.i (search rules) (search rules)) (and-true l.same))
