use mathlib.Core.Path.{◌≡◌, refl, sym, ◌∙◌}
use Prim.Native.Nat.{◌+◌}
use native.Mathlib.Omega.{arith}
use mathlib.Core.Bool.{cond}
use lib.Dec.{eqb}
use lib.ListN.{length}
use Rattle.lists.specs.Lists.{boxes_allowed, boxes_text}
use Rattle.section.specs.Layout.{layout_of, table_of}
use Rattle.section.specs.Contents.{contents_allowed}
use Rattle.settings.proofs.Fine.{two-fine, all_turn}
use Rattle.settings.proofs.section2.regions_fine.Goals as goal

pub loop-l-init : goal.loop-l-init
loop-l-init c = λ at. refl

pub loop-l-preserved : goal.loop-l-preserved
loop-l-preserved c = λ at. rw (c.loop-l.invariant at, c.boxes_fine-fine.ensures (at c.loop-l.l-index)) (all_turn at c.loop-l.l-index _)

pub returns : goal.returns
unfolding layout_of table_of contents_allowed
returns c at =
    let x = c.args.x in
    let second = at + length (boxes_text x.reporting) in
    let both : c.loop-l.l-index ≡ 2 = omega arith in
    c.loop-l.invariant (λ n. cond (eqb n 0) at second)
    ∙ rw both (sym (two-fine (boxes_allowed at x.reporting) (boxes_allowed second x.inhibiting)))
