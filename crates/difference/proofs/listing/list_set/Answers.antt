use mathlib.Core.Path.{sym, ◌∙◌}
use Rattle.difference.proofs.Filling.{fill_more, fill_pass, fill_end}
use Rattle.difference.proofs.listing.list_set.Goals as goal
use Rattle.difference.proofs.listing.list_set.Goals.{then-is_set, else-is_set}

pub loop-i-preserved : goal.loop-i-preserved
loop-i-preserved c =
    let l = c.loop-i in
    let more = c.loop-i-test.true in
    elim c.if-is_set.branch [
      | then-is_set w ↦ rw (w.items-is, w.count-is, w.item_at.ensures) (fill_more _ _ l.items l.count l.i l.invariant more (sym c.is_set.ensures ∙ w.if-is_set.true))
      | else-is_set w ↦ rw (w.items-is, w.count-is) (fill_pass _ _ l.items l.count l.i l.invariant more (sym c.is_set.ensures ∙ w.if-is_set.false))
    ]

pub returns : goal.returns
returns c = let l = c.loop-i in fill_end _ _ l.items l.count l.i l.invariant c.loop-i-test.false
