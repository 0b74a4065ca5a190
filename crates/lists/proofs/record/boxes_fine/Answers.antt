-- `lists::record::boxes_fine` meets its contract: no boxes, too many, or so many.
use mathlib.Core.Path.{◌≡◌, sym, ◌∙◌}
use mathlib.Core.Bool.{and-true}
use Prim.Native.Nat.{◌+◌}
use borrow.Author.Tests.{le-leb, lt-leb}
use Rattle.lists.specs.Lists.{regions_allowed}
use Rattle.lists.proofs.Fine.{boxes-fine}
use Rattle.lists.proofs.record.boxes_fine.Goals as goal

pub returns-then-n-eq0 : goal.returns-then-n-eq0
unfolding regions_allowed
returns-then-n-eq0 c at =
    let none : c.args.count ≡ 0 = sym c.wide-n.ensures ∙ c.if-n-eq0.true in
    c.regions_zero.ensures ∙ sym (boxes-fine at _ ∙ rw none (and-true _))

pub returns-then-n-le-MOST_BOXES : goal.returns-then-n-le-MOST_BOXES
returns-then-n-le-MOST_BOXES c at =
    rw (c.regions_zero-then-n-le-MOST_BOXES.ensures, c.regions_are.ensures (at + 2), c.wide-n.ensures)
    (sym (boxes-fine at _ ∙ rw (le-leb _ 16 (rw c.wide-n.ensures at c.if-n-le-MOST_BOXES.true))))

pub returns-else-n-le-MOST_BOXES : goal.returns-else-n-le-MOST_BOXES
returns-else-n-le-MOST_BOXES c at = rw (boxes-fine at _, c.wide-n.ensures, lt-leb c.args.count 16 (rw c.wide-n.ensures at c.if-n-le-MOST_BOXES.false))
