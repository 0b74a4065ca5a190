-- `finder::pass::to_end` meets its contract.
use mathlib.Core.Path.{sym, ◌∙◌}
use borrow.Author.Tests.{le-leb, lt-leb}
use Rattle.section.specs.Layout.{table_of}
use Rattle.finder.specs.Finding.{pass_items}
use Rattle.finder.proofs.Sizes.{digits-passed}
use Rattle.finder.proofs.pass.to_end.Goals as goal

pub returns-then-s-end : goal.returns-then-s-end
unfolding pass_items
returns-then-s-end c =
    rw c.at.ensures
    (sym (digits-passed (table_of c.args.k).rows _ _ _ ∙ rw (lt-leb _ _ (rw c.digits_size.ensures.0 at c.if-s-end.true))))

pub returns : goal.returns
unfolding pass_items
returns c =
    sym
    (digits-passed (table_of c.args.k).rows _ _ _
    ∙ rw (le-leb _ _ (rw c.digits_size.ensures.0 at c.if-s-end.false), c.digits_size.ensures.0))
