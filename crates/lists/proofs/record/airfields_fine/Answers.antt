-- `lists::record::airfields_fine` meets its contract: no names, too many, or so many.
use mathlib.Core.Path.{sym, ◌∙◌}
use borrow.Author.Tests.{le-leb, lt-leb}
use Rattle.text.specs.Names.{all_allowed}
use Rattle.lists.proofs.Fine.{airfields-fine}
use Rattle.lists.proofs.record.airfields_fine.Goals as goal

pub returns-then-count-eq0 : goal.returns-then-count-eq0
unfolding all_allowed
returns-then-count-eq0 c at = c.zero_from.ensures ∙ sym (airfields-fine at _ ∙ rw c.if-count-eq0.true)

pub returns-then-count-le-MOST_AIRFIELDS : goal.returns-then-count-le-MOST_AIRFIELDS
returns-then-count-le-MOST_AIRFIELDS c at = c.names_fine.ensures ∙ sym (airfields-fine at _ ∙ rw (le-leb _ 20 c.if-count-le-MOST_AIRFIELDS.true))

pub returns-else-count-le-MOST_AIRFIELDS : goal.returns-else-count-le-MOST_AIRFIELDS
returns-else-count-le-MOST_AIRFIELDS c at = sym (airfields-fine at _ ∙ rw (lt-leb _ 20 c.if-count-le-MOST_AIRFIELDS.false))
