-- `lists::record::regions_allowed` meets its contract.
use mathlib.Core.Path.{sym, ◌∙◌}
use Rattle.text.proofs.Checks.{fine-is}
use Rattle.lists.proofs.record.regions_allowed.Goals as goal

pub returns-then-regions_are : goal.returns-then-regions_are
returns-then-regions_are c = sym (fine-is _ (sym (c.regions_are.ensures c.args.at) ∙ c.if-regions_are.true))
