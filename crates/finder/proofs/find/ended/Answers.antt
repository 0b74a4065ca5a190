-- `finder::find::ended` meets its contract.
use native.Mathlib.Omega.{arith}
use mathlib.Core.Path.{sym, ◌∙◌}
use Rattle.section.specs.Layout.{layout_of}
use Rattle.finder.proofs.Passing.{items-inside}
use Rattle.finder.proofs.find.ended.Goals as goal

pub overflow_sub-result : goal.overflow_sub-result
overflow_sub-result c =
    omega (arith, items-inside (layout_of c.args.k) _ _ _ _ (sym c.pass_section.ensures ∙ c.in_ok-end.was))
