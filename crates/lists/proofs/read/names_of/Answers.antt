-- `lists::read::names_of` meets its contract.
use mathlib.Core.Path.{◌∙◌}
use Rattle.field.proofs.Decimal.{part_cut}
use Rattle.lists.proofs.Fill.{zeros_behind}
use Rattle.lists.proofs.read.names_of.Goals as goal

pub returns : goal.returns
returns c =
    let a = c.args in
    zeros_behind c.copy_from_slice.new.self _ a.k 80 (c.copy_from_slice.ensures.after ∙ part_cut a.s.now a.from a.k)
