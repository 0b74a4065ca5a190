use mathlib.Core.Path.{sym, ◌∙◌}
use Rattle.sheet.proofs.Checked.{checked-length}
use Rattle.sheet.proofs.read.read.Goals as goal

pub take_sheet-requires : goal.take_sheet-requires
take_sheet-requires c = checked-length _ (sym c.check.ensures ∙ c.in_ok-check.was)
