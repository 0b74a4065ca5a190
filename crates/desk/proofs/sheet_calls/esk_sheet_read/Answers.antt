use mathlib.Core.Path.{sym, ◌∙◌}
use Rattle.desk.specs.Sheets.{sheet_numbers}
use Rattle.desk.proofs.sheet_calls.esk_sheet_read.Goals as goal

pub returns-in-Ok : goal.returns-in-Ok
unfolding sheet_numbers
returns-in-Ok c = rw (sym c.read.ensures ∙ c.in-Ok.is, c.accepted.ensures)

pub returns-in-Err : goal.returns-in-Err
unfolding sheet_numbers
returns-in-Err c = rw (sym c.read.ensures ∙ c.in-Err.is, c.refused.ensures, c.no_sheet.ensures)
