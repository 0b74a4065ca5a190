use mathlib.Core.Path.{sym, ◌∙◌}
use Rattle.desk.specs.Reports.{report_numbers}
use Rattle.desk.proofs.report_calls.esk_report_read.Goals as goal
use Rattle.desk.proofs.report_calls.esk_report_read.Goals.{in-Ok, in-Err}

pub returns : goal.returns
unfolding report_numbers
returns c =
    elim c.match-read.branch [
      | in-Ok w ↦ rw (sym c.read.ensures ∙ w.in-Ok.is, c.host_report.ensures, w.t-11-is, w.accepted.ensures)
      | in-Err w ↦ rw (sym c.read.ensures ∙ w.in-Err.is, c.host_report.ensures, w.t-11-is, w.refused.ensures, w.no_report.ensures)
    ]
