use mathlib.Core.Path.{sym, ◌∙◌}
use Rattle.desk.specs.Tracks.{track_numbers}
use Rattle.desk.proofs.track_calls.esk_report_track.Goals as goal

pub returns-in-Ok : goal.returns-in-Ok
unfolding track_numbers
returns-in-Ok c = rw (sym c.follow.ensures ∙ c.in-Ok.is, c.accepted.ensures)

pub returns-in-Err : goal.returns-in-Err
unfolding track_numbers
returns-in-Err c = rw (sym c.follow.ensures ∙ c.in-Err.is, c.refused.ensures, c.no_point-none.ensures)
