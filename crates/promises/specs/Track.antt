-- Document 02, §14, "Tracks instead of steps": what is promised of esk_report_track, by the record that esk_report_read gives of
-- the same text. What a point's figures are is said in track/specs/Words.
use Rattle.std.specs.Prelude.{◌≡◌, List, ◌∷◌, ℕ, pos, replicate}
use Rattle.caller.specs.Printed.{printed}
use Rattle.caller.specs.declared.HostFigure.{HostFigure}
use Rattle.caller.specs.declared.HostReport.{HostReport}
use Rattle.track.specs.Track.{followed, no_point}
use Rattle.track.specs.Words.{Follows}
use Rattle.track.specs.declared.HostPoint.{HostPoint}
use Rattle.desk.specs.Numbers.{accepted}
use Rattle.desk.specs.Tracks.{track_numbers}
use Rattle.desk.specs.declared.HostTrack.{HostTrack}
use Rattle.promises.specs.Report.{check, read}

-- what C is told
abbrev pub track : List ℕ → HostTrack
track s = track_numbers (followed s)

abbrev zero : HostFigure
zero = record { number = pos 0; given = 1 }

-- on the equator, the meridian of Greenwich, at the month's beginning
abbrev pub origin : HostPoint
origin = record { latitude = zero; longitude = zero; seconds = zero }

pub record TrackPromises : Type 0 where
  -- "Refusals: those of the report reader"
  pub one_answer : (s : List ℕ) → (track s).answer ≡ (read s).answer
  -- a refusal carries no point
  pub refused : (s : List ℕ) → ¬ ((check s).code ≡ 0)
      → track s ≡ record { answer = check s; count = 0; spare = 0; points = replicate 8 no_point }
  -- an accepted text: a point for each present observation and none else, every figure known exactly where the record gives it up
  -- to there, and the number that it is
  pub follows : (s : List ℕ) → (check s).code ≡ 0 → Follows (read s).report (track s).count (track s).points
  pub spare : (s : List ℕ) → (track s).spare ≡ 0
  -- no other track is so
  pub only : (h : HostReport) (n m : ℕ) (ps qs : List HostPoint) → Follows h n ps → Follows h m qs → (n ≡ m) × (ps ≡ qs)
  -- the printed report: one observation, and all of it known
  pub printed-one : track printed ≡ record { answer = accepted 0; count = 1; spare = 0; points = origin ∷ replicate 7 no_point }
