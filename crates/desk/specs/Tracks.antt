-- The answer of following a report, as the C host gets it.
use Rattle.std.specs.Prelude.{Result, Ok, Err, replicate}
use Rattle.text.specs.declared.Refusal.{Refusal}
use Rattle.track.specs.declared.Track.{Track}
use Rattle.track.specs.Track.{no_point}
use Rattle.desk.specs.Numbers.{accepted, refused}
use Rattle.desk.specs.declared.HostTrack.{HostTrack}

-- following gives no length; a refusal carries no point
unfoldable pub track_numbers : Result Track Refusal → HostTrack
track_numbers (Ok t) = record { answer = accepted 0; count = t.count; spare = 0; points = t.points }
track_numbers (Err r) = record { answer = refused r; count = 0; spare = 0; points = replicate 8 no_point }
