-- The promises of tracks, kept.
use mathlib.Core.Path.{◌≡◌, refl}
use mathlib.Core.List.{List, ◌∷◌}
use Prim.Native.Nat.{ℕ}
use lib.ListN.{replicate}
use Rattle.text.specs.Equal.{same_bytes}
use Rattle.text.specs.Names.{allowed, all_allowed}
use Rattle.packed.specs.Packed.{worth_of, half_of, number, all_solidi, trim, all_digits, spelt, read_packed}
use Rattle.header.specs.Header.{check_header, header_of}
use Rattle.observation.specs.Figures.{read_figure, read_figures}
use Rattle.observation.specs.Observation.{read_position, read_air, read_water, read_fields, read_first, read_later}
use Rattle.report.specs.Report.{later_at, read_laters, check_text, got, read_report, report_of}
use Rattle.caller.specs.Printed.{printed}
use Rattle.track.specs.Track.{no_point, trail, changes, filled, followed_from, followed}
use Rattle.track.specs.declared.Track.{Track}
use Rattle.track.specs.Words.{Follows}
use Rattle.track.proofs.Points.{follows}
use Rattle.track.proofs.Only.{only}
use Rattle.desk.specs.Numbers.{accepted, check_numbers}
use Rattle.desk.specs.Reports.{report_numbers}
use Rattle.desk.specs.Tracks.{track_numbers}
use Rattle.promises.specs.Report.{check, read}
use Rattle.promises.specs.Track.{track, origin, TrackPromises}
use Rattle.promises.proofs.Report.{check-fine, read_is}
use Rattle.std.specs.Prelude.{Result, Ok, Err}
use Rattle.text.specs.declared.Refusal.{Refusal}

one_answer : (s : List ℕ) → (track s).answer ≡ (read s).answer
unfolding track_numbers followed_from report_numbers read_report
one_answer s = go (check_text s)
  where
    go : (x : Result (Unit {0}) Refusal) → (track_numbers (followed_from (got x (report_of s)))).answer ≡ (report_numbers (got x (report_of s))).answer
    go (Ok u) = refl
    go (Err r) = refl

refused : (s : List ℕ) → ¬ ((check s).code ≡ 0) → track s ≡ record { answer = check s; count = 0; spare = 0; points = replicate 8 no_point }
unfolding track_numbers followed_from read_report
refused s n = go (check_text s) n
  where
    go : (x : Result (Unit {0}) Refusal) → ¬ ((check_numbers x).code ≡ 0)
        → track_numbers (followed_from (got x (report_of s))) ≡ record { answer = check_numbers x; count = 0; spare = 0; points = replicate 8 no_point }
    go (Ok u) m = absurd (m refl)
    go (Err r) m = refl

followed_so : (s : List ℕ) → (check s).code ≡ 0 → Follows (read s).report (track s).count (track s).points
unfolding track_numbers followed_from read_report
followed_so s e = let f = check-fine s e in rw (read_is s f, f) (follows s f)

no-spare : (s : List ℕ) → (track s).spare ≡ 0
unfolding track_numbers
no-spare s = go (followed s)
  where
    go : (x : Result Track Refusal) → (track_numbers x).spare ≡ 0
    go (Ok t) = refl
    go (Err r) = refl

printed-one : track printed ≡ record { answer = accepted 0; count = 1; spare = 0; points = origin ∷ replicate 7 no_point }
unfolding printed same_bytes allowed all_allowed worth_of half_of number all_solidi trim all_digits spelt read_packed check_header header_of read_figure read_figures read_position read_air read_water read_fields read_first read_later later_at read_laters check_text report_of read_report changes trail filled followed_from track_numbers
printed-one = refl

pub track_promises : TrackPromises
track_promises =
    record {
      one_answer = one_answer;
      refused = refused;
      follows = followed_so;
      spare = no-spare;
      only = only;
      printed-one = printed-one;
    }
