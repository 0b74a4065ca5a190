-- Document 01, "Whether to report", walked once: the first reason that holds, as document 02, §1, names them. The decision
-- is read off the reason.
use Rattle.std.specs.Prelude.{Bool, true, false, cond, ◌&&◌, ◌||◌, List, ℕ, ltb, eqb, Result, Ok, Err}
use Rattle.text.specs.declared.Code.{Code}
use Rattle.text.specs.declared.Code.TheVariants.{NotAllowed, OutOfRange, SettingsInvalid}
use Rattle.lists.specs.declared.Airfields.{Airfields}
use Rattle.lists.specs.declared.Boxes.{Boxes}
use Rattle.settings.specs.declared.Settings.{Settings}
use Rattle.settings.specs.Valid.{valid}
use Rattle.decide.specs.Question.{Question}
use Rattle.decide.specs.Words.{Amdar, InhibitHours, Regions, Airports, Ascent, Enroute, Descent, flag_of}
use Rattle.decide.specs.Tests.{in_range, is_airfield, is_in_window, minutes, first_holding, has}
use Rattle.decide.specs.declared.Decision.{Decision}
use Rattle.decide.specs.declared.Decision.TheVariants.{Silent, Routine, Scheme}
use Rattle.decide.specs.declared.Reason.{Reason}
use Rattle.decide.specs.declared.Reason.TheVariants.{AmdarOff, Hours, InhibitingBox, NoReportingBox, FlagOn, Digit, FlagOff, AirfieldInhibited, AirfieldNotSelected}

-- ---- What a reason decides

-- an enroute flag of 1 is routine, an ascent or descent flag of 1 a scheme
abbrev pub by_flag : ℕ → Decision
by_flag flag = cond (eqb flag 6) Routine Scheme

abbrev pub decision_of : Reason → Decision
decision_of AmdarOff = Silent
decision_of Hours = Silent
decision_of (InhibitingBox n) = Silent
decision_of NoReportingBox = Silent
decision_of (FlagOn flag) = by_flag flag
decision_of (Digit section) = Routine
decision_of (FlagOff flag) = Silent
decision_of AirfieldInhibited = Silent
decision_of AirfieldNotSelected = Silent

-- ---- The boxes of section 2, where the regions flag is 1

-- the number of the inhibiting box that holds the position, 0 where none does
unfoldable pub inhibiting_box : ℕ → Boxes → ℕ → ℕ → ℕ
inhibiting_box flag inhibiting north east = cond (eqb flag 1) (first_holding inhibiting north east) 0

-- whether reporting boxes exist and none holds the position
unfoldable pub no_reporting_box : ℕ → Boxes → ℕ → ℕ → Bool
no_reporting_box flag reporting north east =
    eqb flag 1 && (ltb 0 reporting.count && eqb (first_holding reporting north east) 0)

-- ---- The phases. The flags are numbered from 1: 5 ascent, 6 enroute, 7 descent

-- a scheme by the phase's flag; else the first of: flag 0, and with airports 1 airfield inhibited, airfield not selected
unfoldable pub scheme_reason : ℕ → ℕ → ℕ → Airfields → Airfields → List ℕ → Reason
scheme_reason airports number flag selected inhibited a =
    cond (eqb flag 1)
    (cond (eqb airports 0) (FlagOn number)
    (cond (has inhibited a) AirfieldInhibited
    (cond (eqb selected.count 0 || has selected a) (FlagOn number) AirfieldNotSelected)))
    (FlagOff number)

abbrev pub is_silent : Decision → Bool
is_silent Silent = true
is_silent Routine = false
is_silent Scheme = false

-- else routine if a section's digit says 1
abbrev pub or_routine : ℕ → ℕ → Reason → Reason
or_routine section digit r = cond (is_silent (decision_of r) && eqb digit 1) (Digit section) r

-- with airports 0 the phase's own section says so, with airports 1 section 3
abbrev pub routine_by : ℕ → ℕ → ℕ → ℕ → Reason → Reason
routine_by airports section own third r = cond (eqb airports 0) (or_routine section own r) (or_routine 3 third r)

-- the enroute flag alone decides level flight; ascent, and descent alike with its own flag, lists and section
unfoldable pub phase_reason : Settings → ℕ → List ℕ → Reason
phase_reason x phase airfield =
    cond (eqb phase 1) (cond (eqb (flag_of x Enroute) 1) (FlagOn 6) (FlagOff 6))
    (cond (eqb phase 0)
    (routine_by (flag_of x Airports) 6 x.routine6 x.airports.routine
    (scheme_reason (flag_of x Airports) 5 (flag_of x Ascent) x.airports.selected.ascent x.airports.inhibited.ascent airfield))
    (routine_by (flag_of x Airports) 8 x.routine8 x.airports.routine
    (scheme_reason (flag_of x Airports) 7 (flag_of x Descent) x.airports.selected.descent x.airports.inhibited.descent airfield)))

-- ---- Rules in order

unfoldable pub reason_for : Settings → Question → Reason
reason_for x q =
    let inhibiting = inhibiting_box (flag_of x Regions) x.regions.inhibiting (minutes q.north) (minutes q.east) in
    let outside = no_reporting_box (flag_of x Regions) x.regions.reporting (minutes q.north) (minutes q.east) in
    cond (eqb (flag_of x Amdar) 0) AmdarOff
    (cond (eqb (flag_of x InhibitHours) 1 && is_in_window x.hours.start x.hours.end q.hour) Hours
    (cond (ltb 0 inhibiting) (InhibitingBox inhibiting)
    (cond outside NoReportingBox
    (phase_reason x q.phase q.airfield))))

-- ---- Refusals: 12, then 5 for phase, hour or position, then 4 for an airfield that isn't four allowed bytes

unfoldable pub explained : Settings → Question → Result Reason Code
explained x q =
    cond (valid x)
    (cond (in_range q)
    (cond (is_airfield q.airfield) (Ok (reason_for x q)) (Err NotAllowed))
    (Err OutOfRange))
    (Err SettingsInvalid)

-- the decision, or the same refusal
abbrev pub decided_by : Result Reason Code → Result Decision Code
decided_by (Ok r) = Ok (decision_of r)
decided_by (Err code) = Err code

unfoldable pub decided : Settings → Question → Result Decision Code
decided x q = decided_by (explained x q)
