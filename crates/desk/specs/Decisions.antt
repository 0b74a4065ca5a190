-- Whether to report, and why, as the C host gets it.
use Rattle.std.specs.Prelude.{ℕ, Result, Ok, Err}
use Rattle.text.specs.Codes.{number_of}
use Rattle.text.specs.declared.Code.{Code}
use Rattle.decide.specs.declared.Decision.{Decision}
use Rattle.decide.specs.declared.Decision.TheVariants.{Silent, Routine, Scheme}
use Rattle.decide.specs.declared.Reason.{Reason}
use Rattle.decide.specs.declared.Reason.TheVariants.{AmdarOff, Hours, InhibitingBox, NoReportingBox, FlagOn, Digit, FlagOff, AirfieldInhibited, AirfieldNotSelected}
use Rattle.decide.specs.Reason.{decision_of}
use Rattle.desk.specs.declared.HostDecided.{HostDecided}
use Rattle.desk.specs.declared.HostExplained.{HostExplained}

abbrev pub decision_number : Decision → ℕ
decision_number Silent = 0
decision_number Routine = 1
decision_number Scheme = 2

-- the place is always 0
abbrev pub host_decided : ℕ → ℕ → HostDecided
host_decided code decision = record { place = 0; code = code; decision = decision; spare = 0; rest = 0 }

-- a refusal carries nothing but its code and place
abbrev pub decided_numbers : Result Decision Code → HostDecided
decided_numbers (Ok d) = host_decided 0 (decision_number d)
decided_numbers (Err code) = host_decided (number_of code) 0

-- ---- Why: a number for each reason, in document 02's order, and which box, flag or section it names

abbrev pub reason_code : Reason → ℕ
reason_code AmdarOff = 1
reason_code Hours = 2
reason_code (InhibitingBox n) = 3
reason_code NoReportingBox = 4
reason_code (FlagOn n) = 5
reason_code (Digit n) = 6
reason_code (FlagOff n) = 7
reason_code AirfieldInhibited = 8
reason_code AirfieldNotSelected = 9

-- a box from 1; a flag as the command has them, from 1: 5 ascent, 6 enroute, 7 descent; a digit's section: 3, 6 or 8; else 0
abbrev pub reason_number : Reason → ℕ
reason_number AmdarOff = 0
reason_number Hours = 0
reason_number (InhibitingBox n) = n
reason_number NoReportingBox = 0
reason_number (FlagOn n) = n
reason_number (Digit n) = n
reason_number (FlagOff n) = n
reason_number AirfieldInhibited = 0
reason_number AirfieldNotSelected = 0

abbrev pub host_explained : ℕ → ℕ → ℕ → ℕ → HostExplained
host_explained code decision reason number =
    record { place = 0; code = code; decision = decision; reason = reason; number = number; spare = 0 }

-- a refusal carries nothing but its code and place
abbrev pub explained_numbers : Result Reason Code → HostExplained
explained_numbers (Ok r) = host_explained 0 (decision_number (decision_of r)) (reason_code r) (reason_number r)
explained_numbers (Err code) = host_explained (number_of code) 0 0 0
