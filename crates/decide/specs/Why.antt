-- Document 02, §1, "Say why it stayed silent": when each reason is given, in document 01's words. A field is a sentence.
use Rattle.std.specs.Prelude.{◌≡◌, ◌⊎◌, List, ℕ, ◌<◌}
use Rattle.settings.specs.declared.Settings.{Settings}
use Rattle.decide.specs.Question.{Question}
use Rattle.decide.specs.Words.{Amdar, InhibitHours, Regions, Airports, Enroute, flag_of, number_of, FirstHolding, Has, Own, own_of}
use Rattle.decide.specs.Rules.{Window, Inhibiting, Reporting, Heard, Admitted}
use Rattle.decide.specs.declared.Reason.{Reason}
use Rattle.decide.specs.declared.Reason.TheVariants.{AmdarOff, Hours, InhibitingBox, NoReportingBox, FlagOn, Digit, FlagOff, AirfieldInhibited, AirfieldNotSelected}

-- ---- "The first reason that holds: AMDAR off, hours, an inhibiting box with its lowest number (from 1), no reporting box
-- holds the place."

-- the AMDAR flag is 1, and the hour is not in a window that counts
pub record Awake (x : Settings) (q : Question) : Type 0 where
  pub amdar : flag_of x Amdar ≡ 1
  pub hours : (flag_of x InhibitHours ≡ 0) ⊎ (¬ Window x q)

pub record ByHours (x : Settings) (q : Question) : Type 0 where
  pub amdar : flag_of x Amdar ≡ 1
  pub flag : flag_of x InhibitHours ≡ 1
  pub window : Window x q

pub record ByBox (x : Settings) (q : Question) (n : ℕ) : Type 0 where
  pub awake : Awake x q
  pub flag : flag_of x Regions ≡ 1
  pub box : FirstHolding x.regions.inhibiting q.north q.east n

pub record ByNoBox (x : Settings) (q : Question) : Type 0 where
  pub awake : Awake x q
  pub flag : flag_of x Regions ≡ 1
  pub inside : ¬ Inhibiting x q
  pub some : 0 < x.regions.reporting.count
  pub none : ¬ Reporting x q

-- ---- "Past these": none of the four is so (Heard), in level flight, or in ascent or descent (Climbs)

pub record Levels (x : Settings) (q : Question) : Type 0 where
  pub heard : Heard x q
  pub level : q.phase ≡ 1

pub record Climbs (x : Settings) (q : Question) : Type 0 where
  pub heard : Heard x q
  pub profile : ¬ (q.phase ≡ 1)

-- a scheme is flown: the phase's flag is 1 and, with airports 1, its lists admit the airfield
pub data Flies (x : Settings) (own : Own) (airfield : List ℕ) : Type 0 where
  without_lists : flag_of x Airports ≡ 0 → own.flag ≡ 1 → Flies x own airfield
  with_lists : flag_of x Airports ≡ 1 → Admitted own airfield → Flies x own airfield

-- the digit that says whether it is routine: with airports 0 that of the phase's own section, with airports 1 that of section 3
pub data DigitSays (x : Settings) (own : Own) (digit section : ℕ) : Type 0 where
  own_section : flag_of x Airports ≡ 0 → own.section ≡ digit → section ≡ own.section_number → DigitSays x own digit section
  section3 : flag_of x Airports ≡ 1 → x.airports.routine ≡ digit → section ≡ 3 → DigitSays x own digit section

-- "a scheme or any level answer names the phase flag", ..
pub data ByFlagOn (x : Settings) (q : Question) (n : ℕ) : Type 0 where
  level_on : Levels x q → flag_of x Enroute ≡ 1 → n ≡ number_of Enroute → ByFlagOn x q n
  scheme_on : Climbs x q → Flies x (own_of x q) q.airfield → n ≡ (own_of x q).flag_number → ByFlagOn x q n

-- "a routine in ascent or descent its digit", ..
pub record ByDigit (x : Settings) (q : Question) (section : ℕ) : Type 0 where
  pub climbs : Climbs x q
  pub no-scheme : ¬ Flies x (own_of x q) q.airfield
  pub digit : DigitSays x (own_of x q) 1 section

-- "silence the first of phase flag 0, airfield inhibited, airfield not selected"
pub record Quiet (x : Settings) (q : Question) : Type 0 where
  pub climbs : Climbs x q
  pub section : ℕ
  pub digit : DigitSays x (own_of x q) 0 section

pub data ByFlagOff (x : Settings) (q : Question) (n : ℕ) : Type 0 where
  level_off : Levels x q → flag_of x Enroute ≡ 0 → n ≡ number_of Enroute → ByFlagOff x q n
  silent_off : Quiet x q → (own_of x q).flag ≡ 0 → n ≡ (own_of x q).flag_number → ByFlagOff x q n

pub record ByInhibited (x : Settings) (q : Question) : Type 0 where
  pub quiet : Quiet x q
  pub flag : (own_of x q).flag ≡ 1
  pub airports : flag_of x Airports ≡ 1
  pub inhibited : Has (own_of x q).inhibited q.airfield

pub record ByNotSelected (x : Settings) (q : Question) : Type 0 where
  pub quiet : Quiet x q
  pub flag : (own_of x q).flag ≡ 1
  pub airports : flag_of x Airports ≡ 1
  pub inhibited : ¬ Has (own_of x q).inhibited q.airfield
  pub some : 0 < (own_of x q).selected.count
  pub selected : ¬ Has (own_of x q).selected q.airfield

-- ---- When a reason is the one that is given

abbrev pub When : Settings → Question → Reason → Type 0
When x q AmdarOff = flag_of x Amdar ≡ 0
When x q Hours = ByHours x q
When x q (InhibitingBox n) = ByBox x q n
When x q NoReportingBox = ByNoBox x q
When x q (FlagOn n) = ByFlagOn x q n
When x q (Digit section) = ByDigit x q section
When x q (FlagOff n) = ByFlagOff x q n
When x q AirfieldInhibited = ByInhibited x q
When x q AirfieldNotSelected = ByNotSelected x q
