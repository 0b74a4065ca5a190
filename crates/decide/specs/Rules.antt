-- Document 01, "Whether to report", sentence by sentence: what is so of the answer r, or of the decision d, to a
-- question that is asked of a configuration. A field is a sentence, in the document's order.
use Rattle.std.specs.Prelude.{◌≡◌, ◌⊎◌, true, false, List, ℕ, ◌<◌, Result, Ok, Err}
use Rattle.text.specs.declared.Code.{Code}
use Rattle.text.specs.declared.Code.TheVariants.{NotAllowed, OutOfRange, SettingsInvalid}
use Rattle.settings.specs.declared.Settings.{Settings}
use Rattle.settings.specs.Valid.{valid}
use Rattle.decide.specs.Question.{Question}
use Rattle.decide.specs.Words.{
  Amdar,
  InhibitHours,
  Regions,
  Airports,
  Enroute,
  flag_of,
  InRange,
  FourAllowed,
  InWindow,
  SomeHolds,
  Has,
  Own,
  of_ascent,
  of_descent,
}
use Rattle.decide.specs.declared.Decision.{Decision}
use Rattle.decide.specs.declared.Decision.TheVariants.{Silent, Routine, Scheme}

abbrev pub Window : Settings → Question → Type 0
Window x q = InWindow x.hours.start x.hours.end q.hour

abbrev pub Inhibiting : Settings → Question → Type 0
Inhibiting x q = SomeHolds x.regions.inhibiting q.north q.east

abbrev pub Reporting : Settings → Question → Type 0
Reporting x q = SomeHolds x.regions.reporting q.north q.east

-- none of the first rules applies, which silence every phase
pub record Heard (x : Settings) (q : Question) : Type 0 where
  pub amdar : flag_of x Amdar ≡ 1
  pub hours : (flag_of x InhibitHours ≡ 0) ⊎ (¬ Window x q)
  pub places : (flag_of x Regions ≡ 0) ⊎ ((¬ Inhibiting x q) × ((x.regions.reporting.count ≡ 0) ⊎ Reporting x q))

-- "Level: routine if the enroute flag is 1, else silent."
pub record Level (x : Settings) (d : Decision) : Type 0 where
  pub on : flag_of x Enroute ≡ 1 → d ≡ Routine
  pub off : flag_of x Enroute ≡ 0 → d ≡ Silent

-- "the flag is 1, the airfield isn't inhibited, and the selected list is empty or has it"
pub record Admitted (own : Own) (airfield : List ℕ) : Type 0 where
  pub flag : own.flag ≡ 1
  pub inhibited : ¬ Has own.inhibited airfield
  pub selected : (own.selected.count ≡ 0) ⊎ Has own.selected airfield

-- "else": one of the three is not so
pub data TurnedAway (own : Own) (airfield : List ℕ) : Type 0 where
  switched_off : own.flag ≡ 0 → TurnedAway own airfield
  inhibited : Has own.inhibited airfield → TurnedAway own airfield
  not_selected : 0 < own.selected.count → ¬ Has own.selected airfield → TurnedAway own airfield

-- "With airports 0, scheme if the ascent flag is 1, else routine if section 6 says 1. With airports 1, scheme if [it is
-- admitted]; else routine if section 3 says 1. Otherwise silent. Descent alike": by what the phase has of its own
pub record Profile (x : Settings) (own : Own) (airfield : List ℕ) (d : Decision) : Type 0 where
  pub scheme : flag_of x Airports ≡ 0 → own.flag ≡ 1 → d ≡ Scheme
  pub routine : flag_of x Airports ≡ 0 → own.flag ≡ 0 → own.section ≡ 1 → d ≡ Routine
  pub silent : flag_of x Airports ≡ 0 → own.flag ≡ 0 → own.section ≡ 0 → d ≡ Silent
  pub listed-scheme : flag_of x Airports ≡ 1 → Admitted own airfield → d ≡ Scheme
  pub listed-routine : flag_of x Airports ≡ 1 → TurnedAway own airfield → x.airports.routine ≡ 1 → d ≡ Routine
  pub listed-silent : flag_of x Airports ≡ 1 → TurnedAway own airfield → x.airports.routine ≡ 0 → d ≡ Silent

-- "Rules in order"
pub record Rules (x : Settings) (q : Question) (d : Decision) : Type 0 where
  pub amdar-off : flag_of x Amdar ≡ 0 → d ≡ Silent
  pub in_window : flag_of x InhibitHours ≡ 1 → Window x q → d ≡ Silent
  pub in_inhibiting : flag_of x Regions ≡ 1 → Inhibiting x q → d ≡ Silent
  pub in_no-reporting : flag_of x Regions ≡ 1 → 0 < x.regions.reporting.count → ¬ Reporting x q → d ≡ Silent
  pub level : Heard x q → q.phase ≡ 1 → Level x d
  pub ascent : Heard x q → q.phase ≡ 0 → Profile x (of_ascent x) q.airfield d
  pub descent : Heard x q → q.phase ≡ 2 → Profile x (of_descent x) q.airfield d

-- a decision by the rules
pub record Decides (x : Settings) (q : Question) (r : Result Decision Code) : Type 0 where
  pub decision : Decision
  pub is : r ≡ Ok decision
  pub rules : Rules x q decision

-- "Refusals: 12, then 5 for phase, hour or position, then 4 for an airfield that isn't four allowed bytes (checked in
-- every phase)"; every other question is decided
pub record Answers (x : Settings) (q : Question) (r : Result Decision Code) : Type 0 where
  pub twelve : valid x ≡ false → r ≡ Err SettingsInvalid
  pub five : valid x ≡ true → ¬ InRange q → r ≡ Err OutOfRange
  pub four : valid x ≡ true → InRange q → ¬ FourAllowed q.airfield → r ≡ Err NotAllowed
  pub decided : valid x ≡ true → InRange q → FourAllowed q.airfield → Decides x q r
