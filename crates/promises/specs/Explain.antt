-- Document 02, §1, "Say why it stayed silent": what is promised of esk_explain. When each reason is given is said in
-- decide/specs/Why, over the words of decide/specs/Words.
use Rattle.std.specs.Prelude.{◌≡◌, ◌↔◌, true, ℕ, ◌≤◌}
use Rattle.settings.specs.declared.Settings.{Settings}
use Rattle.settings.specs.Valid.{valid}
use Rattle.decide.specs.Question.{Question}
use Rattle.decide.specs.Reason.{decided, explained}
use Rattle.decide.specs.Words.{Amdar, flag_of, InRange, FourAllowed}
use Rattle.decide.specs.Why.{ByHours, ByBox, ByNoBox, ByFlagOn, ByDigit, ByFlagOff, ByInhibited, ByNotSelected}
use Rattle.desk.specs.Decisions.{decided_numbers, explained_numbers}
use Rattle.desk.specs.declared.HostDecided.{HostDecided}
use Rattle.desk.specs.declared.HostExplained.{HostExplained}

-- what C is told by esk_explain, and by esk_decide
abbrev pub told : Settings → Question → HostExplained
told x q = explained_numbers (explained x q)

abbrev pub answer : Settings → Question → HostDecided
answer x q = decided_numbers (decided x q)

-- the question is refused by none of 12, 5 and 4
pub record Asked (x : Settings) (q : Question) : Type 0 where
  pub settings : valid x ≡ true
  pub range : InRange q
  pub airfield : FourAllowed q.airfield

-- the reason of this number is given, and it names box, flag or section n
abbrev pub Names : Settings → Question → ℕ → ℕ → Type 0
Names x q reason n = ((told x q).reason ≡ reason) × ((told x q).number ≡ n)

-- each reason by itself, of a question that is not refused
pub record Reasons (x : Settings) (q : Question) : Type 0 where
  -- "AMDAR off, hours, an inhibiting box with its lowest number (from 1), no reporting box holds the place."
  pub amdar-off : ((told x q).reason ≡ 1) ↔ (flag_of x Amdar ≡ 0)
  pub hours : ((told x q).reason ≡ 2) ↔ ByHours x q
  pub box : (n : ℕ) → Names x q 3 n ↔ ByBox x q n
  pub no-box : ((told x q).reason ≡ 4) ↔ ByNoBox x q
  -- "Past these, a scheme or any level answer names the phase flag, a routine in ascent or descent its digit"
  pub flag-on : (n : ℕ) → Names x q 5 n ↔ ByFlagOn x q n
  pub digit : (section : ℕ) → Names x q 6 section ↔ ByDigit x q section
  -- "silence the first of phase flag 0, airfield inhibited, airfield not selected"
  pub flag_off : (n : ℕ) → Names x q 7 n ↔ ByFlagOff x q n
  pub inhibited : ((told x q).reason ≡ 8) ↔ ByInhibited x q
  pub not_selected : ((told x q).reason ≡ 9) ↔ ByNotSelected x q
  -- one that names no box, flag or section has 0 there
  pub bare : ¬ ((told x q).reason ≡ 3) → ¬ ((told x q).reason ≡ 5) → ¬ ((told x q).reason ≡ 6) → ¬ ((told x q).reason ≡ 7)
      → (told x q).number ≡ 0
  -- there is always one of these
  pub least : 1 ≤ (told x q).reason
  pub most : (told x q).reason ≤ 9

pub record ExplainPromises : Type 0 where
  -- "Its answer equals the decision's for every input. It refuses as the decision refuses."
  pub code : (x : Settings) (q : Question) → (told x q).code ≡ (answer x q).code
  pub place : (x : Settings) (q : Question) → (told x q).place ≡ (answer x q).place
  pub decision : (x : Settings) (q : Question) → (told x q).decision ≡ (answer x q).decision
  -- "It names the first reason that holds"
  pub reasons : (x : Settings) (q : Question) → Asked x q → Reasons x q
  -- a refusal names none
  pub refused : (x : Settings) (q : Question) → ¬ ((told x q).code ≡ 0) → Names x q 0 0
  pub spare : (x : Settings) (q : Question) → (told x q).spare ≡ 0
