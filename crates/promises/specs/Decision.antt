-- Document 01, "Whether to report": what is promised of esk_decide. The sentences are the fields of `Answers`
-- (decide/specs/Rules), over the words of decide/specs/Words.
use Rattle.std.specs.Prelude.{◌≡◌, ℕ, Result, Ok, Err}
use Rattle.text.specs.Codes.{number_of}
use Rattle.text.specs.declared.Code.{Code}
use Rattle.settings.specs.declared.Settings.{Settings}
use Rattle.decide.specs.Question.{Question}
use Rattle.decide.specs.Reason.{decided}
use Rattle.decide.specs.Rules.{Answers}
use Rattle.decide.specs.declared.Decision.{Decision}
use Rattle.decide.specs.declared.Decision.TheVariants.{Silent, Routine, Scheme}
use Rattle.desk.specs.Decisions.{decided_numbers}
use Rattle.desk.specs.declared.HostDecided.{HostDecided}

-- the numbers that C is given
abbrev pub answer : ℕ → ℕ → HostDecided
answer code decision = record { place = 0; code = code; decision = decision; spare = 0; rest = 0 }

pub record DecisionPromises : Type 0 where
  -- every question is answered as the sentences say
  pub answers : (x : Settings) (q : Question) → Answers x q (decided x q)
  -- and they leave one answer
  pub one_answer : (x : Settings) (q : Question) (r s : Result Decision Code) → Answers x q r → Answers x q s → r ≡ s
  -- its numbers: "the answer is silent, routine or scheme"; refusals at place 0 with the one empty decision
  pub silent : decided_numbers (Ok Silent) ≡ answer 0 0
  pub routine : decided_numbers (Ok Routine) ≡ answer 0 1
  pub scheme : decided_numbers (Ok Scheme) ≡ answer 0 2
  pub refused : (code : Code) → decided_numbers (Err code) ≡ answer (number_of code) 0
