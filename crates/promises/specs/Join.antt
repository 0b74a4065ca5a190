-- Demand 3 of two commands joined, in the numbers and bytes that the host is given: a field is a sentence.
use Rattle.std.specs.Prelude.{◌≡◌, ◌↔◌, true, List, ℕ, ◌≤◌, ◌<◌, max, length, take, drop}
use Rattle.settings.specs.declared.Settings.{Settings}
use Rattle.command.specs.Text.{longest, check_command}
use Rattle.config.specs.Config.{applied, kept}
use Rattle.settings.specs.Valid.{valid}
use Rattle.join.specs.Join.{join_text, no_change_text, join, joined_over}
use Rattle.desk.specs.Numbers.{accepted, answer_of, check_numbers}
use Rattle.desk.specs.Joins.{join_numbers}
use Rattle.desk.specs.Outcomes.{applied_numbers}
use Rattle.desk.specs.declared.Answer.{Answer}
use Rattle.desk.specs.declared.HostApplied.{HostApplied}
use Rattle.promises.specs.BoardRuns.{IsAccepted}

-- what esk_join answers, and what it leaves in the buffer
abbrev pub join_answer : List ℕ → List ℕ → List ℕ → Answer
join_answer a b out = join_numbers (join a b (length out))

abbrev pub buffer_joined : List ℕ → List ℕ → List ℕ → List ℕ
buffer_joined a b out = joined_over (join a b (length out)) out

-- what esk_apply answers
abbrev pub apply_answer : Settings → List ℕ → HostApplied
apply_answer x t = applied_numbers (applied x t)

-- the code and place of an answer, and which text is at fault
abbrev pub naming : ℕ → Answer → Answer
naming n a = record { place = a.place; length = 0; code = a.code; text = n; spare = 0 }

-- two accepted commands, and room: the answer is code 0 with the joined text's length, the buffer begins with it, its bytes behind stay
pub record JoinedInto (a b out : List ℕ) : Type 0 where
  pub answer : join_answer a b out ≡ accepted (length (join_text a b))
  pub text : take (length (join_text a b)) (buffer_joined a b out) ≡ join_text a b
  pub rest : drop (length (join_text a b)) (buffer_joined a b out) ≡ drop (length (join_text a b)) out

-- two accepted commands applied to a valid configuration, one after the other and joined; what esk_apply leaves is `kept`
pub record ActsAsBoth (x : Settings) (a b : List ℕ) : Type 0 where
  pub first : (apply_answer x a).code ≡ 0
  pub second : (apply_answer (kept x a) b).code ≡ 0
  pub joined : (apply_answer x (join_text a b)).code ≡ 0
  pub same : kept x (join_text a b) ≡ kept (kept x a) b
  pub downlink : (apply_answer x (join_text a b)).downlink ≡ max (apply_answer x a).downlink (apply_answer (kept x a) b).downlink

pub record JoinPromises : Type 0 where
  -- "Two accepted commands join into one accepted command"
  pub joins : (a b out : List ℕ) → IsAccepted a → IsAccepted b → length (join_text a b) ≤ length out → JoinedInto a b out
  pub fine : (a b : List ℕ) → IsAccepted a → IsAccepted b → IsAccepted (join_text a b)
  pub short : (a b : List ℕ) → IsAccepted a → IsAccepted b → length (join_text a b) ≤ longest
  -- code 0 is answered nowhere else
  pub zero : (a b out : List ℕ)
      → ((join_answer a b out).code ≡ 0) ↔ (IsAccepted a × IsAccepted b × (length (join_text a b) ≤ length out))
  -- the refusals of the first text, naming it, those of the second, and then the want of room; none leaves a byte in the buffer
  pub first-refused : (a b out : List ℕ) → ¬ IsAccepted a → join_answer a b out ≡ naming 1 (check_numbers (check_command a))
  pub second-refused : (a b out : List ℕ) → IsAccepted a → ¬ IsAccepted b → join_answer a b out ≡ naming 2 (check_numbers (check_command b))
  pub no_room : (a b out : List ℕ) → IsAccepted a → IsAccepted b → length out < length (join_text a b) → join_answer a b out ≡ answer_of 2 0
  pub untouched : (a b out : List ℕ) → ¬ ((join_answer a b out).code ≡ 0) → buffer_joined a b out ≡ out
  -- "that acts on every valid configuration as the first and then the second, and asks for the larger of their two downlinks"
  pub acts : (x : Settings) (a b : List ℕ) → valid x ≡ true → IsAccepted a → IsAccepted b → ActsAsBoth x a b
  -- "Grouping of three never alters a byte"
  pub grouping : (a b c : List ℕ) → IsAccepted a → IsAccepted b → IsAccepted c
      → join_text (join_text a b) c ≡ join_text a (join_text b c)
  -- "the no-change command joined on either side alters nothing"
  pub no_change : IsAccepted no_change_text
  pub no-change-first : (a : List ℕ) → IsAccepted a → join_text no_change_text a ≡ a
  pub no-change-second : (a : List ℕ) → IsAccepted a → join_text a no_change_text ≡ a
