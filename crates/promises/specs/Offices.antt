-- Document 02, §6, of the lent memory and of the numbers that the host is given: a field is a sentence.
use Rattle.std.specs.Prelude.{◌≡◌, ℕ, ◌≤◌, length}
use mathlib.Core.List.{List, [], foldl}
use Rattle.settings.specs.declared.Settings.{Settings}
use Rattle.command.specs.Text.{longest, check_command}
use Rattle.config.specs.Config.{kept}
use Rattle.board.specs.Words.{ValidBoard}
use Rattle.board.specs.Calls.{Lent}
use Rattle.offices.specs.Offices.{everything, nothing}
use Rattle.offices.specs.Own.{Full, SameOwn}
use Rattle.offices.specs.declared.Grant.{Grant}
use Rattle.desk.specs.Numbers.{answer_of, check_numbers}
use Rattle.promises.specs.BoardRuns.{Add, Take, answer_to, lent_after, buffer_after, Run, now, told, next, accepted_for, join_of, IsAccepted, SixAllowed, NothingWaits, Waits}
use Rattle.promises.specs.OfficeRuns.{
  Apart,
  Outside,
  Office,
  grant_of,
  adding_answer,
  adding_leaves,
  OfficeCall,
  AddFrom,
  TakeAny,
  as_base,
  OfficeRun,
  lent_now,
  answered,
  and_then,
  accepted_both,
  accepted_own,
}

-- ---- The order of refusals, of any lent board: 13, 10, 4, the command's own, 13; then as for the board without offices

pub record OfficeAnswers (own other : Grant) (x : Lent) (d t : List ℕ) : Type 0 where
  pub overlap : ¬ Apart own other → adding_answer own other x d t ≡ answer_of 13 0
  pub ten : Apart own other → ¬ ValidBoard x.slots x.area → adding_answer own other x d t ≡ answer_of 10 0
  pub four : Apart own other → ValidBoard x.slots x.area → ¬ SixAllowed d → adding_answer own other x d t ≡ answer_of 4 0
  pub command : Apart own other → ValidBoard x.slots x.area → SixAllowed d → ¬ IsAccepted t
      → adding_answer own other x d t ≡ check_numbers (check_command t)
  pub outside : Apart own other → ValidBoard x.slots x.area → SixAllowed d → IsAccepted t → Outside own t
      → adding_answer own other x d t ≡ answer_of 13 0
  pub inside : Apart own other → ¬ (IsAccepted t × Outside own t)
      → (adding_answer own other x d t ≡ answer_to x (Add d t)) × (adding_leaves own other x d t ≡ lent_after x (Add d t))

-- ---- A run of the two offices is a run of the board without offices: of the calls that are not barred

pub record RunsAs (r : OfficeRun) (b : Run) : Type 0 where
  pub board : lent_now r ≡ now b
  pub accepted : (d : List ℕ) → accepted_both r d ≡ accepted_for b d
  -- a taking, and an adding that is within its grant or refused for itself, are answered alike and leave alike
  pub takings : (d out : List ℕ) → answered r (TakeAny d out) ≡ told b (Take d out)
  pub buffers : (d out : List ℕ) → buffer_after (lent_now r) (Take d out) ≡ buffer_after (now b) (Take d out)
  pub addings : (o : Office) (d t : List ℕ) → ¬ (IsAccepted t × Outside (grant_of r.grants o) t) → answered r (AddFrom o d t) ≡ told b (Add d t)
  -- a barred one
  pub barred : (o : Office) (d t : List ℕ) → IsAccepted t → Outside (grant_of r.grants o) t
      → (SixAllowed d → answered r (AddFrom o d t) ≡ answer_of 13 0) × (¬ SixAllowed d → answered r (AddFrom o d t) ≡ answer_of 4 0)

-- an accepted command outside its office's grant
abbrev pub Barred : OfficeRun → OfficeCall → Type 0
Barred r (AddFrom o d t) = IsAccepted t × Outside (grant_of r.grants o) t
Barred r (TakeAny d out) = ⊥

-- ---- The promises

pub record OfficePromises : Type 0 where
  -- of any lent board and any two grants that are whole records: the answer, and that a refusal changes nothing
  pub answers : (own other : Grant) → Full own → Full other → (x : Lent) (d t : List ℕ) → OfficeAnswers own other x d t
  pub unchanged : (own other : Grant) (x : Lent) (d t : List ℕ) → ¬ ((adding_answer own other x d t).code ≡ 0)
      → (adding_leaves own other x d t ≡ x)
      × (adding_answer own other x d t ≡ answer_of (adding_answer own other x d t).code (adding_answer own other x d t).place)
  -- the board without offices is one office that may do all, beside one that may do nothing
  pub alone : (x : Lent) (d t : List ℕ)
      → (adding_answer everything nothing x d t ≡ answer_to x (Add d t)) × (adding_leaves everything nothing x d t ≡ lent_after x (Add d t))
  -- "demand 3 speaks of both offices' accepted commands in order of arrival": all that the board's promises say of the run `alike r`
  pub alike : OfficeRun → Run
  pub as_run : (r : OfficeRun) → RunsAs r (alike r)
  -- and of its next call: a barred adding is passed over, any other is that run's next call
  pub goes_on : (r : OfficeRun) (c : OfficeCall) → ¬ Barred r c → alike (and_then r c) ≡ next (alike r) (as_base c)
  pub passed_over : (r : OfficeRun) (c : OfficeCall) → Barred r c → alike (and_then r c) ≡ alike r
  -- what waits for an aircraft is all of them since the last hand-over, joined in order; it acts as they would have
  pub waits : (r : OfficeRun) (d : List ℕ) → ¬ (accepted_both r d ≡ []) → Waits (lent_now r) d (join_of (accepted_both r d))
  pub fine : (r : OfficeRun) (d : List ℕ) → ¬ (accepted_both r d ≡ []) → IsAccepted (join_of (accepted_both r d))
  pub short : (r : OfficeRun) (d : List ℕ) → length (join_of (accepted_both r d)) ≤ longest
  pub acts : (r : OfficeRun) (d : List ℕ) (x : Settings) → ¬ (accepted_both r d ≡ [])
      → kept x (join_of (accepted_both r d)) ≡ foldl kept x (accepted_both r d)
  pub none : (r : OfficeRun) (d : List ℕ) → accepted_both r d ≡ [] → NothingWaits (lent_now r) d
  -- every answer is determined by the grants, the number of slots and the calls before it
  pub determined : (r s : OfficeRun) → r.grants ≡ s.grants → length r.board.slots ≡ length s.board.slots → r.calls ≡ s.calls
      → (c : OfficeCall) → answered r c ≡ answered s c
  -- "For an office, its own flags and sections in the waiting text depend only on its own accepted commands and the takings.":
  -- they are those of its own accepted commands since the last hand-over, joined
  pub own : (r : OfficeRun) (o : Office) (d : List ℕ) → SameOwn (grant_of r.grants o) (join_of (accepted_both r d)) (join_of (accepted_own r o d))
  -- so, whatever the other office sent, they are the same in two runs in which its own are
  pub whatever : (r s : OfficeRun) (o : Office) (d : List ℕ) → r.grants ≡ s.grants → accepted_own r o d ≡ accepted_own s o d
      → SameOwn (grant_of r.grants o) (join_of (accepted_both r d)) (join_of (accepted_both s d))
