-- Document 02, §6: "a board that began empty and on which every add came from one of the two offices, under the same two grants
-- throughout".
use Rattle.std.specs.Prelude.{◌≡◌, Bool, true, false, cond, List, [], ◌∷◌, ◌++◌, ℕ, ◌≤◌, ◌<◌, eqb, get_or}
use Rattle.command.specs.Text.{is_named}
use Rattle.commute.specs.Commute.{sets, flag_of}
use Rattle.board.specs.Board.{reply_of}
use Rattle.board.specs.Lent.{on_slots, on_area}
use Rattle.board.specs.Calls.{Lent}
use Rattle.offices.specs.Offices.{is_grant, office_lent}
use Rattle.offices.specs.Own.{grants_flag, grants_section, Full}
use Rattle.offices.specs.declared.Grant.{Grant}
use Rattle.desk.specs.Waiting.{reply_numbers}
use Rattle.desk.specs.declared.Answer.{Answer}
use Rattle.promises.specs.BoardRuns.{Call, Add, Take, answer_to, lent_after, BeganEmpty, heard}

-- ---- Grants

-- "The grants may not overlap; at most one has downlinks."
pub record Apart (g h : Grant) : Type 0 where
  pub flags : (i : ℕ) → i < 7 → grants_flag g i ≡ true → grants_flag h i ≡ true → ⊥
  pub sections : (k : ℕ) → 2 ≤ k → k ≤ 9 → grants_section g k ≡ true → grants_section h k ≡ true → ⊥
  pub downlinks : is_grant g.downlinks ≡ true → is_grant h.downlinks ≡ true → ⊥

-- "A command that sets or asks for anything outside its grant": a flag, a section, a downlink
pub data Outside (g : Grant) (t : List ℕ) : Type 0 where
  Flag : (i : ℕ) → i < 7 → sets (flag_of t i) ≡ true → grants_flag g i ≡ false → Outside g t
  Section : (k : ℕ) → 2 ≤ k → k ≤ 9 → is_named t k ≡ true → grants_section g k ≡ false → Outside g t
  Downlink : eqb (get_or t 12 0) 48 ≡ false → is_grant g.downlinks ≡ false → Outside g t

pub data Office : Type 0 where
  First : Office
  Second : Office

abbrev pub is_same : Office → Office → Bool
is_same First First = true
is_same First Second = false
is_same Second First = false
is_same Second Second = true

-- two grants that may stand beside each other
pub record Grants : Type 0 where
  pub first : Grant
  pub second : Grant
  pub first-full : Full first
  pub second-full : Full second
  pub apart : Apart first second

abbrev pub grant_of : Grants → Office → Grant
grant_of g First = g.first
grant_of g Second = g.second

abbrev pub other_of : Grants → Office → Grant
other_of g First = g.second
other_of g Second = g.first

-- ---- An adding of an office; what it answers and leaves is what the contract of esk_office_add says

abbrev pub adding_answer : Grant → Grant → Lent → List ℕ → List ℕ → Answer
adding_answer own other x d t = reply_numbers (reply_of (office_lent own other x.slots x.area d t))

abbrev pub adding_leaves : Grant → Grant → Lent → List ℕ → List ℕ → Lent
adding_leaves own other x d t =
    record {
      slots = on_slots (office_lent own other x.slots x.area d t) x.slots;
      area = on_area (office_lent own other x.slots x.area d t) x.area;
    }

-- ---- A call: an adding by an office, or a taking by either

pub data OfficeCall : Type 0 where
  AddFrom : Office → List ℕ → List ℕ → OfficeCall  -- designator and text
  TakeAny : List ℕ → List ℕ → OfficeCall  -- designator, and the bytes in the buffer before the call

-- the same call of the board without offices
abbrev pub as_base : OfficeCall → Call
as_base (AddFrom o d t) = Add d t
as_base (TakeAny d out) = Take d out

abbrev pub call_answer : Grants → Lent → OfficeCall → Answer
call_answer g x (AddFrom o d t) = adding_answer (grant_of g o) (other_of g o) x d t
call_answer g x (TakeAny d out) = answer_to x (Take d out)

abbrev pub call_leaves : Grants → Lent → OfficeCall → Lent
call_leaves g x (AddFrom o d t) = adding_leaves (grant_of g o) (other_of g o) x d t
call_leaves g x (TakeAny d out) = lent_after x (Take d out)

-- ---- A run

pub record OfficeRun : Type 0 where
  pub grants : Grants
  pub board : Lent
  pub empty : BeganEmpty board
  pub calls : List OfficeCall

unfoldable pub leaves_all : Grants → Lent → List OfficeCall → Lent
leaves_all g x [] = x
leaves_all g x (c ∷ cs) = leaves_all g (call_leaves g x c) cs

-- slots and area after the run
abbrev pub lent_now : OfficeRun → Lent
lent_now r = leaves_all r.grants r.board r.calls

-- what the run's next call is answered, and the run with it
abbrev pub answered : OfficeRun → OfficeCall → Answer
answered r c = call_answer r.grants (lent_now r) c

abbrev pub and_then : OfficeRun → OfficeCall → OfficeRun
and_then r c = record { grants = r.grants; board = r.board; empty = r.empty; calls = r.calls ++ (c ∷ []) }

-- ---- From the answers' codes: the commands accepted for an aircraft since its last hand-over, of both offices in order of arrival

unfoldable pub both_from : Grants → List ℕ → List (List ℕ) → Lent → List OfficeCall → List (List ℕ)
both_from g d ts x [] = ts
both_from g d ts x (c ∷ cs) = both_from g d (heard d ts (as_base c) (call_answer g x c).code) (call_leaves g x c) cs

abbrev pub accepted_both : OfficeRun → List ℕ → List (List ℕ)
accepted_both r d = both_from r.grants d [] r.board r.calls

-- and of one office alone: the other's addings are passed over, a taking by either empties
abbrev pub is_from : Office → OfficeCall → Bool
is_from o (AddFrom p d t) = is_same o p
is_from o (TakeAny d out) = true

unfoldable pub own_from : Grants → Office → List ℕ → List (List ℕ) → Lent → List OfficeCall → List (List ℕ)
own_from g o d ts x [] = ts
own_from g o d ts x (c ∷ cs) =
    own_from g o d (cond (is_from o c) (heard d ts (as_base c) (call_answer g x c).code) ts) (call_leaves g x c) cs

abbrev pub accepted_own : OfficeRun → Office → List ℕ → List (List ℕ)
accepted_own r o d = own_from r.grants o d [] r.board r.calls
