-- Document 02, §9, of the lent memory and of the numbers that the host is given: a field is a sentence.
use Rattle.std.specs.Prelude.{◌≡◌, List, [], ◌∷◌, ℕ, ◌≤◌, ◌<◌, length, replicate}
use Rattle.board.specs.Board.{Move, reply_of}
use Rattle.board.specs.Lent.{on_slots, on_area, on_out}
use Rattle.board.specs.Calls.{Lent}
use Rattle.board.specs.Words.{ValidBoard, WellFormed, IsOwn}
use Rattle.board.specs.declared.Slot.{Slot}
use Rattle.tails.specs.Words.{Earlier, SixBytes, designator_at, ListOf}
use Rattle.tails.specs.Calls.{search_lent, has_list, made_lent, add_listed, take_listed, on_list}
use Rattle.desk.specs.Numbers.{answer_of}
use Rattle.desk.specs.Waiting.{reply_numbers, board_numbers}
use Rattle.desk.specs.Tails.{tail_numbers}
use Rattle.desk.specs.declared.Answer.{Answer}
use Rattle.desk.specs.declared.HostTail.{HostTail}
use Rattle.promises.specs.BoardRuns.{Call, Add, Take, answer_to, lent_after, buffer_of, buffer_after, BeganEmpty, after_all, Told, log_from}

-- ---- A call with a list beside the board; what it answers and leaves is what the contracts of esk_tails_add and esk_tails_take say

abbrev pub listed_move : Lent → List ℕ → Call → Move
listed_move x ts (Add d t) = add_listed x.slots x.area ts d t
listed_move x ts (Take d out) = take_listed x.slots x.area ts d (length out)

abbrev pub listed_answer : Lent → List ℕ → Call → Answer
listed_answer x ts c = reply_numbers (reply_of (listed_move x ts c))

abbrev pub listed_lent : Lent → List ℕ → Call → Lent
listed_lent x ts (Add d t) =
    record { slots = on_slots (listed_move x ts (Add d t)) x.slots; area = on_area (listed_move x ts (Add d t)) x.area }
listed_lent x ts (Take d out) = record { slots = on_slots (listed_move x ts (Take d out)) x.slots; area = x.area }

abbrev pub listed_buffer : Lent → List ℕ → Call → List ℕ
listed_buffer x ts (Add d t) = []
listed_buffer x ts (Take d out) = on_out (listed_move x ts (Take d out)) out

abbrev pub list_after : Lent → List ℕ → Call → List ℕ
list_after x ts c = on_list (listed_move x ts c) x.slots ts

-- ---- A run of them

unfoldable pub listed_all : Lent → List ℕ → List Call → Lent
listed_all x ts [] = x
listed_all x ts (c ∷ cs) = listed_all (listed_lent x ts c) (list_after x ts c) cs

unfoldable pub list_all : Lent → List ℕ → List Call → List ℕ
list_all x ts [] = ts
list_all x ts (c ∷ cs) = list_all (listed_lent x ts c) (list_after x ts c) cs

unfoldable pub listed_log : Lent → List ℕ → List Call → List Told
listed_log x ts [] = []
listed_log x ts (c ∷ cs) = record { call = c; answer = listed_answer x ts c } ∷ listed_log (listed_lent x ts c) (list_after x ts c) cs

-- ---- esk_tails_find and esk_tails_make

abbrev pub found : List Slot → List ℕ → List ℕ → HostTail
found slots ts d = tail_numbers (search_lent slots ts d)

abbrev pub not_found : ℕ → HostTail
not_found code = record { place = 0; code = code; slot = 0; at = 0; spare = 0; rest = 0 }

abbrev pub make_answer : List Slot → List ℕ → Answer
make_answer slots ts = board_numbers (has_list slots ts)

-- ---- The promises. A slot has six bytes for its designator by C's type; what else it holds is any

-- with a list that is the board's, a call is the same call without it
pub record AsWithout (x : Lent) (ts : List ℕ) (c : Call) : Type 0 where
  pub answer : listed_answer x ts c ≡ answer_to x c
  pub lent : listed_lent x ts c ≡ lent_after x c
  pub buffer : listed_buffer x ts c ≡ buffer_after x c

-- with any other it is 10 at 0, and nothing changes
pub record Disagrees (x : Lent) (ts : List ℕ) (c : Call) : Type 0 where
  pub ten : listed_answer x ts c ≡ answer_of 10 0
  pub lent : listed_lent x ts c ≡ x
  pub list : list_after x ts c ≡ ts
  pub buffer : listed_buffer x ts c ≡ buffer_of c

-- "a search through it answers as the walk does", of an aircraft d that waits, one that does not, and what is no aircraft
pub record AsWalk (slots : List Slot) (ts d : List ℕ) : Type 0 where
  pub own : (j : ℕ) → IsOwn slots d j → ((found slots ts d).code ≡ 0) × ((found slots ts d).slot ≡ j)
  pub none : WellFormed d → ((j : ℕ) → ¬ IsOwn slots d j) → ((found slots ts d).code ≡ 11) × ((found slots ts d).slot ≡ 0)
  pub malformed : ¬ WellFormed d → found slots ts d ≡ not_found 4
  -- and how many of the list come before it
  pub before : (l : ListOf slots ts) → WellFormed d → (i : ℕ) → i < l.count
      → (i < (found slots ts d).at → Earlier (designator_at slots ts i) d) × ((found slots ts d).at ≤ i → ¬ Earlier (designator_at slots ts i) d)

pub record TailPromises : Type 0 where
  -- a board has one list
  pub one : (slots : List Slot) (ts us : List ℕ) → SixBytes slots → ListOf slots ts → ListOf slots us → ts ≡ us
  -- a board that is valid has one, and it is made; what is made is its list; where none is, nothing changes
  pub made : (slots : List Slot) (area ts : List ℕ) → ValidBoard slots area → length ts ≡ length slots → (make_answer slots ts).code ≡ 0
  pub made-is : (slots : List Slot) (ts : List ℕ) → SixBytes slots → (make_answer slots ts).code ≡ 0 → ListOf slots (made_lent slots ts)
  pub unmade : (slots : List Slot) (ts : List ℕ) → ¬ ((make_answer slots ts).code ≡ 0) → (make_answer slots ts ≡ answer_of 10 0) × (made_lent slots ts ≡ ts)
  -- that of an empty board
  pub began : (x : Lent) → SixBytes x.slots → BeganEmpty x → ListOf x.slots (replicate (length x.slots) 255)
  -- "Refusals: a list that disagrees with its board is 10", before all others
  pub disagrees : (x : Lent) (ts : List ℕ) (c : Call) → SixBytes x.slots → ¬ ListOf x.slots ts → Disagrees x ts c
  pub not_searched : (slots : List Slot) (ts d : List ℕ) → SixBytes slots → ¬ ListOf slots ts → found slots ts d ≡ not_found 10
  -- "The waiting text is untouched by this."
  pub as_without : (x : Lent) (ts : List ℕ) (c : Call) → SixBytes x.slots → ListOf x.slots ts → AsWithout x ts c
  -- "After every add and take the list names each used slot once and no other"
  pub kept : (x : Lent) (ts : List ℕ) (c : Call) → SixBytes x.slots → ListOf x.slots ts
      → SixBytes (listed_lent x ts c).slots × ListOf (listed_lent x ts c).slots (list_after x ts c)
  -- so a run is the run without it, and all that the board's promises say of that run is said of this one: demand 3
  pub runs : (x : Lent) (ts : List ℕ) (cs : List Call) → SixBytes x.slots → ListOf x.slots ts
      → (listed_all x ts cs ≡ after_all x cs) × (listed_log x ts cs ≡ log_from x cs) × ListOf (after_all x cs).slots (list_all x ts cs)
  -- "a search through it answers as the walk does"
  pub as_walk : (slots : List Slot) (area ts d : List ℕ) → SixBytes slots → ValidBoard slots area → ListOf slots ts → AsWalk slots ts d
