-- The waiting board as the host keeps it: lent slots, a lent text area, a lent buffer, and the numbers that come back.
use Rattle.std.specs.Prelude.{◌≡◌, cond, ◌&&◌, ℕ, ◌*◌, ◌≤◌, ◌<◌, eqb, length, get_or, take, drop}
use mathlib.Core.List.{List, [], ◌∷◌, ◌++◌, foldl}
use Rattle.text.specs.Equal.{same_bytes}
use Rattle.command.specs.Text.{longest, check_command}
use Rattle.join.specs.Join.{join_text}
use Rattle.decide.specs.Words.{AllowedByte}
use Rattle.board.specs.Board.{most_slots, Move, reply_of}
use Rattle.board.specs.Lent.{add_lent, take_lent, no_slot, on_slots, on_area, on_out}
use Rattle.board.specs.Calls.{Lent}
use Rattle.board.specs.declared.Slot.{Slot}
use Rattle.desk.specs.Numbers.{check_numbers}
use Rattle.desk.specs.Waiting.{reply_numbers}
use Rattle.desk.specs.declared.Answer.{Answer}

-- ---- A call; what it answers and leaves is what the contracts of esk_board_add and esk_board_take say

pub data Call : Type 0 where
  Add : List ℕ → List ℕ → Call  -- designator and text
  Take : List ℕ → List ℕ → Call  -- designator, and the bytes in the buffer before the call

abbrev pub aircraft : Call → List ℕ
aircraft (Add d t) = d
aircraft (Take d out) = d

abbrev pub move_of : Lent → Call → Move
move_of x (Add d t) = add_lent x.slots x.area d t
move_of x (Take d out) = take_lent x.slots x.area d (length out)

abbrev pub answer_to : Lent → Call → Answer
answer_to x c = reply_numbers (reply_of (move_of x c))

-- slots and area afterwards; a taking is lent the area to read it alone
abbrev pub lent_after : Lent → Call → Lent
lent_after x (Add d t) =
    record { slots = on_slots (move_of x (Add d t)) x.slots; area = on_area (move_of x (Add d t)) x.area }
lent_after x (Take d out) = record { slots = on_slots (move_of x (Take d out)) x.slots; area = x.area }

-- the buffer before and afterwards; an adding is lent none
abbrev pub buffer_of : Call → List ℕ
buffer_of (Add d t) = []
buffer_of (Take d out) = out

abbrev pub buffer_after : Lent → Call → List ℕ
buffer_after x (Add d t) = []
buffer_after x (Take d out) = on_out (move_of x (Take d out)) out

-- ---- A run: a board that began empty, and the calls made on it, the first one first

abbrev pub slot_at : Lent → ℕ → Slot
slot_at x i = get_or x.slots i no_slot

-- at most 64 slots, the longest command's bytes of area for each, every slot free; designators and area may hold any bytes
pub record BeganEmpty (x : Lent) : Type 0 where
  pub few : length x.slots ≤ most_slots
  pub bytes : length x.area ≡ longest * length x.slots
  pub free : (i : ℕ) → i < length x.slots → (slot_at x i).length ≡ 0

pub record Run : Type 0 where
  pub board : Lent
  pub empty : BeganEmpty board
  pub calls : List Call

unfoldable pub after_all : Lent → List Call → Lent
after_all x [] = x
after_all x (c ∷ cs) = after_all (lent_after x c) cs

-- slots and area after the run
abbrev pub now : Run → Lent
now r = after_all r.board r.calls

-- what the run's next call is answered, and the run with it
abbrev pub told : Run → Call → Answer
told r c = answer_to (now r) c

abbrev pub next : Run → Call → Run
next r c = record { board = r.board; empty = r.empty; calls = r.calls ++ (c ∷ []) }

-- ---- The log of a run, and from its numbers the commands accepted for an aircraft since its last hand-over

pub record Told : Type 0 where
  pub call : Call
  pub answer : Answer

unfoldable pub log_from : Lent → List Call → List Told
log_from x [] = []
log_from x (c ∷ cs) = record { call = c; answer = answer_to x c } ∷ log_from (lent_after x c) cs

abbrev pub log : Run → List Told
log r = log_from r.board r.calls

-- ts before the call: an adding for d that is answered with code 0 appends its text, a taking for d empties
abbrev pub heard : List ℕ → List (List ℕ) → Call → ℕ → List (List ℕ)
heard d ts (Add e t) code = cond (eqb code 0 && same_bytes d e) (ts ++ (t ∷ [])) ts
heard d ts (Take e out) code = cond (eqb code 0 && same_bytes d e) [] ts

unfoldable pub heard_from : List ℕ → List (List ℕ) → List Told → List (List ℕ)
heard_from d ts [] = ts
heard_from d ts (x ∷ xs) = heard_from d (heard d ts x.call x.answer.code) xs

abbrev pub accepted_for : Run → List ℕ → List (List ℕ)
accepted_for r d = heard_from d [] (log r)

-- commands joined in order: the first as it is, each next one joined on
abbrev pub join_of : List (List ℕ) → List ℕ
join_of [] = []
join_of (t ∷ ts) = foldl join_text t ts

-- a text is accepted: esk_command_check answers with code 0
abbrev pub IsAccepted : List ℕ → Type 0
IsAccepted t = (check_numbers (check_command t)).code ≡ 0

-- a designator is well formed
pub record SixAllowed (d : List ℕ) : Type 0 where
  pub six : length d ≡ 6
  pub allowed : (i : ℕ) → i < 6 → AllowedByte (get_or d i 0)

-- ---- What waits in the lent memory

-- slot i is used for the aircraft d
pub record UsedFor (x : Lent) (d : List ℕ) (i : ℕ) : Type 0 where
  pub inside : i < length x.slots
  pub named : (slot_at x i).designator ≡ d
  pub some : 0 < (slot_at x i).length

abbrev pub NothingWaits : Lent → List ℕ → Type 0
NothingWaits x d = (i : ℕ) → ¬ UsedFor x d i

-- the text t waits for d: in one slot i and no other; as many bytes as its length says, in the area behind i of the longest
pub record Waits (x : Lent) (d t : List ℕ) : Type 0 where
  pub slot : ℕ
  pub used : UsedFor x d slot
  pub long : length t ≡ (slot_at x slot).length
  pub text : t ≡ take (slot_at x slot).length (drop (longest * slot) x.area)
  pub alone : (j : ℕ) → UsedFor x d j → j ≡ slot

abbrev pub NoneFree : Lent → Type 0
NoneFree x = (i : ℕ) → i < length x.slots → 0 < (slot_at x i).length
