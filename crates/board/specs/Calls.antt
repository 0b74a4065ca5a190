-- A run of calls on the board as it is lent, and demand 3 of it.
use Rattle.std.specs.Prelude.{◌≡◌, Bool, true, ◌&&◌, ℕ, ◌≤◌, eqb, length}
use mathlib.Core.List.{List, [], ◌∷◌, foldl}
use Rattle.settings.specs.declared.Settings.{Settings}
use Rattle.command.specs.Text.{longest}
use Rattle.board.specs.Board.{WaitingSlot, waiting, Move, reply_of}
use Rattle.board.specs.History.{Event, Add, Take, Entry, since, joined, called_for, act}
use Rattle.board.specs.Lent.{board_of, add_lent, take_lent, on_slots, on_area}
use Rattle.board.specs.declared.Slot.{Slot}

pub record Lent : Type 0 where
  pub slots : List Slot
  pub area : List ℕ

abbrev pub board_in : Lent → List WaitingSlot
board_in x = board_of x.slots x.area

abbrev pub call : Lent → Event → Move
call x (Add d t) = add_lent x.slots x.area d t
call x (Take d room) = take_lent x.slots x.area d room

abbrev pub on_lent : Move → Lent → Lent
on_lent m x = record { slots = on_slots m x.slots; area = on_area m x.area }

-- what is lent after a run of calls, and the log of the run
unfoldable pub after_calls : Lent → List Event → Lent
after_calls x [] = x
after_calls x (e ∷ es) = after_calls (on_lent (call x e) x) es

unfoldable pub logged_calls : Lent → List Event → List Entry
logged_calls x [] = []
logged_calls x (e ∷ es) = record { event = e; reply = reply_of (call x e) } ∷ logged_calls (on_lent (call x e) x) es

-- every slot is free; designators and area may hold any bytes
unfoldable pub all_free : List Slot → Bool
all_free [] = true
all_free (x ∷ xs) = eqb x.length 0 && all_free xs

-- demand 3 (see Demand3), of what was lent as x, after the calls es
pub record Demand3Lent (x : Lent) (es : List Event) : Type 0 where
  pub waits : (d : List ℕ) → waiting d (board_in (after_calls x es)) ≡ joined (since d (logged_calls x es))
  pub short : (d : List ℕ) → length (waiting d (board_in (after_calls x es))) ≤ longest
  pub acts : (d : List ℕ) (g : Settings) → act g (waiting d (board_in (after_calls x es))) ≡ foldl act g (since d (logged_calls x es))
  pub replies : logged_calls x es ≡ called_for (length x.slots) [] es
