-- What a board was asked and what it replied, and what follows from that alone: demand 3.
use Rattle.std.specs.Prelude.{◌≡◌, Bool, true, false, cond, not, ◌&&◌, ◌||◌, ℕ, ◌≤◌, leb, ltb, length, Ok}
use mathlib.Core.List.{List, [], ◌∷◌, ◌++◌, foldl}
use Rattle.text.specs.Names.{is_designator}
use Rattle.text.specs.Checks.{is_fine}
use Rattle.text.specs.Equal.{same_bytes}
use Rattle.settings.specs.declared.Settings.{Settings}
use Rattle.command.specs.Text.{check_command, longest}
use Rattle.config.specs.Config.{apply_to}
use Rattle.join.specs.Join.{join_text}
use Rattle.board.specs.Board.{WaitingSlot, is_none, is_free, waiting, past_refusals, placing, handing, Move, Reply, Given, Refused, reply_of, on_board, add, take_out}

-- ---- Events, and the log of events with their replies

pub data Event : Type 0 where
  Add : List ℕ → List ℕ → Event  -- for an aircraft, a command's text
  Take : List ℕ → ℕ → Event  -- for an aircraft, the room to hand over into

pub record Entry : Type 0 where
  pub event : Event
  pub reply : Reply

abbrev pub aircraft : Event → List ℕ
aircraft (Add d t) = d
aircraft (Take d room) = d

-- ---- Accepted, since the last hand-over

-- the commands accepted for d, cs being those before this entry
abbrev pub heard : List ℕ → List (List ℕ) → Event → Reply → List (List ℕ)
heard d cs (Add e t) (Given w) = cond (same_bytes d e) (cs ++ (t ∷ [])) cs
heard d cs (Add e t) (Refused code place) = cs
heard d cs (Take e room) (Given w) = cond (same_bytes d e) [] cs
heard d cs (Take e room) (Refused code place) = cs

unfoldable pub since_from : List ℕ → List (List ℕ) → List Entry → List (List ℕ)
since_from d cs [] = cs
since_from d cs (x ∷ log) = since_from d (heard d cs x.event x.reply) log

-- all commands accepted for d since its last hand-over, in order
abbrev pub since : List ℕ → List Entry → List (List ℕ)
since d log = since_from d [] log

-- ---- Joined in order

-- the first waits as it came; each later one is joined onto what waits
abbrev pub onto : List ℕ → List ℕ → List ℕ
onto [] t = t
onto (b ∷ bs) t = join_text (b ∷ bs) t

unfoldable pub joined : List (List ℕ) → List ℕ
joined cs = foldl onto [] cs

-- ---- A run of events on a board

abbrev pub move : List WaitingSlot → Event → Move
move b (Add d t) = add b d t
move b (Take d room) = take_out b d room

unfoldable pub after : List WaitingSlot → List Event → List WaitingSlot
after b [] = b
after b (e ∷ es) = after (on_board (move b e) b) es

unfoldable pub logged : List WaitingSlot → List Event → List Entry
logged b [] = []
logged b (e ∷ es) = record { event = e; reply = reply_of (move b e) } ∷ logged (on_board (move b e) b) es

-- a board that begins empty
unfoldable pub is_empty_board : List WaitingSlot → Bool
is_empty_board [] = true
is_empty_board (x ∷ b) = is_free x && is_empty_board b

-- ---- What each event is due: w is what waits for its aircraft, free whether a slot is

-- the board of a run is valid, so that 10 never comes
abbrev pub due : Bool → List ℕ → Event → Reply
due free w (Add d t) =
    past_refusals Refused true (is_designator d) (check_command t)
    (placing Refused (not (is_none w)) free (Given (onto w t)) (Given (onto w t)))
due free w (Take d room) =
    past_refusals Refused true (is_designator d) (Ok tt) (handing Refused (not (is_none w)) (leb (length w) room) (Given w))

-- ---- From the events and the number of slots alone

unfoldable pub member : List ℕ → List (List ℕ) → Bool
member d [] = false
member d (e ∷ es) = same_bytes d e || member d es

-- the aircraft that a log names, each once
unfoldable pub callers : List Entry → List (List ℕ)
callers [] = []
callers (x ∷ log) =
    cond (member (aircraft x.event) (callers log)) (callers log) (aircraft x.event ∷ callers log)

abbrev pub no_commands : List (List ℕ) → Bool
no_commands [] = true
no_commands (c ∷ cs) = false

unfoldable pub busy_among : List Entry → List (List ℕ) → List (List ℕ)
busy_among log [] = []
busy_among log (d ∷ ds) = cond (no_commands (since d log)) (busy_among log ds) (d ∷ busy_among log ds)

-- those with accepted commands since their last hand-over
abbrev pub busy : List Entry → List (List ℕ)
busy log = busy_among log (callers log)

-- what k slots, empty at first, reply to e after the log: a slot is free while fewer than k aircraft are busy
abbrev pub reply_to : ℕ → List Entry → Event → Reply
reply_to k log e = due (ltb (length (busy log)) k) (joined (since (aircraft e) log)) e

unfoldable pub called_for : ℕ → List Entry → List Event → List Entry
called_for k log [] = []
called_for k log (e ∷ es) =
    record { event = e; reply = reply_to k log e }
    ∷ called_for k (log ++ (record { event = e; reply = reply_to k log e } ∷ [])) es

-- ---- Demand 3, of a board that began as b, after the events es

-- a text applied; a refused one changes nothing
abbrev pub act : Settings → List ℕ → Settings
act x t = cond (is_fine (check_command t)) (apply_to x t) x

pub record Demand3 (b : List WaitingSlot) (es : List Event) : Type 0 where
  -- what waits for an aircraft is all its accepted commands since the last hand-over, joined in order
  pub waits : (d : List ℕ) → waiting d (after b es) ≡ joined (since d (logged b es))
  -- in no more bytes than the longest command
  pub short : (d : List ℕ) → length (waiting d (after b es)) ≤ longest
  -- it leaves a configuration as those commands would have, one after the other
  pub acts : (d : List ℕ) (x : Settings) → act x (waiting d (after b es)) ≡ foldl act x (since d (logged b es))
  -- every reply is what the events before it call for
  pub replies : logged b es ≡ called_for (length b) [] es
