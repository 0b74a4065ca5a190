-- Demand 3 of the waiting board, of the lent memory and of the numbers that the host is given: a field is a sentence.
use Rattle.std.specs.Prelude.{◌≡◌, ◌↔◌, ℕ, ◌*◌, ◌≤◌, ◌<◌, length, set, take, drop}
use mathlib.Core.List.{List, [], ◌∷◌, ◌++◌, foldl}
use Rattle.text.specs.Over.{over}
use Rattle.settings.specs.declared.Settings.{Settings}
use Rattle.command.specs.Text.{longest, check_command}
use Rattle.config.specs.Config.{kept}
use Rattle.board.specs.Board.{Move, Stay, Put, Free}
use Rattle.board.specs.Lent.{is_valid_lent}
use Rattle.board.specs.Words.{ValidBoard, Adds}
use Rattle.board.specs.Calls.{Lent}
use Rattle.desk.specs.Numbers.{accepted, answer_of, check_numbers}
use Rattle.desk.specs.Waiting.{board_numbers}
use Rattle.promises.specs.BoardRuns.{
  Call,
  Add,
  Take,
  aircraft,
  move_of,
  answer_to,
  lent_after,
  buffer_of,
  buffer_after,
  slot_at,
  Run,
  now,
  told,
  next,
  log,
  accepted_for,
  join_of,
  IsAccepted,
  SixAllowed,
  UsedFor,
  NothingWaits,
  Waits,
  NoneFree,
}

-- ---- A taking for d into the buffer out, after a run

-- "4, 11, 2": a malformed designator, nothing waits, the buffer is shorter than what waits
pub record TakingAnswers (r : Run) (d out : List ℕ) : Type 0 where
  pub four : ((told r (Take d out)).code ≡ 4) ↔ (¬ SixAllowed d)
  pub eleven : ((told r (Take d out)).code ≡ 11) ↔ (SixAllowed d × (accepted_for r d ≡ []))
  pub two : ((told r (Take d out)).code ≡ 2) ↔ ((¬ (accepted_for r d ≡ [])) × (length out < length (join_of (accepted_for r d))))
  pub zero : ((told r (Take d out)).code ≡ 0) ↔ ((¬ (accepted_for r d ≡ [])) × (length (join_of (accepted_for r d)) ≤ length out))
  pub place : (told r (Take d out)).place ≡ 0

-- answered with code 0
pub record HandsOver (r : Run) (d out : List ℕ) : Type 0 where
  -- there was an accepted command, and the length is that of all of them, joined
  pub some : ¬ (accepted_for r d ≡ [])
  pub long : (told r (Take d out)).length ≡ length (join_of (accepted_for r d))
  -- the buffer then begins with exactly that text; its bytes behind stay
  pub text : take (told r (Take d out)).length (buffer_after (now r) (Take d out)) ≡ join_of (accepted_for r d)
  pub rest : drop (told r (Take d out)).length (buffer_after (now r) (Take d out)) ≡ drop (told r (Take d out)).length out
  -- the slot is freed: its length becomes 0, its designator and text bytes stay, and so does every other slot
  pub freed : (t : List ℕ) (w : Waits (now r) d t)
      → (now (next r (Take d out))).slots ≡ set (now r).slots w.slot (record { designator = d; length = 0 })
  pub area : (now (next r (Take d out))).area ≡ (now r).area
  -- nothing is left
  pub gone : NothingWaits (now (next r (Take d out))) d
  pub handed : accepted_for (next r (Take d out)) d ≡ []

-- ---- An adding of the text t for d, after a run

-- "designator (4), the command's own refusals; then join onto that aircraft's text, or use the lowest free slot, or 9"
pub record AddingAnswers (r : Run) (d t : List ℕ) : Type 0 where
  pub four : ¬ SixAllowed d → told r (Add d t) ≡ answer_of 4 0
  pub own : SixAllowed d → ¬ IsAccepted t → told r (Add d t) ≡ check_numbers (check_command t)
  pub nine : ((told r (Add d t)).code ≡ 9) ↔ (SixAllowed d × IsAccepted t × NothingWaits (now r) d × NoneFree (now r))
  pub zero : ((told r (Add d t)).code ≡ 0) ↔ (SixAllowed d × IsAccepted t × (¬ (NothingWaits (now r) d × NoneFree (now r))))
  pub place : IsAccepted t → (told r (Add d t)).place ≡ 0

-- answered with code 0
pub record Stores (r : Run) (d t : List ℕ) : Type 0 where
  -- the command is accepted, and the length is that of all accepted ones, joined
  pub heard : accepted_for (next r (Add d t)) d ≡ accepted_for r d ++ (t ∷ [])
  pub long : (told r (Add d t)).length ≡ length (join_of (accepted_for (next r (Add d t)) d))
  -- that text stands in the aircraft's own slot, or in the lowest free one
  pub slot : ℕ
  pub inside : slot < length (now r).slots
  pub own : (j : ℕ) → UsedFor (now r) d j → j ≡ slot
  pub free : NothingWaits (now r) d → (slot_at (now r) slot).length ≡ 0
  pub lowest : NothingWaits (now r) d → (j : ℕ) → j < slot → 0 < (slot_at (now r) j).length
  -- every other slot stays, and every other byte of the area
  pub slots : (now (next r (Add d t))).slots
      ≡ set (now r).slots slot (record { designator = d; length = length (join_of (accepted_for (next r (Add d t)) d)) })
  pub area : (now (next r (Add d t))).area ≡ over (now r).area (longest * slot) (join_of (accepted_for (next r (Add d t)) d))

-- ---- A refusal, of any lent board

-- it carries nothing but code and place, and leaves all lent memory unchanged
pub record Untouched (x : Lent) (c : Call) : Type 0 where
  pub bare : answer_to x c ≡ answer_of (answer_to x c).code (answer_to x c).place
  pub lent : lent_after x c ≡ x
  pub buffer : buffer_after x c ≡ buffer_of c

abbrev pub IsRefusal : Move → Type 0
IsRefusal (Stay code place) = Unit
IsRefusal (Put i d t) = ⊥
IsRefusal (Free i t) = ⊥

-- ---- The promises: of every run r on a board that began empty, and of every call made next

pub record BoardPromises : Type 0 where
  -- "what waits for an aircraft is always all its accepted commands since the last hand-over, joined in order"
  pub waits : (r : Run) (d : List ℕ) → ¬ (accepted_for r d ≡ []) → Waits (now r) d (join_of (accepted_for r d))
  -- in no more bytes than the longest command
  pub short : (r : Run) (d : List ℕ) → length (join_of (accepted_for r d)) ≤ longest
  -- one accepted command
  pub fine : (r : Run) (d : List ℕ) → ¬ (accepted_for r d ≡ []) → IsAccepted (join_of (accepted_for r d))
  -- that leaves every configuration as they would have, applied one after the other
  pub acts : (r : Run) (d : List ℕ) (x : Settings) → ¬ (accepted_for r d ≡ [])
      → kept x (join_of (accepted_for r d)) ≡ foldl kept x (accepted_for r d)
  -- "where there were none, nothing waits"
  pub none : (r : Run) (d : List ℕ) → accepted_for r d ≡ [] → NothingWaits (now r) d
  -- "A taking hands over exactly what waits."
  pub takings : (r : Run) (d out : List ℕ) → TakingAnswers r d out
  pub hands-over : (r : Run) (d out : List ℕ) → (told r (Take d out)).code ≡ 0 → HandsOver r d out
  -- "A command is refused for want of a slot only where nothing waits for its aircraft and no slot is free"
  pub addings : (r : Run) (d t : List ℕ) → AddingAnswers r d t
  pub stores : (r : Run) (d t : List ℕ) → (told r (Add d t)).code ≡ 0 → Stores r d t
  -- "it then isn't accepted": a refused call changes no list of accepted commands
  pub unheard : (r : Run) (c : Call) → ¬ ((told r c).code ≡ 0) → (d : List ℕ) → accepted_for (next r c) d ≡ accepted_for r d
  -- what waits for another aircraft stays
  pub apart : (r : Run) (c : Call) (d t : List ℕ) → ¬ (d ≡ aircraft c) → Waits (now r) d t ↔ Waits (now (next r c)) d t
  -- the board stays valid, so that no call is answered with code 10
  pub valid-board : (r : Run) → board_numbers (is_valid_lent (now r).slots (now r).area) ≡ accepted 0
  pub never-ten : (r : Run) (c : Call) → ¬ ((told r c).code ≡ 10)
  -- every answer follows from the calls and the number of slots
  pub determined : (r s : Run) → length r.board.slots ≡ length s.board.slots → r.calls ≡ s.calls → log r ≡ log s
  -- of any lent board, empty or not: esk_board_check answers 0 just where it is valid, in document 01's words, and else 10, as do an
  -- adding and a taking
  pub checked : (x : Lent) → ((board_numbers (is_valid_lent x.slots x.area)).code ≡ 0) ↔ ValidBoard x.slots x.area
  pub ten : (x : Lent) → ¬ ValidBoard x.slots x.area → board_numbers (is_valid_lent x.slots x.area) ≡ answer_of 10 0
  pub ten-first : (x : Lent) (c : Call) → ¬ ValidBoard x.slots x.area → answer_to x c ≡ answer_of 10 0
  -- document 02, §4: "A board with the old text size is refused with 10." So is any with fewer bytes than the longest for each slot
  pub old_size : (x : Lent) → length x.area < longest * length x.slots
      → (board_numbers (is_valid_lent x.slots x.area) ≡ answer_of 10 0) × ((c : Call) → answer_to x c ≡ answer_of 10 0)
  -- an adding joins onto that aircraft's text in its own slot, or uses the lowest free slot
  pub places : (x : Lent) (d t : List ℕ) (i : ℕ) (e w : List ℕ) → move_of x (Add d t) ≡ Put i e w → Adds x.slots x.area d t i e w
  -- of any lent board, empty or not: an answer names no text; a refusal leaves all as it was, and has another code than 0
  pub no_text : (x : Lent) (c : Call) → (answer_to x c).text ≡ 0
  pub refusals : (x : Lent) (c : Call) → ¬ ((answer_to x c).code ≡ 0) → Untouched x c
  pub coded : (x : Lent) (c : Call) → ((answer_to x c).code ≡ 0) ↔ (¬ IsRefusal (move_of x c))
