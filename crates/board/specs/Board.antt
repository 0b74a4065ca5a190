-- Document 01, "The waiting board", as a value: for each slot who waits for what.
use Rattle.std.specs.Prelude.{Bool, true, false, cond, not, ◌&&◌, ◌||◌, List, [], ◌∷◌, ℕ, zero, suc, leb, length, get_or, set, Result, Ok, Err}
use Rattle.text.specs.Checks.{is_fine}
use Rattle.text.specs.Names.{is_designator}
use Rattle.text.specs.Equal.{same_bytes}
use Rattle.text.specs.declared.Code.{Code}
use Rattle.text.specs.declared.Code.TheVariants.{NoRoom, NotAllowed, BoardFull, BoardInvalid, NothingWaits}
use Rattle.text.specs.declared.Refusal.{Refusal}
use Rattle.command.specs.Text.{check_command}
use Rattle.join.specs.Join.{join_text}

-- the most slots of a board
abbrev pub most_slots : ℕ
most_slots = 64

-- ---- A slot by what waits in it: free where no text does; whom it then names is of no account

pub record WaitingSlot : Type 0 where
  pub who : List ℕ
  pub text : List ℕ

abbrev pub empty_slot : WaitingSlot
empty_slot = record { who = []; text = [] }

abbrev pub is_none : List ℕ → Bool
is_none [] = true
is_none (b ∷ bs) = false

unfoldable pub is_free : WaitingSlot → Bool
is_free x = is_none x.text

unfoldable pub is_for : List ℕ → WaitingSlot → Bool
is_for d x = not (is_free x) && same_bytes d x.who

-- whether some slot passes a test, and which is the first that does
unfoldable pub any : (WaitingSlot → Bool) → List WaitingSlot → Bool
any test [] = false
any test (x ∷ b) = test x || any test b

unfoldable pub lowest : (WaitingSlot → Bool) → List WaitingSlot → ℕ
lowest test [] = zero
lowest test (x ∷ b) = cond (test x) zero (suc (lowest test b))

-- the text that waits for an aircraft; nothing where none does
unfoldable pub waiting : List ℕ → List WaitingSlot → List ℕ
waiting d b = (get_or b (lowest (is_for d) b) empty_slot).text

-- ---- Valid: used designators well formed and different, used texts accepted

abbrev pub is_sound : WaitingSlot → List WaitingSlot → Bool
is_sound x rest =
    is_free x || (is_designator x.who && (is_fine (check_command x.text) && is_none (waiting x.who rest)))

unfoldable pub is_valid : List WaitingSlot → Bool
is_valid [] = true
is_valid (x ∷ b) = is_sound x b && is_valid b

-- ---- What a call does to the board

pub data Move : Type 0 where
  Stay : Code → ℕ → Move  -- nothing: code and place of the refusal
  Put : ℕ → List ℕ → List ℕ → Move  -- slot i then holds the text t for the aircraft d
  Free : ℕ → List ℕ → Move  -- slot i is freed and its text t handed over

-- ---- The order of refusals: 10, designator (4), what the command's admission refuses; then what the call itself does

-- what a check refuses, else what is then done; `refuse` makes a refusal of its code and place
abbrev pub unless_refused : {A : Type 0} → (Code → ℕ → A) → Result (Unit {0}) Refusal → A → A
unless_refused refuse (Ok u) act = act
unless_refused refuse (Err r) act = refuse r.code r.place

-- by whether the board is valid, whether the designator is well formed, and what admission saw
abbrev pub past_refusals : {A : Type 0} → (Code → ℕ → A) → Bool → Bool → Result (Unit {0}) Refusal → A → A
past_refusals refuse valid named admission act =
    cond valid (cond named (unless_refused refuse admission act) (refuse NotAllowed 0)) (refuse BoardInvalid 0)

-- adding: onto what waits for the aircraft, or into a free slot, or 9
abbrev pub placing : {A : Type 0} → (Code → ℕ → A) → Bool → Bool → A → A → A
placing refuse waits free onto into = cond waits onto (cond free into (refuse BoardFull 0))

-- taking: where nothing waits 11, where the room is less than that 2
abbrev pub handing : {A : Type 0} → (Code → ℕ → A) → Bool → Bool → A → A
handing refuse waits fits out = cond waits (cond fits out (refuse NoRoom 0)) (refuse NothingWaits 0)

-- ---- Adding and taking

-- join onto that aircraft's text, or use the lowest free slot, or 9
abbrev pub placed : List WaitingSlot → List ℕ → List ℕ → Move
placed b d t =
    placing Stay (any (is_for d) b) (any is_free b) (Put (lowest (is_for d) b) d (join_text (waiting d b) t))
    (Put (lowest is_free b) d t)

-- adding: 10, designator (4), the command's own refusals
unfoldable pub add : List WaitingSlot → List ℕ → List ℕ → Move
add b d t = past_refusals Stay (is_valid b) (is_designator d) (check_command t) (placed b d t)

-- exactly what waits is handed over, or 11, or 2
abbrev pub handed_out : List WaitingSlot → List ℕ → ℕ → Move
handed_out b d room =
    handing Stay (any (is_for d) b) (leb (length (waiting d b)) room) (Free (lowest (is_for d) b) (waiting d b))

-- taking: 10, 4, 11, 2
unfoldable pub take_out : List WaitingSlot → List ℕ → ℕ → Move
take_out b d room = past_refusals Stay (is_valid b) (is_designator d) (Ok tt) (handed_out b d room)

abbrev pub on_board : Move → List WaitingSlot → List WaitingSlot
on_board (Stay code place) b = b
on_board (Put i d t) b = set b i (record { who = d; text = t })
on_board (Free i t) b = set b i (record { who = (get_or b i empty_slot).who; text = [] })

-- ---- What it answers: the text that then waits or is handed over, or the refusal

pub data Reply : Type 0 where
  Given : List ℕ → Reply
  Refused : Code → ℕ → Reply

abbrev pub reply_of : Move → Reply
reply_of (Stay code place) = Refused code place
reply_of (Put i d t) = Given t
reply_of (Free i t) = Given t
