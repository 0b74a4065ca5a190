-- Document 01's words for the board as it is lent, said by themselves: none of what answers a call (Board, Lent) is used here.
use Rattle.std.specs.Prelude.{◌≡◌, true, List, ℕ, ◌*◌, ◌≤◌, ◌<◌, length, get_or, take, drop, Ok}
use Rattle.text.specs.Bytes.{all_one_of, name_bytes}
use Rattle.command.specs.Text.{longest, check_command}
use Rattle.join.specs.Join.{join_text}
use Rattle.board.specs.Lent.{no_slot}
use Rattle.board.specs.declared.Slot.{Slot}
use Rattle.board.specs.Board.{most_slots}

-- slot i; where there is none, a free one
abbrev pub slot_at : List Slot → ℕ → Slot
slot_at slots i = get_or slots i no_slot

-- "length 0 is free"
abbrev pub InUse : List Slot → ℕ → Type 0
InUse slots i = (slot_at slots i).length ≡ 0 → ⊥

-- "a text area of" as many bytes a slot as the longest command has: the text of slot i is the first of its bytes, as many as its length says
abbrev pub text_in : List Slot → List ℕ → ℕ → List ℕ
text_in slots area i = take (slot_at slots i).length (take longest (drop (longest * i) area))

-- "six allowed bytes", each `A`-`Z` or `0`-`9`
abbrev pub WellFormed : List ℕ → Type 0
WellFormed d = (length d ≡ 6) × (all_one_of name_bytes d ≡ true)

-- "Valid: at most 64 slots, an area of exactly" so many "bytes for each, used designators well formed and different, used texts accepted."
pub record ValidBoard (slots : List Slot) (area : List ℕ) : Type 0 where
  pub few : length slots ≤ most_slots
  pub bytes : length area ≡ longest * length slots
  pub named : (i : ℕ) → InUse slots i → WellFormed (slot_at slots i).designator
  pub different : (i j : ℕ) → InUse slots i → InUse slots j → (slot_at slots i).designator ≡ (slot_at slots j).designator → i ≡ j
  pub texts : (i : ℕ) → InUse slots i → ((slot_at slots i).length ≤ longest) × (check_command (text_in slots area i) ≡ Ok tt)

-- slot i is the aircraft's own
abbrev pub IsOwn : List Slot → List ℕ → ℕ → Type 0
IsOwn slots d i = InUse slots i × ((slot_at slots i).designator ≡ d)

-- "the lowest free slot"
pub record LowestFreeSlot (slots : List Slot) (i : ℕ) : Type 0 where
  pub there : i < length slots
  pub free : (slot_at slots i).length ≡ 0
  pub below : (j : ℕ) → j < i → InUse slots j

-- "then join onto that aircraft's text, or use the lowest free slot": an adding of t for the aircraft d
-- puts the text w for the aircraft e into slot i
pub record Adds (slots : List Slot) (area d t : List ℕ) (i : ℕ) (e w : List ℕ) : Type 0 where
  pub same : e ≡ d
  pub own : (j : ℕ) → IsOwn slots d j → (i ≡ j) × (w ≡ join_text (text_in slots area j) t)
  pub lowest : ((j : ℕ) → IsOwn slots d j → ⊥) → LowestFreeSlot slots i × (w ≡ t)
