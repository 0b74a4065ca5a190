-- The board as it is lent: a run of at most 64 slot records, and a text area with the longest command's bytes a slot.
use Rattle.std.specs.Prelude.{Bool, true, cond, ◌&&◌, List, [], ◌∷◌, ℕ, ◌*◌, leb, eqb, length, get_or, set, take, drop, replicate}
use Rattle.text.specs.Over.{over}
use Rattle.text.specs.declared.Code.TheVariants.{BoardInvalid}
use Rattle.command.specs.Text.{longest}
use Rattle.board.specs.Board.{most_slots, WaitingSlot, Move, Stay, Put, Free, add, take_out, is_valid}
use Rattle.board.specs.declared.Slot.{Slot}

-- what waits, by slots and area: in each slot the first of its own bytes, as many as its length says
unfoldable pub board_of : List Slot → List ℕ → List WaitingSlot
board_of [] area = []
board_of (x ∷ xs) area =
    record { who = x.designator; text = take x.length (take longest area) } ∷ board_of xs (drop longest area)

unfoldable pub lengths_fit : List Slot → Bool
lengths_fit [] = true
lengths_fit (x ∷ xs) = leb x.length longest && lengths_fit xs

-- at most 64 slots, an area of exactly the longest for each, no length above it
unfoldable pub is_shaped : List Slot → List ℕ → Bool
is_shaped xs area = leb (length xs) most_slots && (eqb (length area) (longest * length xs) && lengths_fit xs)

-- a board that is not valid is 10
unfoldable pub add_lent : List Slot → List ℕ → List ℕ → List ℕ → Move
add_lent xs area d t = cond (is_shaped xs area) (add (board_of xs area) d t) (Stay BoardInvalid 0)

unfoldable pub take_lent : List Slot → List ℕ → List ℕ → ℕ → Move
take_lent xs area d room = cond (is_shaped xs area) (take_out (board_of xs area) d room) (Stay BoardInvalid 0)

unfoldable pub is_valid_lent : List Slot → List ℕ → Bool
is_valid_lent xs area = is_shaped xs area && is_valid (board_of xs area)

-- ---- What is lent holds afterwards: other slots keep every byte; a freed slot keeps its designator and its text bytes

abbrev pub no_slot : Slot
no_slot = record { designator = replicate 6 0; length = 0 }

abbrev pub on_slots : Move → List Slot → List Slot
on_slots (Stay code place) xs = xs
on_slots (Put i d t) xs = set xs i (record { designator = d; length = length t })
on_slots (Free i t) xs = set xs i (record { designator = (get_or xs i no_slot).designator; length = 0 })

abbrev pub on_area : Move → List ℕ → List ℕ
on_area (Stay code place) area = area
on_area (Put i d t) area = over area (longest * i) t
on_area (Free i t) area = area

-- the output buffer of a taking
abbrev pub on_out : Move → List ℕ → List ℕ
on_out (Stay code place) out = out
on_out (Put i d t) out = out
on_out (Free i t) out = over out 0 t
