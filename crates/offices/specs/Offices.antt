-- Document 02, §6: two offices share one board, each within its grant.
use Rattle.std.specs.Prelude.{Bool, false, cond, not, ◌&&◌, ◌||◌, List, [], ◌∷◌, ℕ, eqb, get_or, replicate, Result}
use Rattle.text.specs.Names.{is_designator}
use Rattle.text.specs.Parts.{part}
use Rattle.text.specs.Checks.{must, ◌and_then◌}
use Rattle.text.specs.declared.Refusal.{Refusal}
use Rattle.text.specs.declared.Code.TheVariants.{BoardInvalid, NotGranted}
use Rattle.command.specs.Text.{check_command}
use Rattle.board.specs.Board.{WaitingSlot, is_valid, Move, Stay, past_refusals, placed}
use Rattle.board.specs.Lent.{board_of, is_shaped}
use Rattle.board.specs.declared.Slot.{Slot}
use Rattle.offices.specs.declared.Grant.{Grant}

-- ---- "Each office has a grant: which flags, which sections, and whether it may ask for downlinks."

-- a grant has a byte for each flag, for downlinks and for each of sections 2 to 9, in the order of a command's bytes 5 to 20;
-- one that is not 0 grants
abbrev pub is_grant : ℕ → Bool
is_grant g = not (eqb g 0)

-- one office that may do all, and one that may do nothing
abbrev pub everything : Grant
everything = record { flags = replicate 7 1; downlinks = 1; sections = replicate 8 1 }

abbrev pub nothing : Grant
nothing = record { flags = replicate 7 0; downlinks = 0; sections = replicate 8 0 }

-- some place of two lists passes a test
unfoldable pub any_place : (ℕ → ℕ → Bool) → List ℕ → List ℕ → Bool
any_place test [] ys = false
any_place test (x ∷ xs) [] = false
any_place test (x ∷ xs) (y ∷ ys) = test x y || any_place test xs ys

-- ---- "The grants may not overlap; at most one has downlinks."

abbrev pub both_grant : ℕ → ℕ → Bool
both_grant g h = is_grant g && is_grant h

unfoldable pub overlap : Grant → Grant → Bool
overlap own other =
    any_place both_grant own.flags other.flags
    || (any_place both_grant own.sections other.sections || both_grant own.downlinks other.downlinks)

-- ---- "A command that sets or asks for anything outside its grant is refused, with nothing changed."

-- a byte that sets or asks, and is not granted: `none` is the byte that does not
abbrev pub ungranted : ℕ → ℕ → ℕ → Bool
ungranted none b g = not (eqb b none) && not (is_grant g)

-- a flag `9` sets none, an indicator `0` names none, a digit `0` asks for none
unfoldable pub outside : Grant → List ℕ → Bool
outside g s =
    any_place (ungranted 57) (part 5 7 s) g.flags
    || (any_place (ungranted 48) (part 13 8 s) g.sections || ungranted 48 (get_or s 12 0) g.downlinks)

-- the command's own refusals, then 13 (not granted) at place 0
unfoldable pub admission : Grant → List ℕ → Result (Unit {0}) Refusal
admission g s = check_command s and_then must (not (outside g s)) NotGranted 0

-- ---- Adding

-- adding, by what a command's admission sees; the board's own add is this with the command's check
abbrev pub add_by : Result (Unit {0}) Refusal → List WaitingSlot → List ℕ → List ℕ → Move
add_by seen b d t = past_refusals Stay (is_valid b) (is_designator d) seen (placed b d t)

-- "grants that overlap or both have downlinks give 13 before any other code"
unfoldable pub office_add : Grant → Grant → List WaitingSlot → List ℕ → List ℕ → Move
office_add own other b d t = cond (overlap own other) (Stay NotGranted 0) (add_by (admission own t) b d t)

-- on the board as it is lent
unfoldable pub office_lent : Grant → Grant → List Slot → List ℕ → List ℕ → List ℕ → Move
office_lent own other xs area d t =
    cond (overlap own other) (Stay NotGranted 0)
    (cond (is_shaped xs area) (add_by (admission own t) (board_of xs area) d t) (Stay BoardInvalid 0))
