-- No call is refused with code 0, and a taking leaves the text area; of any lent memory.
use mathlib.Core.Path.{◌≡◌, refl}
use mathlib.Core.Bool.{Bool, true, false, cond}
use mathlib.Core.List.{List}
use Prim.Native.Nat.{ℕ, ◌≤◌}
use native.Mathlib.Omega.{arith}
use lib.Dec.{leb}
use lib.ListN.{length}
use Rattle.std.specs.Prelude.{Result, Ok}
use Rattle.text.specs.Names.{is_designator}
use Rattle.text.proofs.Codes.{numbered}
use Rattle.text.specs.declared.Refusal.{Refusal}
use Rattle.text.specs.Checks.{refuse}
use Rattle.text.specs.Codes.{number_of}
use Rattle.text.specs.declared.Code.{Code}
use Rattle.text.specs.declared.Code.TheVariants.{BoardInvalid}
use Rattle.command.specs.Text.{check_command}
use Rattle.join.specs.Join.{join_text}
use Rattle.board.specs.Board.{WaitingSlot, is_free, is_for, any, lowest, waiting, is_valid, Move, Stay, Put, Free, placed, handed_out, add, take_out}
use Rattle.board.specs.History.{Event, Add, Take}
use Rattle.board.specs.Lent.{is_shaped, add_lent, take_lent, on_area}
use Rattle.board.specs.Calls.{Lent, board_in, call}
use Rattle.board.proofs.Refusals.{refusals-all, placing-all, handing-all}

-- what holds of both ways holds of a choice
either : (P : Move → Type 0) (t : Bool) (m n : Move) → P m → P n → P (cond t m n)
either P true m n a b = a
either P false m n a b = b

-- no refusal has code 0
abbrev pub Coded : Move → Type 0
Coded (Stay code place) = 1 ≤ number_of code
Coded (Put i d t) = Unit
Coded (Free i t) = Unit

add-coded : (b : List WaitingSlot) (d t : List ℕ) → Coded (add b d t)
unfolding add
add-coded b d t =
    refusals-all Coded Stay (is_valid b) (is_designator d) (check_command t) (placed b d t) (omega arith) (omega arith)
    (λ code place k. (numbered code).least)
    (λ v n s.
    placing-all Coded Stay (any (is_for d) b) (any is_free b) (Put (lowest (is_for d) b) d (join_text (waiting d b) t))
    (Put (lowest is_free b) d t) (omega arith) (λ k. tt) (λ k f. tt))

-- a taking hands over or is refused
abbrev Hands : Move → Type 0
Hands m = Coded m × ((area : List ℕ) → on_area m area ≡ area)

take-hands : (b : List WaitingSlot) (d : List ℕ) (room : ℕ) → Hands (take_out b d room)
unfolding take_out
take-hands b d room =
    refusals-all Hands Stay (is_valid b) (is_designator d) (Ok tt) (handed_out b d room) (omega arith, λ area. refl)
    (omega arith, λ area. refl) (λ code place k. never_bad k)
    (λ v n s.
    handing-all Hands Stay (any (is_for d) b) (leb (length (waiting d b)) room) (Free (lowest (is_for d) b) (waiting d b))
    (omega arith, λ area. refl) (omega arith, λ area. refl) (λ k l. (tt, λ area. refl)))
  where
    never_bad : {code : Code} {place : ℕ} → ◌≡◌ {A = Result (Unit {0}) Refusal} (Ok tt) (refuse code place) → Hands (Stay code place)
    never_bad e = let z : ◌≡◌ {A = ℕ} 0 1 = cc in absurd (omega arith)

-- no call is refused with code 0
pub call-coded : (x : Lent) (e : Event) → Coded (call x e)
unfolding add_lent take_lent
call-coded x (Add d t) =
    either Coded (is_shaped x.slots x.area) (add (board_in x) d t) (Stay BoardInvalid 0)
    (add-coded (board_in x) d t) (omega arith)
call-coded x (Take d room) =
    either Coded (is_shaped x.slots x.area) (take_out (board_in x) d room) (Stay BoardInvalid 0)
    (take-hands (board_in x) d room).0 (omega arith)

-- a taking leaves the area
pub take-area : (x : Lent) (d : List ℕ) (room : ℕ) → on_area (call x (Take d room)) x.area ≡ x.area
unfolding take_lent
take-area x d room =
    either (λ m. on_area m x.area ≡ x.area) (is_shaped x.slots x.area) (take_out (board_in x) d room) (Stay BoardInvalid 0)
    ((take-hands (board_in x) d room).1 x.area) refl
