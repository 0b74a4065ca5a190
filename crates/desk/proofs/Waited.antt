-- What the calls on the waiting board answer and leave, from what their parts did.
use mathlib.Core.Path.{◌≡◌, refl, ap, ◌∙◌}
use mathlib.Core.List.{List}
use Prim.Native.Nat.{ℕ}
use Rattle.std.specs.Prelude.{Result}
use Rattle.text.specs.declared.Refusal.{Refusal}
use Rattle.board.specs.Board.{Move, Stay, Put, Free, reply_of}
use Rattle.board.specs.Lent.{is_valid_lent, on_slots}
use Rattle.board.specs.Inner.{Wanted, wanted_by, scanned, done_of, stored_in}
use Rattle.board.specs.declared.Slot.{Slot}
use Rattle.board.specs.declared.Stored.{Stored}
use Rattle.board.specs.declared.Findings.{Findings}
use Rattle.board.proofs.Called.{valid-is}
use Rattle.desk.specs.Waiting.{reply_numbers, board_numbers, stored_numbers}
use Rattle.desk.specs.declared.Answer.{Answer}

-- the answer is the reply's
pub stored_answer : (w : Wanted) (m : Move) → stored_numbers (done_of w m) ≡ reply_numbers (reply_of m)
stored_answer w (Stay code place) = refl
stored_answer w (Put i d t) = refl
stored_answer w (Free i t) = refl

-- a call that moves as `moved` says of what the look found, which is as `base` does
module _ (ys : List Slot) (area d : List ℕ) (w : Wanted) (v : Findings) (done : Result Stored Refusal) (zs : List Slot) (moved : Findings → Wanted → Move) (base : Move) (is : moved (scanned area (wanted_by d) ys) (wanted_by d) ≡ base) (at_slots : stored_in (done_of (wanted_by d) base) ys ≡ on_slots base ys) (ew : w ≡ wanted_by d) (ev : v ≡ scanned area w ys) (es : done ≡ done_of w (moved v w)) (ez : zs ≡ stored_in done ys) where
  pub move_is : moved v w ≡ base
  move_is =
      ap (λ (x : Findings). moved x w) ev
      ∙ ap (λ (x : Wanted). moved (scanned area x ys) x) ew
      ∙ is

  done_is : done ≡ done_of (wanted_by d) base
  done_is = es ∙ ap (done_of w) move_is ∙ ap (λ (x : Wanted). done_of x base) ew

  pub says : (stored_numbers done ≡ reply_numbers (reply_of base)) × (zs ≡ on_slots base ys)
  says = (
    ap stored_numbers done_is ∙ stored_answer (wanted_by d) base,
    ez ∙ ap (λ (x : Result Stored Refusal). stored_in x ys) done_is ∙ at_slots,
  )

-- a check
pub check_says : (ys : List Slot) (area : List ℕ) (w : Wanted) (v : Findings) (r : Answer) → v ≡ scanned area w ys → r ≡ board_numbers v.valid
    → r ≡ board_numbers (is_valid_lent ys area)
check_says ys area w v r ev e = e ∙ ap (λ (x : Findings). board_numbers x.valid) ev ∙ ap board_numbers (valid-is area w ys)
