-- The board's own adding is the case of one office that may do all, beside one that may do nothing.
use mathlib.Core.Path.{◌≡◌, refl}
use mathlib.Core.Bool.{false, not, and-false}
use mathlib.Core.List.{List, [], ◌∷◌}
use Prim.Native.Nat.{ℕ, zero, suc}
use lib.Dec.{eqb}
use lib.ListN.{get_or, replicate}
use Rattle.text.specs.Parts.{part}
use Rattle.text.specs.Checks.{is_fine}
use Rattle.command.specs.Text.{check_command}
use Rattle.board.specs.Board.{WaitingSlot, add}
use Rattle.board.specs.Lent.{add_lent}
use Rattle.board.specs.declared.Slot.{Slot}
use Rattle.offices.specs.Offices.{any_place, ungranted, overlap, outside, everything, nothing, add_by, office_add, office_lent}
use Rattle.offices.specs.Inner.{barred}
use Rattle.offices.proofs.Admitted.{not-barred, free-lent}

-- by definition it is the adding whose admission is the command's check
pub add-checked : (b : List WaitingSlot) (d t : List ℕ) → add b d t ≡ add_by (check_command t) b d t
unfolding add
add-checked b d t = refl

-- nothing is outside a grant of everything
all_granted : (none n : ℕ) (bs : List ℕ) → any_place (ungranted none) bs (replicate n 1) ≡ false
unfolding any_place
all_granted none zero [] = refl
all_granted none zero (b ∷ bs) = refl
all_granted none (suc n) [] = refl
all_granted none (suc n) (b ∷ bs) = rw (and-false (not (eqb b none))) (all_granted none n bs)

pub nothing-outside : (s : List ℕ) → outside everything s ≡ false
unfolding outside
nothing-outside s = rw (all_granted 57 7 (part 5 7 s), all_granted 48 8 (part 13 8 s)) (and-false (not (eqb (get_or s 12 0) 48)))

never-barred : (s : List ℕ) → barred everything s ≡ false
unfolding barred
never-barred s = rw (nothing-outside s) (and-false (is_fine (check_command s)))

no-overlap : overlap everything nothing ≡ false
unfolding overlap any_place
no-overlap = refl

-- so the two are one
pub one_office : (b : List WaitingSlot) (d t : List ℕ) → office_add everything nothing b d t ≡ add b d t
unfolding office_add add
one_office b d t = rw (no-overlap, not-barred everything t (never-barred t))

pub one-office_lent : (xs : List Slot) (area d t : List ℕ) → office_lent everything nothing xs area d t ≡ add_lent xs area d t
one-office_lent xs area d t = free-lent everything nothing xs area d t no-overlap (never-barred t)
