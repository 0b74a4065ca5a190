-- Sections 2 and 3 are refused nowhere just where each list is refused nowhere.
use mathlib.Core.Path.{◌≡◌, ◌∙◌}
use mathlib.Core.Bool.{Bool, true, ◌&&◌, and_assoc}
use mathlib.Core.List.{List, []}
use Prim.Native.Nat.{ℕ, zero, suc, ◌+◌}
use native.Mathlib.Omega.{arith}
use lib.ListN.{get_or}
use Rattle.lists.specs.declared.Boxes.{Boxes}
use Rattle.lists.specs.Lists.{boxes_allowed}
use Rattle.text.specs.Checks.{must, ◌and_then◌, is_fine}
use Rattle.text.proofs.Checks.{fine-must, fine_then}
use Rattle.section.proofs.Held.{and-fine}
use Rattle.std.specs.Prelude.{Result, Ok}
use Rattle.text.specs.declared.Refusal.{Refusal}
use Rattle.text.specs.declared.Code.{Code}

pub two-fine : (a b : Result (Unit {0}) Refusal) → is_fine (a and_then (b and_then (Ok (tt {0})))) ≡ (is_fine a && is_fine b)
two-fine a b = fine_then a (b and_then (Ok (tt {0}))) ∙ rw (and-fine b)

-- two pairs of lists, and the routine digit behind them
pub four-fine : (a b d e : Result (Unit {0}) Refusal) (t : Bool) (code : Code) (place : ℕ)
    → is_fine (a and_then (b and_then (d and_then (e and_then (must t code place and_then (Ok (tt {0})))))))
    ≡ ((is_fine a && is_fine b) && (is_fine d && is_fine e) && t)
four-fine a b d e t code place =
    let last = must t code place in
    let third = d and_then (e and_then last) in
    rw (and-fine last, fine_then a (b and_then third), fine_then b third, fine_then d (e and_then last), fine_then e last, fine-must t code place)
    (simp and_assoc)

-- ---- Lists of boxes, each wherever it stands

-- the first n of them
abbrev pub all_fine : (ℕ → ℕ) → ℕ → List Boxes → Bool
all_fine at zero ls = true
all_fine at (suc n) ls = all_fine at n ls && is_fine (boxes_allowed (at n) (get_or ls n (record { count = 0; regions = [] })))

-- one more
pub all_turn : (at : ℕ → ℕ) (n : ℕ) (ls : List Boxes)
    → (all_fine at n ls && is_fine (boxes_allowed (at n) (get_or ls n (record { count = 0; regions = [] })))) ≡ all_fine at (n + 1) ls
all_turn at n ls = let e : n + 1 ≡ suc n = omega arith in rw e

pub ruleset fine = (four-fine, two-fine)
