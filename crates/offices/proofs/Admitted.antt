-- What an office's adding does: 13 for grants that overlap; where the command is barred, 10, 4 or 13; else what the board's own adding
-- does.
use mathlib.Core.Path.{◌≡◌, refl, sym, ap, ◌∙◌}
use mathlib.Core.Bool.{Bool, true, false, cond, not, ◌&&◌}
use mathlib.Core.List.{List}
use Prim.Native.Nat.{ℕ, ◌<◌}
use native.Mathlib.Omega.{arith}
use lib.ListN.{length}
use Rattle.std.specs.Prelude.{is_some, Result, Ok, Err}
use Rattle.text.specs.Names.{is_designator}
use Rattle.text.specs.Checks.{must, ◌and_then◌, is_fine, refuse}
use Rattle.text.proofs.Cases.{by_test}
use Rattle.text.proofs.Checks.{fine-is}
use Rattle.text.specs.declared.Refusal.{Refusal}
use Rattle.text.specs.declared.Code.{Code}
use Rattle.text.specs.declared.Code.TheVariants.{NotAllowed, BoardInvalid, NotGranted}
use Rattle.command.specs.Text.{check_command}
use Rattle.command.proofs.Accepted.{accepted}
use Rattle.board.specs.Board.{is_valid, Move, Stay, placed, add}
use Rattle.board.specs.Lent.{board_of, is_shaped, add_lent, is_valid_lent, on_slots}
use Rattle.board.specs.Inner.{Wanted, wanted_by, scanned, done_of, stored_in, add_move}
use Rattle.board.specs.declared.Slot.{Slot}
use Rattle.board.specs.declared.Findings.{Findings}
use Rattle.board.proofs.Refusals.{refusals-shaped}
use Rattle.board.proofs.Called.{valid-is, wanted-is, add_is, add-slots, done_slots}
use Rattle.offices.specs.Offices.{overlap, outside, admission, office_lent}
use Rattle.offices.specs.Inner.{barred, office_move}
use Rattle.offices.specs.declared.Grant.{Grant}

-- ---- Admission

-- no text of fewer than 22 bytes is accepted
pub short_refused : (s : List ℕ) → length s < 22 → is_fine (check_command s) ≡ false
short_refused s l =
    by_test (is_fine (check_command s))
    (λ f. let i = (accepted s (fine-is (check_command s) f)).head.inside in absurd (omega arith))
    (λ f. f)

-- a command that is not barred is admitted as its check says
pub not-barred : (g : Grant) (s : List ℕ) → barred g s ≡ false → admission g s ≡ check_command s
unfolding barred admission
not-barred g s = go (check_command s) (outside g s)
  where
    go : (x : Result (Unit {0}) Refusal) (o : Bool) → (is_fine x && o) ≡ false → (x and_then must (not o) NotGranted 0) ≡ x
    go (Ok u) o e = rw e
    go (Err r) o e = refl

-- a barred one is 13
pub is-barred : (g : Grant) (s : List ℕ) → barred g s ≡ true → admission g s ≡ refuse NotGranted 0
unfolding barred admission
is-barred g s = go (check_command s) (outside g s)
  where
    go : (x : Result (Unit {0}) Refusal) (o : Bool) → (is_fine x && o) ≡ true → (x and_then must (not o) NotGranted 0) ≡ refuse NotGranted 0
    go (Ok u) o e = rw e
    go (Err r) o e = let z : ◌≡◌ {A = Bool} false true = e in cc

-- ---- By what was found

module _ (own other : Grant) (v : Findings) (w : Wanted) (area t : List ℕ) where
  pub overlap-move : overlap own other ≡ true → office_move own other v w area t ≡ Stay NotGranted 0
  unfolding office_move
  overlap-move o = rw o

  pub free_move_lem : overlap own other ≡ false → barred own t ≡ false → office_move own other v w area t ≡ add_move v w area t
  unfolding office_move add_move
  free_move_lem o n = rw (o, not-barred own t n)

  pub barred-move : overlap own other ≡ false → barred own t ≡ true
      → office_move own other v w area t ≡ cond v.valid (cond (is_some w) (Stay NotGranted 0) (Stay NotAllowed 0)) (Stay BoardInvalid 0)
  unfolding office_move
  barred-move o n = rw (o, is-barred own t n)

-- ---- On the board as it is lent

module _ (own other : Grant) (xs : List Slot) (area d t : List ℕ) where
  pub overlap-lent : overlap own other ≡ true → office_lent own other xs area d t ≡ Stay NotGranted 0
  unfolding office_lent
  overlap-lent o = rw o

  pub free-lent : overlap own other ≡ false → barred own t ≡ false → office_lent own other xs area d t ≡ add_lent xs area d t
  unfolding office_lent add_lent add
  free-lent o n = rw (o, not-barred own t n)

  pub barred-lent : overlap own other ≡ false → barred own t ≡ true
      → office_lent own other xs area d t ≡ cond (is_valid_lent xs area) (cond (is_designator d) (Stay NotGranted 0) (Stay NotAllowed 0)) (Stay BoardInvalid 0)
  unfolding office_lent is_valid_lent
  barred-lent o n =
      rw (o, is-barred own t n)
      (refusals-shaped Stay (is_shaped xs area) (is_valid (board_of xs area)) (is_designator d) (refuse NotGranted 0) (placed (board_of xs area) d t))

  -- so it is a refusal, or what the board's own adding does
  pub office_cases : (P : Move → Type 0) → ((code : Code) → P (Stay code 0)) → P (add_lent xs area d t) → P (office_lent own other xs area d t)
  office_cases P stay adds =
      by_test (overlap own other)
      (λ o. rw (overlap-lent o) (stay NotGranted))
      (λ o.
      by_test (barred own t)
      (λ n. rw (barred-lent o n) (three (is_valid_lent xs area) (is_designator d)))
      (λ n. rw (free-lent o n) adds))
    where
      three : (a b : Bool) → P (cond a (cond b (Stay NotGranted 0) (Stay NotAllowed 0)) (Stay BoardInvalid 0))
      three true true = stay NotGranted
      three true false = stay NotAllowed
      three false b = stay BoardInvalid

  -- ---- For the call over the lent slots

  abbrev asked : Wanted
  asked = wanted_by d

  abbrev seen : Findings
  seen = scanned area asked xs

  -- what the look finds leads to the same
  pub office_is : office_move own other seen asked area t ≡ office_lent own other xs area d t
  office_is =
      by_test (overlap own other)
      (λ o. overlap-move own other seen asked area t o ∙ sym (overlap-lent o))
      (λ o.
      by_test (barred own t)
      (λ n.
      barred-move own other seen asked area t o n
      ∙ rw (valid-is area asked xs, wanted-is d) (sym (barred-lent o n)))
      (λ n. free_move_lem own other seen asked area t o n ∙ add_is area xs d t ∙ sym (free-lent o n)))

  pub office_done : done_of asked (office_move own other seen asked area t) ≡ done_of asked (office_lent own other xs area d t)
  office_done = ap (λ (m : Move). done_of asked m) office_is

  -- and the slots afterwards
  pub office_slots : stored_in (done_of asked (office_lent own other xs area d t)) xs ≡ on_slots (office_lent own other xs area d t) xs
  office_slots =
      office_cases (λ m. stored_in (done_of asked m) xs ≡ on_slots m xs)
      (λ code. done_slots asked xs (Stay code 0) tt)
      (add-slots area xs d t)
