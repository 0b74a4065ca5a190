-- An adding after a run: which code it is answered with, and where the text then stands.
use mathlib.Core.Path.{◌≡◌, refl, sym, ap, ◌∙◌, subst}
use mathlib.Core.Bool.{Bool, true, false, not, ◌&&◌}
use mathlib.Core.List.{List, [], ◌∷◌, ◌++◌, foldl, foldl-append}
use Prim.Native.Nat.{ℕ, ◌*◌, ◌<◌}
use native.Mathlib.Omega.{arith}
use lib.ListN.{length, set}
use Rattle.text.specs.Names.{is_designator}
use Rattle.text.specs.Over.{over}
use Rattle.text.proofs.Cases.{by_test, by_eq}
use Rattle.text.proofs.Equal.{same_self}
use Rattle.command.specs.Text.{longest, check_command}
use Rattle.join.specs.Join.{join_text}
use Rattle.decide.proofs.Tests.{Says, says_no, reworded, not-said, both-said}
use Rattle.board.specs.Board.{is_none, is_free, is_for, any, lowest, waiting, placing, Move, Put, add, Given, Refused, reply_of}
use Rattle.board.specs.History.{Add as AddFor, onto}
use Rattle.board.specs.Lent.{on_slots, on_area}
use Rattle.board.specs.Calls.{Lent, board_in}
use Rattle.board.proofs.WaitingSlots.{never, lowest-passes, none_passes, waiting-any}
use Rattle.board.proofs.Valid.{only}
use Rattle.board.proofs.Steps.{onto-some, onto-none}
use Rattle.board.proofs.Calls.{call-move}
use Rattle.desk.specs.Waiting.{reply_numbers}
use Rattle.desk.specs.declared.Answer.{Answer}
use Rattle.promises.specs.BoardRuns.{Add, move_of, lent_after, slot_at, Run, now, told, next, heard, accepted_for, join_of, UsedFor, NothingWaits, NoneFree}
use Rattle.promises.specs.Board.{AddingAnswers, Stores}
use Rattle.promises.proofs.Waits.{none-free-said, lowest-free, used-place, place-used, nothing_said}
use Rattle.promises.proofs.InRun.{in_run, next-lent, next-heard, answer-due, none_said}
use Rattle.promises.proofs.Codes.{told_where, designator-said, accepted-fine, accepted-said, own-numbers, AddingCodes, adding_codes}
use Rattle.std.specs.Prelude.{Ok}

-- one more is joined on
join_snoc : (ts : List (List ℕ)) (t : List ℕ) → (¬ (ts ≡ []) → is_none (join_of ts) ≡ false) → join_of (ts ++ (t ∷ [])) ≡ onto (join_of ts) t
join_snoc [] t s = refl
join_snoc (u ∷ us) t s =
    foldl-append join_text u us (t ∷ [])
    ∙ sym (onto-some (foldl join_text u us) t (s (λ e. let z : ◌≡◌ {A = ℕ} 0 1 = cc in omega arith)))

-- the slot i that the text is put into
record Puts (r : Run) (d t : List ℕ) (i : ℕ) : Type 0 where
  move : move_of (now r) (Add d t) ≡ Put i d (onto (waiting d (board_in (now r))) t)
  inside : i < length (now r).slots
  own : (j : ℕ) → UsedFor (now r) d j → j ≡ i
  free : NothingWaits (now r) d → (slot_at (now r) i).length ≡ 0
  below : NothingWaits (now r) d → (j : ℕ) → j < i → 0 < (slot_at (now r) j).length

module _ (r : Run) (d t : List ℕ) where
  -- a slot is wanting
  abbrev full : Bool
  full = is_none (join_of (accepted_for r d)) && not (any is_free (board_in (now r)))

  full-said : Says full (NothingWaits (now r) d × NoneFree (now r))
  full-said =
      let i = in_run r in
      both-said
      (subst (λ (u : List ℕ). Says (is_none u) (NothingWaits (now r) d)) (i.waits d) (nothing_said (now r) i.shaped d i.valid))
      (none-free-said (now r) i.shaped)

  pub codes : AddingCodes (told r (Add d t)) (is_designator d) (check_command t) full
  codes =
      subst (λ (a : Answer). AddingCodes a (is_designator d) (check_command t) full)
      (sym (answer-due r (Add d t)))
      (adding_codes (is_designator d) t (check_command t) (is_none (join_of (accepted_for r d))) (any is_free (board_in (now r)))
      (onto (join_of (accepted_for r d)) t) refl)

  pub addings : AddingAnswers r d t
  addings =
      let code : ℕ = (told r (Add d t)).code in
      let named = designator-said d in
      let fine = accepted-said t in
      let k = codes in
      let given = Given (onto (join_of (accepted_for r d)) t) in
      record {
        four = λ n. answer-due r (Add d t) ∙ rw (says_no named n);
        own = λ n q.
            answer-due r (Add d t)
            ∙ rw (named.so_yes n)
            (own-numbers (check_command t) (placing Refused (not (is_none (join_of (accepted_for r d)))) (any is_free (board_in (now r))) given given) q);
        nine =
            told_where code 9 k.nine
            (reworded (both-said named (both-said fine full-said))
            (λ p. (p.0, p.1.0, p.1.1.0, p.1.1.1))
            (λ p. (p.0, (p.1, (p.2, p.3)))));
        zero =
            told_where code 0 k.zero
            (reworded (both-said named (both-said fine (not-said full-said)))
            (λ p. (p.0, p.1.0, p.1.1))
            (λ p. (p.0, (p.1, p.2))));
        place = λ a. k.place (accepted-fine t a);
      }

  -- where it is answered with code 0
  module _ (e : (told r (Add d t)).code ≡ 0) where
    one_more : accepted_for (next r (Add d t)) d ≡ accepted_for r d ++ (t ∷ [])
    one_more =
        next-heard r (Add d t) d ∙ ap (λ (c : ℕ). heard d (accepted_for r d) (Add d t) c) e ∙ rw (same_self d)

    -- what then waits
    then_joined : onto (waiting d (board_in (now r))) t ≡ join_of (accepted_for (next r (Add d t)) d)
    then_joined =
        ap (λ (u : List ℕ). onto u t) ((in_run r).waits d)
        ∙ sym (join_snoc (accepted_for r d) t (says_no (none_said r d)))
        ∙ ap join_of (sym one_more)

    named : is_designator d ≡ true
    named = (designator-said d).so_yes (addings.zero.0 e).0

    is-fine : check_command t ≡ (Ok tt)
    is-fine = accepted-fine t (addings.zero.0 e).1

    -- the aircraft's own
    own_puts : any (is_for d) (board_in (now r)) ≡ true → Puts r d t (lowest (is_for d) (board_in (now r)))
    unfolding add
    own_puts h =
        let i = in_run r in
        let s : ℕ = lowest (is_for d) (board_in (now r)) in
        let mine = lowest-passes (is_for d) (board_in (now r)) h in
        let u : UsedFor (now r) d s = place-used (now r) i.shaped d s mine in
        record {
          move =
              call-move (now r) (AddFor d t) i.shaped
              ∙ rw (i.valid, named, is-fine, h)
              (ap (Put s d) (sym (onto-some (waiting d (board_in (now r))) t (waiting-any d (board_in (now r)) ∙ ap not h))));
          inside = u.inside;
          own = λ j q.
              by_eq j s (λ z. z)
              (λ z. never (used-place (now r) i.shaped d j q) (only d (board_in (now r)) i.valid s j mine z));
          free = λ n. absurd (n s u);
          below = λ n. absurd (n s u);
        }

    -- or the lowest free one
    free_puts : any (is_for d) (board_in (now r)) ≡ false → any is_free (board_in (now r)) ≡ true
        → Puts r d t (lowest is_free (board_in (now r)))
    unfolding add is_for is_free
    free_puts h f =
        let i = in_run r in
        let s : ℕ = lowest is_free (board_in (now r)) in
        let l = lowest-free (now r) i.shaped f in
        record {
          move =
              call-move (now r) (AddFor d t) i.shaped
              ∙ rw (i.valid, named, is-fine, h, f)
              (ap (Put s d) (sym (onto-none (waiting d (board_in (now r))) t (waiting-any d (board_in (now r)) ∙ ap not h))));
          inside = l.inside;
          own = λ j q. never (used-place (now r) i.shaped d j q) (none_passes (is_for d) (board_in (now r)) refl h j);
          free = λ n. l.free;
          below = λ n. l.below;
        }

    puts : (i : ℕ) × Puts r d t i
    puts =
        by_test (any (is_for d) (board_in (now r)))
        (λ h. (lowest (is_for d) (board_in (now r)), own_puts h))
        (λ h.
        let none : is_none (join_of (accepted_for r d)) ≡ true =
        ap is_none (sym ((in_run r).waits d)) ∙ waiting-any d (board_in (now r)) ∙ ap not h in
        by_test (any is_free (board_in (now r)))
        (λ f. (lowest is_free (board_in (now r)), free_puts h f))
        (λ f. absurd ((addings.zero.0 e).2 (full-said.yes_so (rw (none, f))))))

    -- and nothing else changes
    pub stores : Stores r d t
    stores =
        let x : Lent = now r in
        let p = puts.1 in
        let i : ℕ = puts.0 in
        let after : now (next r (Add d t)) ≡ lent_after x (Add d t) = next-lent r (Add d t) in
        record {
          heard = one_more;
          long = ap (λ (m : Move). (reply_numbers (reply_of m)).length) p.move ∙ ap length then_joined;
          slot = i;
          inside = p.inside;
          own = p.own;
          free = p.free;
          lowest = p.below;
          slots =
              ap (λ (y : Lent). y.slots) after
              ∙ ap (λ (m : Move). on_slots m x.slots) p.move
              ∙ ap (λ (u : List ℕ). set x.slots i (record { designator = d; length = length u })) then_joined;
          area =
              ap (λ (y : Lent). y.area) after
              ∙ ap (λ (m : Move). on_area m x.area) p.move
              ∙ ap (λ (u : List ℕ). over x.area (longest * i) u) then_joined;
        }
