-- A taking after a run: which code it is answered with, and what it hands over and leaves.
use mathlib.Core.Path.{◌≡◌, sym, ap, ap₂, ◌∙◌, subst}
use mathlib.Core.Bool.{Bool, true}
use mathlib.Core.List.{List, []}
use Prim.Native.Nat.{ℕ, ◌≤◌}
use native.Mathlib.Omega.{arith}
use lib.Dec.{leb}
use lib.ListN.{length, set, take, drop}
use borrow.Author.Tests.{le-leb}
use Rattle.text.specs.Names.{is_designator}
use Rattle.text.proofs.Equal.{same_self}
use Rattle.decide.proofs.Tests.{Says, says_no, reworded, not-said, both-said, le-said}
use Rattle.board.specs.Board.{is_none, is_for, any, lowest, waiting, Move, Free, take_out, reply_of}
use Rattle.board.specs.History.{Take as TakeFor}
use Rattle.board.specs.Lent.{on_slots}
use Rattle.board.specs.Calls.{Lent, board_in}
use Rattle.board.proofs.WaitingSlots.{lowest-passes, some_for}
use Rattle.board.proofs.Calls.{call-move}
use Rattle.board.proofs.Bytes.{HandedTo, out_holds}
use Rattle.desk.specs.Waiting.{reply_numbers}
use Rattle.desk.specs.declared.Answer.{Answer}
use Rattle.promises.specs.BoardRuns.{Take, move_of, lent_after, buffer_after, Run, now, told, next, heard, accepted_for, join_of, SixAllowed, UsedFor}
use Rattle.promises.specs.Board.{HandsOver, TakingAnswers}
use Rattle.promises.proofs.Waits.{place-used}
use Rattle.promises.proofs.InRun.{in_run, next-lent, next-heard, answer-due, none_said, some-named}
use Rattle.promises.proofs.Codes.{told_where, designator-said, TakingCodes, taking_codes}
use Rattle.promises.proofs.Waiting.{none}

module _ (r : Run) (d out : List ℕ) where
  abbrev w : List ℕ
  w = join_of (accepted_for r d)

  abbrev fits : Bool
  fits = leb (length w) (length out)

  pub codes : TakingCodes (told r (Take d out)) (is_designator d) (is_none (join_of (accepted_for r d))) (leb (length (join_of (accepted_for r d))) (length out))
  codes =
      subst (λ (a : Answer). TakingCodes a (is_designator d) (is_none w) fits) (sym (answer-due r (Take d out)))
      (taking_codes (is_designator d) (is_none w) fits w)

  pub takings : TakingAnswers r d out
  takings =
      let code : ℕ = (told r (Take d out)).code in
      let named = designator-said d in
      let nothing = none_said r d in
      let room : Says fits (length w ≤ length out) = le-said (length w) (length out) in
      let wants : ¬ (accepted_for r d ≡ []) → SixAllowed d = λ n. named.yes_so (some-named r d n) in
      let k = codes in
      record {
        four = told_where code 4 k.four (not-said named);
        eleven = told_where code 11 k.eleven (both-said named nothing);
        two =
            told_where code 2 k.two
            (reworded (both-said named (both-said (not-said nothing) (not-said room)))
            (λ p. (p.1.0, omega (arith, p.1.1)))
            (λ p. (wants p.0, (p.0, λ (l : length w ≤ length out). omega (arith, p.1)))));
        zero =
            told_where code 0 k.zero
            (reworded (both-said named (both-said (not-said nothing) room)) (λ p. p.1) (λ p. (wants p.0, p)));
        place = k.place;
      }

  -- where it is answered with code 0
  module _ (e : (told r (Take d out)).code ≡ 0) where
    here : any (is_for d) (board_in (now r)) ≡ true
    here = some_for d (board_in (now r)) (ap is_none ((in_run r).waits d) ∙ says_no (none_said r d) (takings.zero.0 e).0)

    frees : move_of (now r) (Take d out) ≡ Free (lowest (is_for d) (board_in (now r))) (waiting d (board_in (now r)))
    unfolding take_out
    frees =
        let i = in_run r in
        let q = takings.zero.0 e in
        let l : leb (length (waiting d (board_in (now r)))) (length out) ≡ true =
        ap (λ (u : List ℕ). leb (length u) (length out)) (i.waits d) ∙ le-leb (length w) (length out) q.1 in
        call-move (now r) (TakeFor d (length out)) i.shaped ∙ rw (i.valid, some-named r d q.0, here, l)

    handed : accepted_for (next r (Take d out)) d ≡ []
    handed =
        next-heard r (Take d out) d ∙ ap (λ (k : ℕ). heard d (accepted_for r d) (Take d out) k) e ∙ rw (same_self d)

    mine : UsedFor (now r) d (lowest (is_for d) (board_in (now r)))
    mine =
        place-used (now r) (in_run r).shaped d (lowest (is_for d) (board_in (now r))) (lowest-passes (is_for d) (board_in (now r)) here)

    -- it hands over what waits
    pub hands-over : HandsOver r d out
    hands-over =
        let x : Lent = now r in
        let u : List ℕ = waiting d (board_in x) in
        let same : u ≡ w = (in_run r).waits d in
        let k : (told r (Take d out)).length ≡ length u = ap (λ (z : Move). (reply_numbers (reply_of z)).length) frees in
        let o : HandedTo u out (buffer_after x (Take d out)) = out_holds x d out (lowest (is_for d) (board_in x)) u frees in
        let after : now (next r (Take d out)) ≡ lent_after x (Take d out) = next-lent r (Take d out) in
        record {
          some = (takings.zero.0 e).0;
          long = k ∙ ap length same;
          text = ap (λ (n : ℕ). take n (buffer_after x (Take d out))) k ∙ o.text ∙ same;
          rest = ap (λ (n : ℕ). drop n (buffer_after x (Take d out))) k ∙ o.rest ∙ ap (λ (n : ℕ). drop n out) (sym k);
          freed = λ t v.
              ap (λ (y : Lent). y.slots) after
              ∙ ap (λ (z : Move). on_slots z x.slots) frees
              ∙ ap₂ (λ (n : ℕ) (who : List ℕ). set x.slots n (record { designator = who; length = 0 }))
              (v.alone (lowest (is_for d) (board_in x)) mine) mine.named;
          area = ap (λ (y : Lent). y.area) after;
          gone = none (next r (Take d out)) d handed;
          handed = handed;
        }
