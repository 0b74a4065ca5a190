-- After every run on a board that began empty: what is lent is a valid board, and what waits is what the numbers say.
use mathlib.Core.Path.{◌≡◌, refl, sym, ap, ◌∙◌}
use mathlib.Core.Bool.{true}
use mathlib.Core.List.{List, [], ◌∷◌, foldl, map}
use Prim.Native.Nat.{ℕ}
use Rattle.text.specs.Names.{is_designator}
use Rattle.text.specs.Checks.{is_fine}
use Rattle.text.proofs.Cases.{both_left, both_right}
use Rattle.command.specs.Text.{check_command}
use Rattle.join.specs.Join.{join_text}
use Rattle.decide.proofs.Tests.{Says, says_no}
use Rattle.board.specs.Board.{WaitingSlot, is_none, is_free, any, waiting, is_valid, reply_of}
use Rattle.board.specs.History.{Event, since, onto, joined, no_commands, after, logged, due, aircraft as aircraftOf}
use Rattle.board.specs.Lent.{is_shaped}
use Rattle.board.specs.Calls.{Lent, board_in}
use Rattle.board.proofs.WaitingSlots.{never, some_for}
use Rattle.board.proofs.Valid.{waiting-named}
use Rattle.board.proofs.Steps.{accepted-some, joins, right}
use Rattle.board.proofs.Joined.{all_fine, joined-none}
use Rattle.board.proofs.Run.{InStep}
use Rattle.board.proofs.Demand.{in_step}
use Rattle.board.proofs.Calls.{call-move, RunsAs, run_lent, free-empty}
use Rattle.desk.specs.Waiting.{reply_numbers}
use Rattle.promises.specs.BoardRuns.{Call, lent_after, Run, now, told, next, heard, accepted_for, join_of}
use Rattle.promises.proofs.Asked.{asked, move-asked, after-asked, since-asked, after_next, heard-next}
use Rattle.promises.proofs.Waits.{began-free, began-shaped}

-- ---- Joined in order

join-onto : (ts : List (List ℕ)) (w : List ℕ) → is_fine (check_command w) ≡ true → all_fine ts ≡ true
    → foldl onto w ts ≡ foldl join_text w ts
unfolding all_fine
join-onto [] w f a = refl
join-onto (t ∷ ts) [] f a = never refl (accepted-some [] f)
join-onto (t ∷ ts) (b ∷ w) f a =
    join-onto ts (join_text (b ∷ w) t) (joins (b ∷ w) t f (both_left (is_fine (check_command t)) (all_fine ts) a))
    (both_right (is_fine (check_command t)) (all_fine ts) a)

-- accepted commands joined in order
pub joined_is : (ts : List (List ℕ)) → all_fine ts ≡ true → joined ts ≡ join_of ts
unfolding joined all_fine
joined_is [] a = refl
joined_is (t ∷ ts) a =
    join-onto ts t (both_left (is_fine (check_command t)) (all_fine ts) a) (both_right (is_fine (check_command t)) (all_fine ts) a)

-- ---- In step

pub record InRun (r : Run) : Type 0 where
  pub shaped : is_shaped (now r).slots (now r).area ≡ true
  pub valid : is_valid (board_in (now r)) ≡ true
  pub fine : (d : List ℕ) → all_fine (accepted_for r d) ≡ true
  pub waits : (d : List ℕ) → waiting d (board_in (now r)) ≡ join_of (accepted_for r d)

pub in_run : (r : Run) → InRun r
in_run r =
    let es : List Event = map asked r.calls in
    let b : List WaitingSlot = board_in r.board in
    let q : RunsAs r.board es = run_lent es r.board (began-shaped r.board r.empty) in
    let s : InStep (after b es) (logged b es) =
    in_step b es (free-empty r.board.slots r.board.area (began-free r.board r.empty)) in
    let k : board_in (now r) ≡ after b es = ap board_in (after-asked r.calls r.board) ∙ q.board in
    let l : (d : List ℕ) → accepted_for r d ≡ since d (logged b es) =
    λ d. since-asked d r.calls r.board [] ∙ ap (since d) q.log in
    let f : (d : List ℕ) → all_fine (accepted_for r d) ≡ true = λ d. ap all_fine (l d) ∙ s.fine d in
    record {
      shaped = ap (λ (x : Lent). is_shaped x.slots x.area) (after-asked r.calls r.board) ∙ q.is-shaped;
      valid = ap is_valid k ∙ s.valid;
      fine = f;
      waits = λ d. ap (waiting d) k ∙ s.waits d ∙ ap joined (sym (l d)) ∙ joined_is (accepted_for r d) (f d);
    }

-- ---- What follows

module _ (r : Run) where
  -- slots and area after one call more, and what is then accepted
  pub next-lent : (c : Call) → now (next r c) ≡ lent_after (now r) c
  next-lent c = after_next r.calls r.board c

  pub next-heard : (c : Call) (d : List ℕ) → accepted_for (next r c) d ≡ heard d (accepted_for r d) c (told r c).code
  next-heard c d = heard-next d r.calls r.board c []

  -- every answer is what is due by what was accepted and whether a slot is free
  pub answer-due : (c : Call)
      → told r c ≡ reply_numbers (due (any is_free (board_in (now r))) (join_of (accepted_for r (aircraftOf (asked c)))) (asked c))
  answer-due c =
      let i = in_run r in
      let e : Event = asked c in
      ap reply_numbers
      (ap reply_of (move-asked (now r) c ∙ call-move (now r) e i.shaped)
      ∙ (right (board_in (now r)) i.valid e).reply
      ∙ ap (λ (w : List ℕ). due (any is_free (board_in (now r))) w e) (i.waits (aircraftOf e)))

  module _ (d : List ℕ) where
    none_is : is_none (join_of (accepted_for r d)) ≡ no_commands (accepted_for r d)
    none_is =
        let f = (in_run r).fine d in
        ap is_none (sym (joined_is (accepted_for r d) f)) ∙ joined-none (accepted_for r d) f

    -- joined they are nothing exactly where there were none
    pub none_said : Says (is_none (join_of (accepted_for r d))) (accepted_for r d ≡ [])
    none_said = record { yes_so = λ e. go (accepted_for r d) (sym none_is ∙ e); so_yes = λ e. none_is ∙ ap no_commands e }
      where
        go : (ts : List (List ℕ)) → no_commands ts ≡ true → ts ≡ []
        go [] n = refl
        go (t ∷ ts) n = never n refl

    -- commands are accepted for well-formed designators alone
    pub some-named : ¬ (accepted_for r d ≡ []) → is_designator d ≡ true
    some-named n =
        let i = in_run r in
        waiting-named d (board_in (now r)) i.valid
        (some_for d (board_in (now r)) (ap is_none (i.waits d) ∙ says_no none_said n))
