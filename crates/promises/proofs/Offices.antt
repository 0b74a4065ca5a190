-- Document 02, §6, as specs/Offices says it.
use mathlib.Core.Path.{◌≡◌, refl, sym, ap, ap₂, ◌∙◌, subst}
use mathlib.Core.Bool.{Bool, true, false, cond}
use mathlib.Core.List.{List, [], ◌∷◌, ◌++◌}
use Prim.Native.Nat.{ℕ}
use native.Mathlib.Omega.{arith}
use lib.ListN.{length}
use Rattle.text.specs.Names.{is_designator}
use Rattle.text.specs.Checks.{is_fine}
use Rattle.text.proofs.Cases.{by_test, both_left, both_right}
use Rattle.command.specs.Text.{check_command}
use Rattle.board.specs.Board.{Move, Stay, past_refusals, placed, is_valid, reply_of}
use Rattle.board.specs.Lent.{board_of, is_shaped, is_valid_lent, on_slots, on_area}
use Rattle.board.specs.Calls.{Lent}
use Rattle.board.specs.Words.{ValidBoard}
use Rattle.board.proofs.Steps.{is-fine}
use Rattle.board.proofs.LentWords.{valid-said, said-valid}
use Rattle.board.proofs.Refusals.{refusals-shaped}
use Rattle.decide.proofs.Tests.{says_no}
use Rattle.offices.specs.Offices.{overlap, outside, admission, office_lent}
use Rattle.offices.specs.Inner.{barred}
use Rattle.offices.specs.Own.{Full, SameOwn}
use Rattle.offices.specs.declared.Grant.{Grant}
use Rattle.offices.proofs.Admitted.{not-barred, is-barred, overlap-lent, free-lent, office_cases}
use Rattle.offices.proofs.Alone.{one-office_lent}
use Rattle.desk.specs.Numbers.{answer_of, check_numbers, accepted}
use Rattle.desk.specs.Waiting.{reply_numbers, board_numbers}
use Rattle.desk.specs.declared.Answer.{Answer}
use Rattle.promises.specs.BoardRuns.{Call, Add, Take, answer_to, lent_after, buffer_after, after_all, Told, log_from, Run, now, told, next, accepted_for, join_of, IsAccepted, Waits}
use Rattle.promises.specs.OfficeRuns.{Apart, Outside, Office, Grants, grant_of, other_of, OfficeCall, AddFrom, TakeAny, as_base, OfficeRun, lent_now, answered, accepted_both, accepted_own}
use Rattle.promises.specs.Offices.{OfficeAnswers, RunsAs, Barred, OfficePromises}
use Rattle.promises.proofs.Board.{board_promises}
use Rattle.promises.proofs.Codes.{designator-said, accepted-fine, fine-accepted}
use Rattle.promises.proofs.InRun.{joined_is}
use Rattle.promises.proofs.OfficeWords.{apart-no, no-apart, outside-said}
use Rattle.promises.proofs.OfficeRuns.{apart_of, is_barred, free-call, after-admitted, heard-admitted, admitted, admitted-next, admitted-same, base, full-of, own-kept}
use Rattle.std.specs.Prelude.{Result, Ok, Err}
use Rattle.text.specs.declared.Refusal.{Refusal}
use Rattle.text.specs.declared.Code.TheVariants.{NotGranted, NotAllowed}

abbrev numbers_of : Move → Answer
numbers_of m = reply_numbers (reply_of m)

-- ---- An accepted command outside a grant

module _ (own : Grant) (full : Full own) (t : List ℕ) where
  barred_so : barred own t ≡ true → IsAccepted t × Outside own t
  unfolding barred
  barred_so b =
      let f = is-fine (check_command t) (both_left (is_fine (check_command t)) (outside own t) b) in
      (fine-accepted t f, (outside-said own t full f).yes_so (both_right (is_fine (check_command t)) (outside own t) b))

  so_barred : IsAccepted t → Outside own t → barred own t ≡ true
  unfolding barred
  so_barred a o = let f = accepted-fine t a in rw (f, (outside-said own t full f).so_yes o)

  free_so : ¬ (IsAccepted t × Outside own t) → barred own t ≡ false
  free_so n = by_test (barred own t) (λ b. absurd (n (barred_so b))) (λ b. b)

-- ---- Any lent board

-- past the grants: 10, 4, and what admission sees
past : (own other : Grant) (x : Lent) (d t : List ℕ) → overlap own other ≡ false
    → office_lent own other x.slots x.area d t
    ≡ past_refusals Stay (is_valid_lent x.slots x.area) (is_designator d) (admission own t) (placed (board_of x.slots x.area) d t)
unfolding office_lent is_valid_lent
past own other x d t o =
    rw o
    (refusals-shaped Stay (is_shaped x.slots x.area) (is_valid (board_of x.slots x.area)) (is_designator d) (admission own t)
    (placed (board_of x.slots x.area) d t))

module _ (own other : Grant) (full : Full own) (full' : Full other) (x : Lent) (d t : List ℕ) where
  invalid : ¬ ValidBoard x.slots x.area → is_valid_lent x.slots x.area ≡ false
  invalid n = by_test (is_valid_lent x.slots x.area) (λ v. absurd (n (valid-said x.slots x.area v))) (λ v. v)

  command-numbers : ¬ IsAccepted t → admission own t ≡ check_command t → (m : Move)
      → numbers_of (past_refusals Stay true true (admission own t) m) ≡ check_numbers (check_command t)
  command-numbers n e m = rw e (go (check_command t) refl)
    where
      go : (s : Result (Unit {0}) Refusal) → check_command t ≡ s → numbers_of (past_refusals Stay true true s m) ≡ check_numbers s
      go (Ok u) k = absurd (n (fine-accepted t k))
      go (Err r) k = refl

  answers : OfficeAnswers own other x d t
  answers =
      let apart : Apart own other → overlap own other ≡ false = apart-no own other full full' in
      let valid : ValidBoard x.slots x.area → is_valid_lent x.slots x.area ≡ true = said-valid x.slots x.area in
      let named = designator-said d in
      record {
        overlap = λ n.
            by_test (overlap own other) (λ o. ap numbers_of (overlap-lent own other x.slots x.area d t o))
            (λ o. absurd (n (no-apart own other full full' o)));
        ten = λ a v. ap numbers_of (past own other x d t (apart a)) ∙ rw (invalid v);
        four = λ a v n. ap numbers_of (past own other x d t (apart a)) ∙ rw (valid v, says_no named n);
        command = λ a v n q.
            ap numbers_of (past own other x d t (apart a))
            ∙ rw (valid v, named.so_yes n)
            (command-numbers q (not-barred own t (free_so own full t (λ p. q p.0))) (placed (board_of x.slots x.area) d t));
        outside = λ a v n q o.
            ap numbers_of (past own other x d t (apart a)) ∙ rw (valid v, named.so_yes n, is-barred own t (so_barred own full t q o));
        inside = λ a n.
            let e = free-lent own other x.slots x.area d t (apart a) (free_so own full t n) in
            (ap numbers_of e, ap (λ (m : Move). record { slots = on_slots m x.slots; area = on_area m x.area }) e);
      }

-- a refusal changes nothing
abbrev Bare : Lent → Move → Type 0
Bare x m =
    (((numbers_of m).code ≡ 0) → ⊥)
    → (record { slots = on_slots m x.slots; area = on_area m x.area } ≡ x)
    × (numbers_of m ≡ answer_of (numbers_of m).code (numbers_of m).place)

unchanged : (own other : Grant) (x : Lent) (d t : List ℕ) → Bare x (office_lent own other x.slots x.area d t)
unchanged own other x d t =
    office_cases own other x.slots x.area d t (Bare x) (λ code n. (refl, refl))
    (λ n. let u = board_promises.refusals x (Add d t) n in (u.lent, u.bare))

-- ---- A run

module _ (r : OfficeRun) where
  same-board : lent_now r ≡ now (base r)
  same-board = after-admitted r.grants r.calls r.board

  same-heard : (d : List ℕ) → accepted_both r d ≡ accepted_for (base r) d
  same-heard d = heard-admitted r.grants d r.calls r.board []

  run-valid : is_valid_lent (lent_now r).slots (lent_now r).area ≡ true
  run-valid = ap (λ (x : Lent). is_valid_lent x.slots x.area) same-board ∙ zero-valid (is_valid_lent (now (base r)).slots (now (base r)).area) (board_promises.valid-board (base r))
    where
      zero-valid : (v : Bool) → board_numbers v ≡ accepted 0 → v ≡ true
      zero-valid true e = refl
      zero-valid false e = let z : ◌≡◌ {A = ℕ} 10 0 = ap (λ (a : Answer). a.code) e in absurd (omega arith)

  free-told : (c : OfficeCall) → is_barred r.grants c ≡ false → answered r c ≡ told (base r) (as_base c)
  free-told c n = (free-call r.grants (lent_now r) c n).0 ∙ ap (λ (x : Lent). answer_to x (as_base c)) same-board

  -- what a barred adding is answered: the board of a run is valid
  barred-told : (o : Office) (d t : List ℕ) → barred (grant_of r.grants o) t ≡ true
      → answered r (AddFrom o d t) ≡ numbers_of (cond (is_designator d) (Stay NotGranted 0) (Stay NotAllowed 0))
  barred-told o d t b =
      let own = grant_of r.grants o in
      ap numbers_of (past own (other_of r.grants o) (lent_now r) d t (apart_of r.grants o)) ∙ rw (run-valid, is-barred own t b) (designated (is_designator d))
    where
      designated : (n : Bool) → numbers_of (cond n (Stay NotGranted 0) (Stay NotAllowed 0)) ≡ numbers_of (cond n (Stay NotGranted 0) (Stay NotAllowed 0))
      designated n = refl

  as_run : RunsAs r (base r)
  as_run =
      record {
        board = same-board;
        accepted = same-heard;
        takings = λ d out. ap (λ (x : Lent). answer_to x (Take d out)) same-board;
        buffers = λ d out. ap (λ (x : Lent). buffer_after x (Take d out)) same-board;
        addings = λ o d t n. free-told (AddFrom o d t) (free_so (grant_of r.grants o) (full-of r.grants o) t n);
        barred = λ o d t a u.
            let b = so_barred (grant_of r.grants o) (full-of r.grants o) t a u in
            let named = designator-said d in
            (λ n. barred-told o d t b ∙ rw (named.so_yes n), λ n. barred-told o d t b ∙ rw (says_no named n));
      }

  -- what waits
  waits : (d : List ℕ) → ¬ (accepted_both r d ≡ []) → Waits (lent_now r) d (join_of (accepted_both r d))
  waits d n =
      rw (same-board, same-heard d) (board_promises.waits (base r) d (λ e. n (same-heard d ∙ e)))

  own-part : (o : Office) (d : List ℕ) → SameOwn (grant_of r.grants o) (join_of (accepted_both r d)) (join_of (accepted_own r o d))
  own-part o d =
      let k = own-kept r o d in
      rw (← joined_is (accepted_both r d) k.all, ← joined_is (accepted_own r o d) k.own) k.same

-- ---- Every answer is determined

-- the last answer of a log
abbrev last_of : Answer → List Told → Answer
last_of a [] = a
last_of a (x ∷ xs) = last_of x.answer xs

last-told : (cs : List Call) (x : Lent) (c : Call) (a : Answer) → last_of a (log_from x (cs ++ (c ∷ []))) ≡ answer_to (after_all x cs) c
unfolding log_from after_all
last-told [] x c a = refl
last-told (b ∷ cs) x c a = last-told cs (lent_after x b) c (answer_to x b)

told-alike : (r s : Run) → length r.board.slots ≡ length s.board.slots → r.calls ≡ s.calls → (c : Call) → told r c ≡ told s c
told-alike r s n e c =
    sym (last-told r.calls r.board c (accepted 0))
    ∙ ap (last_of (accepted 0)) (board_promises.determined (next r c) (next s c) n (ap (λ (cs : List Call). cs ++ (c ∷ [])) e))
    ∙ last-told s.calls s.board c (accepted 0)

determined : (r s : OfficeRun) → r.grants ≡ s.grants → length r.board.slots ≡ length s.board.slots → r.calls ≡ s.calls
    → (c : OfficeCall) → answered r c ≡ answered s c
determined r s g n e c = go c (is_barred r.grants c) refl
  where
    alike : (c : OfficeCall) → told (base r) (as_base c) ≡ told (base s) (as_base c)
    alike c = told-alike (base r) (base s) n (ap₂ admitted g e) (as_base c)

    go : (c : OfficeCall) (b : Bool) → is_barred r.grants c ≡ b → answered r c ≡ answered s c
    go (TakeAny d out) b k = free-told r (TakeAny d out) refl ∙ alike (TakeAny d out) ∙ sym (free-told s (TakeAny d out) refl)
    go (AddFrom o d t) true k =
        barred-told r o d t k ∙ sym (barred-told s o d t (ap (λ (h : Grants). barred (grant_of h o) t) (sym g) ∙ k))
    go (AddFrom o d t) false k =
        free-told r (AddFrom o d t) k
        ∙ alike (AddFrom o d t)
        ∙ sym (free-told s (AddFrom o d t) (ap (λ (h : Grants). barred (grant_of h o) t) (sym g) ∙ k))

-- ---- Whatever the other office sent

alike_through : (g : Grant) (s t u v : List ℕ) → SameOwn g s t → t ≡ u → SameOwn g v u → SameOwn g s v
alike_through g s t u v a e b =
    record {
      flags = λ i l h. a.flags i l h ∙ rw e (sym (b.flags i l h));
      sections = λ k lo hi h. a.sections k lo hi h ∙ rw e (sym (b.sections k lo hi h));
    }

whatever : (r s : OfficeRun) (o : Office) (d : List ℕ) → r.grants ≡ s.grants → accepted_own r o d ≡ accepted_own s o d
    → SameOwn (grant_of r.grants o) (join_of (accepted_both r d)) (join_of (accepted_both s d))
whatever r s o d g e =
    alike_through (grant_of r.grants o) (join_of (accepted_both r d)) (join_of (accepted_own r o d)) (join_of (accepted_own s o d))
    (join_of (accepted_both s d)) (own-part r o d) (ap join_of e)
    (subst (λ (h : Grants). SameOwn (grant_of h o) (join_of (accepted_both s d)) (join_of (accepted_own s o d))) (sym g) (own-part s o d))

-- ---- The next call

abbrev with_calls : OfficeRun → List Call → Run
with_calls r cs = record { board = r.board; empty = r.empty; calls = cs }

free-call_so : (r : OfficeRun) (c : OfficeCall) → ¬ Barred r c → is_barred r.grants c ≡ false
free-call_so r (AddFrom o d t) n = free_so (grant_of r.grants o) (full-of r.grants o) t n
free-call_so r (TakeAny d out) n = refl

barred-call_so : (r : OfficeRun) (c : OfficeCall) → Barred r c → is_barred r.grants c ≡ true
barred-call_so r (AddFrom o d t) b = so_barred (grant_of r.grants o) (full-of r.grants o) t b.0 b.1
barred-call_so r (TakeAny d out) b = absurd b

-- ---- All of it

pub office_promises : OfficePromises
office_promises =
    record {
      answers = answers;
      unchanged = unchanged;
      alone = λ x d t.
          let e = one-office_lent x.slots x.area d t in
          (ap numbers_of e, ap (λ (m : Move). record { slots = on_slots m x.slots; area = on_area m x.area }) e);
      alike = base;
      as_run = as_run;
      goes_on = λ r c n. ap (with_calls r) (admitted-next r.grants r.calls c (free-call_so r c n));
      passed_over = λ r c b. ap (with_calls r) (admitted-same r.grants r.calls c (barred-call_so r c b));
      waits = waits;
      fine = λ r d n. rw (same-heard r d) (board_promises.fine (base r) d (λ e. n (same-heard r d ∙ e)));
      short = λ r d. rw (same-heard r d) (board_promises.short (base r) d);
      acts = λ r d x n. rw (same-heard r d) (board_promises.acts (base r) d x (λ e. n (same-heard r d ∙ e)));
      none = λ r d e. rw (same-board r) (board_promises.none (base r) d (sym (same-heard r d) ∙ e));
      determined = determined;
      own = own-part;
      whatever = whatever;
    }
