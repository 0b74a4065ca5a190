-- Demand 3 of the waiting board, as specs/Board says it.
use mathlib.Core.Path.{◌≡◌, refl, sym, ap, ◌∙◌, subst}
use mathlib.Core.Logic.{◌↔◌}
use mathlib.Core.Bool.{Bool, true, false}
use mathlib.Core.List.{List}
use Prim.Native.Nat.{ℕ, ◌*◌, ◌<◌}
use native.Mathlib.Omega.{arith}
use lib.Dec.{eqb}
use lib.ListN.{length}
use borrow.Author.Tests.{eq-eqb, ne_eqb}
use Rattle.text.specs.Equal.{same_bytes}
use Rattle.text.proofs.Cases.{by_test}
use Rattle.text.proofs.Equal.{same-equal}
use Rattle.command.specs.Text.{longest}
use Rattle.board.specs.Board.{is_none, waiting, Move, Stay, Put, Free, reply_of}
use Rattle.board.specs.History.{is_empty_board, Add as AddEvent, Take as TakeEvent}
use Rattle.board.specs.Lent.{is_valid_lent, on_slots, on_area, on_out}
use Rattle.board.specs.Calls.{Lent, board_in}
use Rattle.board.proofs.WaitingSlots.{never}
use Rattle.board.specs.Words.{ValidBoard}
use Rattle.board.proofs.Calls.{run_lent, free-empty, call-ten}
use Rattle.board.proofs.LentWords.{valid-said, said-valid, adds}
use Rattle.board.proofs.Lent.{length-board}
use Rattle.board.proofs.Words.{alike}
use Rattle.desk.specs.Numbers.{answer_of}
use Rattle.desk.specs.Waiting.{reply_numbers, board_numbers}
use Rattle.desk.specs.declared.Answer.{Answer}
use Rattle.promises.specs.BoardRuns.{Call, Add, Take, aircraft, move_of, answer_to, lent_after, buffer_of, buffer_after, Run, now, told, next, log_from, log, heard, accepted_for, join_of, Waits}
use Rattle.promises.specs.Board.{Untouched, IsRefusal, BoardPromises}
use Rattle.promises.proofs.Asked.{log-alike}
use Rattle.promises.proofs.Waits.{began-free, began-shaped, waits_in, in_waits, waits-some}
use Rattle.promises.proofs.InRun.{in_run, next-heard}
use Rattle.promises.proofs.Codes.{fine-accepted}
use Rattle.promises.proofs.Waiting.{waits, none, fine, short, acts}
use Rattle.promises.proofs.Takings.{takings, hands-over, codes as taking_codes}
use Rattle.promises.proofs.Addings.{addings, stores, codes as adding_codes}
use Rattle.text.specs.Codes.{number_of}
use Rattle.text.proofs.Codes.{numbered}
use Rattle.text.specs.declared.Code.{Code}

-- ---- Any call

-- a refusal leaves the accepted commands
unheard : (r : Run) (c : Call) → ¬ ((told r c).code ≡ 0) → (d : List ℕ) → accepted_for (next r c) d ≡ accepted_for r d
unheard r c n d = next-heard r c d ∙ go c (told r c).code n
  where
    go : (a : Call) (code : ℕ) → ¬ (code ≡ 0) → heard d (accepted_for r d) a code ≡ accepted_for r d
    go (Add e t) code q = rw (ne_eqb code 0 q)
    go (Take e out) code q = rw (ne_eqb code 0 q)

-- a call for one aircraft leaves those of another
other-heard : (d : List ℕ) (ts : List (List ℕ)) (c : Call) (code : ℕ) → ¬ (d ≡ aircraft c) → heard d ts c code ≡ ts
other-heard d ts c code n = go c (by_test (same_bytes d (aircraft c)) (λ e. absurd (n (same-equal d (aircraft c) e))) (λ e. e)) (eqb code 0) refl
  where
    go : (a : Call) → same_bytes d (aircraft a) ≡ false → (z : Bool) → eqb code 0 ≡ z → heard d ts a code ≡ ts
    go (Add e t) q true h = rw (h, q)
    go (Add e t) q false h = rw h
    go (Take e out) q true h = rw (h, q)
    go (Take e out) q false h = rw h

-- what waits in one lent memory waits in another of which as much is said
still-waits : (r s : Run) (d t : List ℕ) → accepted_for r d ≡ accepted_for s d → Waits (now r) d t → Waits (now s) d t
still-waits r s d t e w =
    let i = in_run r in
    let j = in_run s in
    let k : waiting d (board_in (now s)) ≡ t =
    j.waits d ∙ ap join_of (sym e) ∙ sym (i.waits d) ∙ in_waits (now r) i.shaped d t w in
    subst (Waits (now s) d) k (waits_in (now s) j.shaped d j.valid (ap is_none k ∙ waits-some (now r) d t w))

-- what waits for another aircraft stays
apart : (r : Run) (c : Call) (d t : List ℕ) → ¬ (d ≡ aircraft c) → Waits (now r) d t ↔ Waits (now (next r c)) d t
apart r c d t n =
    let e : accepted_for (next r c) d ≡ accepted_for r d =
    next-heard r c d ∙ other-heard d (accepted_for r d) c (told r c).code n in
    (still-waits r (next r c) d t (sym e), still-waits (next r c) r d t e)

-- the board stays valid
is-valid : (r : Run) → is_valid_lent (now r).slots (now r).area ≡ true
unfolding is_valid_lent
is-valid r = let i = in_run r in rw (i.shaped, i.valid)

-- so code 10 never comes
never-ten : (r : Run) (c : Call) → ¬ ((told r c).code ≡ 10)
never-ten r (Add d t) z = never (eq-eqb (told r (Add d t)).code 10 z) (adding_codes r d t).ten
never-ten r (Take d out) z = never (eq-eqb (told r (Take d out)).code 10 z) (taking_codes r d out).ten

-- the answers follow from the calls and the number of slots
determined : (r s : Run) → length r.board.slots ≡ length s.board.slots → r.calls ≡ s.calls → log r ≡ log s
determined r s n c =
    log-alike r.calls r.board s.board
    (λ es.
    (run_lent es r.board (began-shaped r.board r.empty)).log
    ∙ alike (board_in r.board) (board_in s.board) es (began r) (began s) (places r ∙ n ∙ sym (places s))
    ∙ sym (run_lent es s.board (began-shaped s.board s.empty)).log)
    ∙ ap (log_from s.board) c
  where
    began : (q : Run) → is_empty_board (board_in q.board) ≡ true
    began q = free-empty q.board.slots q.board.area (began-free q.board q.empty)

    places : (q : Run) → length (board_in q.board) ≡ length q.board.slots
    places q = length-board q.board.slots q.board.area

-- ---- Any lent board

no_text : (m : Move) → (reply_numbers (reply_of m)).text ≡ 0
no_text (Stay code place) = refl
no_text (Put i d t) = refl
no_text (Free i t) = refl

-- a refusal changes nothing
refusals : (x : Lent) (c : Call) → ¬ ((answer_to x c).code ≡ 0) → Untouched x c
refusals x c n = go (move_of x c) refl
  where
    lent : (a : Call) (code : Code) (place : ℕ) → move_of x a ≡ Stay code place → lent_after x a ≡ x
    lent (Add d t) code place e =
        ap (λ (m : Move). record { slots = on_slots m x.slots; area = on_area m x.area }) e
    lent (Take d out) code place e = ap (λ (m : Move). record { slots = on_slots m x.slots; area = x.area }) e

    buffer : (a : Call) (code : Code) (place : ℕ) → move_of x a ≡ Stay code place → buffer_after x a ≡ buffer_of a
    buffer (Add d t) code place e = refl
    buffer (Take d out) code place e = ap (λ (m : Move). on_out m out) e

    go : (m : Move) → move_of x c ≡ m → Untouched x c
    go (Stay code place) e =
        let a : answer_to x c ≡ answer_of (number_of code) place = ap (λ (m : Move). reply_numbers (reply_of m)) e in
        record {
          bare = a ∙ ap (λ (z : Answer). answer_of z.code z.place) (sym a);
          lent = lent c code place e;
          buffer = buffer c code place e;
        }
    go (Put i d t) e = absurd (n (ap (λ (m : Move). (reply_numbers (reply_of m)).code) e))
    go (Free i t) e = absurd (n (ap (λ (m : Move). (reply_numbers (reply_of m)).code) e))

-- and has another code than 0
coded : (x : Lent) (c : Call) → ((answer_to x c).code ≡ 0) ↔ (¬ IsRefusal (move_of x c))
coded x c = go (move_of x c)
  where
    go : (m : Move) → ((reply_numbers (reply_of m)).code ≡ 0) ↔ (¬ IsRefusal m)
    go (Stay code place) = let l = (numbered code).least in (λ (z : number_of code ≡ 0). absurd (omega arith), λ n. absurd (n tt))
    go (Put i d t) = (λ z u. u, λ n. refl)
    go (Free i t) = (λ z u. u, λ n. refl)

-- ---- Validity

board-zero : (t : Bool) → (board_numbers t).code ≡ 0 → t ≡ true
board-zero true e = refl
board-zero false e = absurd (omega arith)

checked : (x : Lent) → ((board_numbers (is_valid_lent x.slots x.area)).code ≡ 0) ↔ ValidBoard x.slots x.area
checked x = (
  λ e. valid-said x.slots x.area (board-zero (is_valid_lent x.slots x.area) e),
  λ v. ap (λ (t : Bool). (board_numbers t).code) (said-valid x.slots x.area v),
)

invalid : (x : Lent) → ¬ ValidBoard x.slots x.area → is_valid_lent x.slots x.area ≡ false
invalid x n =
    by_test (is_valid_lent x.slots x.area) (λ v. absurd (n (valid-said x.slots x.area v))) (λ v. v)

ten-first : (x : Lent) (c : Call) → ¬ ValidBoard x.slots x.area → answer_to x c ≡ answer_of 10 0
ten-first x (Add d t) n = ap (λ (m : Move). reply_numbers (reply_of m)) (call-ten x (AddEvent d t) (invalid x n))
ten-first x (Take d out) n = ap (λ (m : Move). reply_numbers (reply_of m)) (call-ten x (TakeEvent d (length out)) (invalid x n))

-- an area that is too short for its slots
old_size : (x : Lent) → length x.area < longest * length x.slots
    → (board_numbers (is_valid_lent x.slots x.area) ≡ answer_of 10 0) × ((c : Call) → answer_to x c ≡ answer_of 10 0)
old_size x h =
    let n : ¬ ValidBoard x.slots x.area = λ v. omega (arith, v.bytes) in
    (ap board_numbers (invalid x n), λ c. ten-first x c n)

-- ---- All of it

pub board_promises : BoardPromises
board_promises =
    record {
      waits = waits;
      short = short;
      fine = λ r d n. fine-accepted (join_of (accepted_for r d)) (fine r d n);
      acts = λ r d x n. acts r d x;
      none = none;
      takings = takings;
      hands-over = hands-over;
      addings = addings;
      stores = stores;
      unheard = unheard;
      apart = apart;
      valid-board = λ r. ap board_numbers (is-valid r);
      never-ten = never-ten;
      determined = determined;
      no_text = λ x c. no_text (move_of x c);
      checked = checked;
      ten = λ x n. ap board_numbers (invalid x n);
      ten-first = ten-first;
      old_size = old_size;
      places = λ x d t i e w k. adds x.slots x.area d t i e w k;
      refusals = refusals;
      coded = coded;
    }
