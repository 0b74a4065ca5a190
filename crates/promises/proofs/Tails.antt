-- Document 02, §9, as specs/Tails says it.
use mathlib.Core.Path.{◌≡◌, refl, ap, ap₂, ◌∙◌, subst}
use mathlib.Core.Bool.{Bool, true, false, cond}
use mathlib.Core.List.{List, [], ◌∷◌}
use Prim.Native.Nat.{ℕ, zero, suc, ◌≤◌, ◌<◌}
use native.Mathlib.Omega.{arith}
use lib.Dec.{leb, eqb}
use lib.ListN.{length, get_or, set, replicate, length-replicate, length-set}
use lib.Seq.{get_or-set_same, get_or-set_other}
use borrow.Author.Tests.{eq-eqb}
use Rattle.text.specs.Names.{is_designator}
use Rattle.text.proofs.Cases.{by_eq, by_lt, by_test, both_right}
use Rattle.command.specs.Text.{check_command}
use Rattle.join.specs.Join.{join_text}
use Rattle.board.specs.Board.{Move, Stay, Put, Free, reply_of, is_valid, is_for, is_free, any, lowest, waiting, placed, handed_out, add, take_out}
use Rattle.board.specs.History.{Event, Add as AddFor, Take as TakeFor}
use Rattle.board.specs.Lent.{is_shaped, is_valid_lent, board_of, add_lent, take_lent, no_slot, on_slots, on_area, on_out}
use Rattle.board.specs.Calls.{Lent, call}
use Rattle.board.specs.Words.{slot_at, InUse, ValidBoard}
use Rattle.board.specs.declared.Slot.{Slot}
use Rattle.board.proofs.Calls.{call-ten}
use Rattle.board.proofs.Refusals.{refusals-all, placing-all, handing-all}
use Rattle.board.proofs.LentWords.{form, formed, valid-said}
use Rattle.tails.specs.Tails.{below, listed, list_of, find_in}
use Rattle.tails.specs.Keys.{rank_of, keys_of, is_list_of}
use Rattle.tails.specs.Words.{all_bytes, SixBytes, ListOf}
use Rattle.tails.specs.Calls.{search_lent, has_list, made_lent, add_listed, take_listed, on_list}
use Rattle.tails.proofs.Said.{list-said, said-list, one-count}
use Rattle.tails.proofs.Valid.{well_bytes, valid-list, one-list-of, list-is, valid-kept, search_own, search_none, search_four, search_ten, search_before}
use Rattle.desk.specs.Numbers.{answer_of}
use Rattle.desk.specs.Waiting.{reply_numbers, board_numbers}
use Rattle.desk.specs.Tails.{slot_numbers, tail_numbers}
use Rattle.promises.specs.BoardRuns.{Call, Add, Take, move_of, BeganEmpty, after_all, Told, log_from}
use Rattle.promises.specs.Tails.{listed_move, listed_lent, list_after, listed_all, list_all, listed_log, found, make_answer, AsWithout, Disagrees, TailPromises}
use Rattle.promises.proofs.Asked.{asked, move-asked}
use Rattle.std.specs.Prelude.{Option, Some, None, Ok}
use Rattle.text.specs.declared.Code.TheVariants.{BoardInvalid}

-- ---- A list that is the board's, and one that is not

no-list : (ss : List Slot) (ts : List ℕ) → SixBytes ss → ¬ ListOf ss ts → is_list_of ss ts ≡ false
no-list ss ts six n = by_test (is_list_of ss ts) (λ (h : is_list_of ss ts ≡ true). absurd (n (list-said ss ts six h))) (λ (h : is_list_of ss ts ≡ false). h)

listed_same : (x : Lent) (ts : List ℕ) (c : Call) → is_list_of x.slots ts ≡ true → listed_move x ts c ≡ move_of x c
unfolding add_listed take_listed
listed_same x ts (Add d t) h = rw h
listed_same x ts (Take d out) h = rw h

listed-ten : (x : Lent) (ts : List ℕ) (c : Call) → is_list_of x.slots ts ≡ false → listed_move x ts c ≡ Stay BoardInvalid 0
unfolding add_listed take_listed
listed-ten x ts (Add d t) h = rw h
listed-ten x ts (Take d out) h = rw h

without : (x : Lent) (ts : List ℕ) (c : Call) → listed_move x ts c ≡ move_of x c → AsWithout x ts c
without x ts (Add d t) e =
    record {
      answer = ap (λ (m : Move). reply_numbers (reply_of m)) e;
      lent = ap (λ (m : Move). record { slots = on_slots m x.slots; area = on_area m x.area }) e;
      buffer = refl;
    }
without x ts (Take d out) e =
    record {
      answer = ap (λ (m : Move). reply_numbers (reply_of m)) e;
      lent = ap (λ (m : Move). record { slots = on_slots m x.slots; area = x.area }) e;
      buffer = ap (λ (m : Move). on_out m out) e;
    }

stays : (x : Lent) (ts : List ℕ) (c : Call) → is_list_of x.slots ts ≡ false → listed_move x ts c ≡ Stay BoardInvalid 0 → Disagrees x ts c
unfolding on_list
stays x ts (Add d t) h e =
    record {
      ten = ap (λ (m : Move). reply_numbers (reply_of m)) e;
      lent = ap (λ (m : Move). record { slots = on_slots m x.slots; area = on_area m x.area }) e;
      list = rw h;
      buffer = refl;
    }
stays x ts (Take d out) h e =
    record {
      ten = ap (λ (m : Move). reply_numbers (reply_of m)) e;
      lent = ap (λ (m : Move). record { slots = on_slots m x.slots; area = x.area }) e;
      list = rw h;
      buffer = ap (λ (m : Move). on_out m out) e;
    }

-- ---- What a call leaves of six bytes in each slot

either : (P : Move → Type 0) (t : Bool) (m n : Move) → P m → P n → P (cond t m n)
either P true m n p q = p
either P false m n p q = q

set-six : (xs : List Slot) (i : ℕ) (s : Slot) → SixBytes xs → (length s.designator ≡ 6) × (all_bytes s.designator ≡ true) → SixBytes (set xs i s)
set-six xs i s six own j h =
    let l : j < length xs = rw (length-set xs i s) at h in
    by_eq j i
    (λ (e : j ≡ i). rw (e, get_or-set_same xs i s no_slot (subst (λ (k : ℕ). k < length xs) e l)) own)
    (λ (e : j ≡ i → ⊥). rw (get_or-set_other xs i j s no_slot e) (six j l))

named-six : (d : List ℕ) → is_designator d ≡ true → (length d ≡ 6) × (all_bytes d ≡ true)
named-six d n = ((formed d n).0, well_bytes d (formed d n))

-- where there is no slot i, six bytes too
at-six : (xs : List Slot) (i : ℕ) → SixBytes xs → (length (slot_at xs i).designator ≡ 6) × (all_bytes (slot_at xs i).designator ≡ true)
unfolding all_bytes
at-six [] i six = (refl, refl)
at-six (x ∷ xs) zero six = six 0 (omega arith)
at-six (x ∷ xs) (suc i) six = at-six xs i (λ (j : ℕ) (h : j < length xs). six (suc j) (omega arith))

pub six-kept : (x : Lent) (e : Event) → SixBytes x.slots → SixBytes (on_slots (call x e) x.slots)
unfolding add_lent take_lent add take_out
six-kept x (AddFor d t) six =
    let b = board_of x.slots x.area in
    let P : Move → Type 0 = λ (m : Move). SixBytes (on_slots m x.slots) in
    either P (is_shaped x.slots x.area) (add b d t) (Stay BoardInvalid 0)
    (refusals-all P Stay (is_valid b) (is_designator d) (check_command t) (placed b d t) six six (λ code place k. six)
    (λ v n s.
    placing-all P Stay (any (is_for d) b) (any is_free b) (Put (lowest (is_for d) b) d (join_text (waiting d b) t)) (Put (lowest is_free b) d t) six
    (λ k. set-six x.slots (lowest (is_for d) b) (record { designator = d; length = length (join_text (waiting d b) t) }) six (named-six d n))
    (λ k f. set-six x.slots (lowest is_free b) (record { designator = d; length = length t }) six (named-six d n))))
    six
six-kept x (TakeFor d room) six =
    let b = board_of x.slots x.area in
    let P : Move → Type 0 = λ (m : Move). SixBytes (on_slots m x.slots) in
    let i = lowest (is_for d) b in
    either P (is_shaped x.slots x.area) (take_out b d room) (Stay BoardInvalid 0)
    (refusals-all P Stay (is_valid b) (is_designator d) (Ok tt) (handed_out b d room) six six (λ code place k. six)
    (λ v n s.
    handing-all P Stay (any (is_for d) b) (leb (length (waiting d b)) room) (Free i (waiting d b)) six six
    (λ k l. set-six x.slots i (record { designator = (slot_at x.slots i).designator; length = 0 }) six (at-six x.slots i six))))
    six

-- ---- The list after a call

-- on a board that is not valid nothing moves, and the list is that of the slots as they were
list-kept : (x : Lent) (e : Event) (ts : List ℕ) → is_list_of x.slots ts ≡ true → is_list_of (on_slots (call x e) x.slots) (on_list (call x e) x.slots ts) ≡ true
unfolding on_list
list-kept x e ts h =
    rw h
    (by_test (is_valid_lent x.slots x.area)
    (λ (v : is_valid_lent x.slots x.area ≡ true).
    valid-list (on_slots (call x e) x.slots) (on_area (call x e) x.area) (valid-kept x e (valid-said x.slots x.area v)))
    (λ (v : is_valid_lent x.slots x.area ≡ false). rw (call-ten x e v) (subst (λ (l : List ℕ). is_list_of x.slots l ≡ true) (list-is x.slots ts h) h)))

keeps : (x : Lent) (ts : List ℕ) (c : Call) → SixBytes x.slots → is_list_of x.slots ts ≡ true
    → SixBytes (listed_lent x ts c).slots × (is_list_of (listed_lent x ts c).slots (list_after x ts c) ≡ true)
keeps x ts c six h =
    let e = listed_same x ts c h ∙ move-asked x c in
    let slots : (listed_lent x ts c).slots ≡ on_slots (call x (asked c)) x.slots = slots-of c ∙ ap (λ (m : Move). on_slots m x.slots) e in
    let list : list_after x ts c ≡ on_list (call x (asked c)) x.slots ts = ap (λ (m : Move). on_list m x.slots ts) e in
    (rw slots (six-kept x (asked c) six), rw (slots, list) (list-kept x (asked c) ts h))
  where
    slots-of : (a : Call) → (listed_lent x ts a).slots ≡ on_slots (listed_move x ts a) x.slots
    slots-of (Add d t) = refl
    slots-of (Take d out) = refl

runs_as : (x : Lent) (ts : List ℕ) (cs : List Call) → SixBytes x.slots → is_list_of x.slots ts ≡ true
    → (listed_all x ts cs ≡ after_all x cs) × (listed_log x ts cs ≡ log_from x cs) × ListOf (after_all x cs).slots (list_all x ts cs)
unfolding listed_all list_all listed_log after_all log_from
runs_as x ts [] six h = (refl, refl, list-said x.slots ts six h)
runs_as x ts (c ∷ cs) six h =
    let k = keeps x ts c six h in
    let w = without x ts c (listed_same x ts c h) in
    let r = runs_as (listed_lent x ts c) (list_after x ts c) cs k.0 k.1 in (
      r.0 ∙ ap (λ (y : Lent). after_all y cs) w.lent,
      ap₂ ◌∷◌ (ap {B = Told} (λ a. record { call = c; answer = a }) w.answer) (r.1 ∙ ap (λ (y : Lent). log_from y cs) w.lent),
      subst (λ (y : Lent). ListOf (after_all y cs).slots (list_all (listed_lent x ts c) (list_after x ts c) cs)) w.lent r.2,
    )

-- ---- Making

make_zero : (t : Bool) → (board_numbers t).code ≡ 0 → t ≡ true
make_zero true e = refl
make_zero false e = absurd (omega arith)

made_so : (ss : List Slot) (ts : List ℕ) → has_list ss ts ≡ true → is_list_of ss (made_lent ss ts) ≡ true
unfolding made_lent has_list
made_so ss ts h = rw h (both_right (eqb (length ts) (length ss)) (is_list_of ss (list_of (keys_of ss))) h)

made_for : (ss : List Slot) (area ts : List ℕ) → ValidBoard ss area → length ts ≡ length ss → has_list ss ts ≡ true
unfolding has_list
made_for ss area ts v e = rw (eq-eqb (length ts) (length ss) e, valid-list ss area v)

unmade_so : (ss : List Slot) (ts : List ℕ) → ¬ ((make_answer ss ts).code ≡ 0) → (make_answer ss ts ≡ answer_of 10 0) × (made_lent ss ts ≡ ts)
unfolding made_lent
unmade_so ss ts n =
    by_test (has_list ss ts)
    (λ (h : has_list ss ts ≡ true). absurd (n (ap (λ (t : Bool). (board_numbers t).code) h)))
    (λ (h : has_list ss ts ≡ false). (ap board_numbers h, rw h))

-- ---- An empty board

blank-at : (n i : ℕ) → i < n → get_or (replicate {A = ℕ} n 255) i 0 ≡ 255
blank-at zero i h = absurd (omega arith)
blank-at (suc n) zero h = refl
blank-at (suc n) (suc i) h = blank-at n i (omega arith)

all-free : (x : Lent) → BeganEmpty x → (i : ℕ) → InUse x.slots i → ⊥
all-free x b i u =
    by_lt i (length x.slots)
    (λ (h : i < length x.slots). u (b.free i h))
    (λ (h : length x.slots ≤ i). u (beyond x.slots i h))
  where
    beyond : (xs : List Slot) (j : ℕ) → length xs ≤ j → (slot_at xs j).length ≡ 0
    beyond [] j k = refl
    beyond (y ∷ xs) zero k = absurd (omega arith)
    beyond (y ∷ xs) (suc j) k = beyond xs j (omega arith)

began_so : (x : Lent) → BeganEmpty x → ListOf x.slots (replicate (length x.slots) 255)
began_so x b =
    let n = length x.slots in
    record {
      few = b.few;
      bytes = length-replicate {A = ℕ} n 255;
      count = 0;
      most = omega arith;
      used = λ i h. absurd (omega arith);
      place = λ j u. 0;
      each = λ j u. absurd (all-free x b j u);
      rising = λ i h. absurd (omega arith);
      blank = λ i h k. blank-at n i (omega (arith, k, length-replicate {A = ℕ} n 255));
    }

-- ---- A search

slot-at : (slot : Option ℕ) (at : ℕ) → (slot_numbers slot at).at ≡ at
slot-at (Some slot) at = refl
slot-at None at = refl

found-before : (ss : List Slot) (ts d : List ℕ) → is_list_of ss ts ≡ true → is_designator d ≡ true
    → (found ss ts d).at ≡ below (keys_of ss) (rank_of d) (listed ts)
unfolding search_lent
found-before ss ts d h w = rw (h, w) (slot-at (find_in (keys_of ss) (rank_of d) (listed ts)) (below (keys_of ss) (rank_of d) (listed ts)))

-- ---- All of them

pub tail_promises : TailPromises
tail_promises =
    record {
      one = λ ss ts us six a b. one-list-of ss ts us (said-list ss ts six a) (said-list ss us six b);
      made = λ ss area ts v e. ap (λ (t : Bool). (board_numbers t).code) (made_for ss area ts v e);
      made-is = λ ss ts six z. list-said ss (made_lent ss ts) six (made_so ss ts (make_zero (has_list ss ts) z));
      unmade = unmade_so;
      began = λ x six b. began_so x b;
      disagrees = λ x ts c six n. let h = no-list x.slots ts six n in stays x ts c h (listed-ten x ts c h);
      not_searched = λ ss ts d six n. ap tail_numbers (search_ten ss ts d (no-list ss ts six n));
      as_without = λ x ts c six l. without x ts c (listed_same x ts c (said-list x.slots ts six l));
      kept = λ x ts c six l.
          let k = keeps x ts c six (said-list x.slots ts six l) in
          (k.0, list-said (listed_lent x ts c).slots (list_after x ts c) k.0 k.1);
      runs = λ x ts cs six l. runs_as x ts cs six (said-list x.slots ts six l);
      as_walk = λ ss area ts d six v l.
          let h = said-list ss ts six l in
          record {
            own = λ j o. let e = search_own ss area ts d v h j o in (ap (λ a. (tail_numbers a).code) e, ap (λ a. (tail_numbers a).slot) e);
            none = λ w n. let e = search_none ss area ts d v h w n in (ap (λ a. (tail_numbers a).code) e, ap (λ a. (tail_numbers a).slot) e);
            malformed = λ n. ap tail_numbers (search_four ss ts d h n);
            before = λ m w i k. rw (found-before ss ts d h (form d w)) (search_before ss area ts d v h w i (one-count ss ts six m h i k));
          };
    }
