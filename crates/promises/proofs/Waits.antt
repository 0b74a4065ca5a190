-- What waits in the lent memory, against what waits on the board that it stands for.
use mathlib.Core.Path.{◌≡◌, refl, sym, ap, ◌∙◌}
use mathlib.Core.Bool.{Bool, true, false, not, ◌&&◌}
use mathlib.Core.List.{List, [], ◌∷◌}
use Prim.Native.Nat.{ℕ, zero, suc, ◌*◌, ◌≤◌, ◌<◌}
use native.Mathlib.Omega.{arith}
use lib.Dec.{leb, eqb}
use lib.ListN.{length, get_or, take, drop, length-drop, get_or-eq_default}
use lib.Seq.{length-take-le}
use borrow.Author.Tests.{eq-eqb, ne_eqb, eqb-true, eqb-false, le-leb, not-true}
use Rattle.text.specs.Equal.{same_bytes}
use Rattle.text.proofs.Cases.{by_test, by_lt, by_eq, both_left, both_right}
use Rattle.text.proofs.Equal.{same-equal, equal-same}
use Rattle.command.specs.Text.{longest}
use Rattle.decide.proofs.Tests.{Says}
use Rattle.board.specs.Board.{WaitingSlot, empty_slot, is_none, is_free, is_for, any, lowest, waiting, is_valid}
use Rattle.board.specs.Lent.{lengths_fit, is_shaped, no_slot}
use Rattle.board.specs.Calls.{Lent, board_in, all_free}
use Rattle.board.specs.declared.Slot.{Slot}
use Rattle.board.proofs.WaitingSlots.{never, both, lowest-passes, lowest-first, lowest-inside, waiting-at, some_for, nothing_for}
use Rattle.board.proofs.Valid.{only}
use Rattle.board.proofs.Lent.{Shape, shape, shaped, length-board, free-at, fit_at, text_at, for_at}
use Rattle.promises.specs.BoardRuns.{slot_at, BeganEmpty, UsedFor, NothingWaits, Waits, NoneFree}

-- ---- A board that began empty

all-free : (xs : List Slot) → ((i : ℕ) → i < length xs → (get_or xs i no_slot).length ≡ 0)
    → (all_free xs ≡ true) × (lengths_fit xs ≡ true)
unfolding all_free lengths_fit
all-free [] h = (refl, refl)
all-free (x ∷ xs) h =
    let z : x.length ≡ 0 = h zero (omega arith) in
    let r = all-free xs (λ i l. h (suc i) (omega arith)) in (
      both (eqb x.length 0) (all_free xs) (eq-eqb x.length 0 z) r.0,
      both (leb x.length longest) (lengths_fit xs) (le-leb x.length longest (omega arith)) r.1,
    )

-- its slots are free
pub began-free : (x : Lent) → BeganEmpty x → all_free x.slots ≡ true
began-free x o = (all-free x.slots o.free).0

-- and it has the right shape
pub began-shaped : (x : Lent) → BeganEmpty x → is_shaped x.slots x.area ≡ true
began-shaped x o =
    shaped x.slots x.area
    (record {
      few = o.few;
      bytes = o.bytes;
      fit = (all-free x.slots o.free).1;
    })

-- ---- Free places

all-used : (b : List WaitingSlot) → any is_free b ≡ false → (i : ℕ) → i < length b → is_free (get_or b i empty_slot) ≡ false
unfolding any
all-used [] e i l = absurd (omega arith)
all-used (x ∷ b) e zero l = by_test (is_free x) (λ f. never (rw f) e) (λ f. f)
all-used (x ∷ b) e (suc i) l =
    by_test (is_free x) (λ f. never (rw f) e) (λ f. all-used b (rw f at e) i (omega arith))

-- slot i is free, and no lower one is
pub record LowestFree (x : Lent) (i : ℕ) : Type 0 where
  pub inside : i < length x.slots
  pub free : (slot_at x i).length ≡ 0
  pub below : (j : ℕ) → j < i → 0 < (slot_at x j).length

module _ (x : Lent) (h : is_shaped x.slots x.area ≡ true) where
  holds : Shape x.slots x.area
  holds = shape x.slots x.area h

  places : length (board_in x) ≡ length x.slots
  places = length-board x.slots x.area

  used-slot : (i : ℕ) → i < length x.slots → is_free (get_or (board_in x) i empty_slot) ≡ false → 0 < (slot_at x i).length
  used-slot i l f =
      let q = eqb-false (slot_at x i).length 0 (sym (free-at x.slots x.area i holds.bytes holds.fit l) ∙ f) in
      omega arith

  free-slot : (i : ℕ) → i < length x.slots → is_free (get_or (board_in x) i empty_slot) ≡ true → (slot_at x i).length ≡ 0
  free-slot i l f =
      eqb-true (slot_at x i).length 0 (sym (free-at x.slots x.area i holds.bytes holds.fit l) ∙ f)

  -- the lowest free place
  pub lowest-free : any is_free (board_in x) ≡ true → LowestFree x (lowest is_free (board_in x))
  lowest-free f =
      let n = places in
      let k = lowest-inside is_free (board_in x) f in
      let l : lowest is_free (board_in x) < length x.slots = omega arith in
      record {
        inside = l;
        free = free-slot (lowest is_free (board_in x)) l (lowest-passes is_free (board_in x) f);
        below = λ j q. used-slot j (omega arith) (lowest-first is_free (board_in x) j q);
      }

  -- no slot is free exactly where no place is
  pub none-free-said : Says (not (any is_free (board_in x))) (NoneFree x)
  none-free-said =
      record {
        yes_so = λ e i l.
            let n = places in
            used-slot i l (all-used (board_in x) (not-true (any is_free (board_in x)) e) i (omega arith));
        so_yes = λ e.
            by_test (any is_free (board_in x))
            (λ f. let k = lowest-free f in let z = k.free in let s = e (lowest is_free (board_in x)) k.inside in absurd (omega arith))
            (λ f. ap not f);
      }

  -- ---- One slot

  -- a slot is used for an aircraft where its place is for it
  pub used-place : (d : List ℕ) (i : ℕ) → UsedFor x d i → is_for d (get_or (board_in x) i empty_slot) ≡ true
  used-place d i u =
      let s = u.some in
      for_at d x.slots x.area i holds.bytes holds.fit u.inside
      ∙ both (not (eqb (slot_at x i).length 0)) (same_bytes d (slot_at x i).designator)
      (rw (ne_eqb (slot_at x i).length 0 (λ (z : (slot_at x i).length ≡ 0). omega arith)))
      (equal-same d (slot_at x i).designator (sym u.named))

  pub place-used : (d : List ℕ) (i : ℕ) → is_for d (get_or (board_in x) i empty_slot) ≡ true → UsedFor x d i
  unfolding is_for is_free
  place-used d i e =
      let n = places in
      let l : i < length x.slots =
      by_lt i (length x.slots) (λ l. l)
      (λ (l : length x.slots ≤ i).
      let k : length (board_in x) ≤ i = omega arith in
      never e (ap (is_for d) (get_or-eq_default (board_in x) empty_slot {n = i} k))) in
      let used : Bool = not (eqb (slot_at x i).length 0) in
      let same : Bool = same_bytes d (slot_at x i).designator in
      let f : (used && same) ≡ true = sym (for_at d x.slots x.area i holds.bytes holds.fit l) ∙ e in
      let q = eqb-false (slot_at x i).length 0 (not-true (eqb (slot_at x i).length 0) (both_left used same f)) in
      record {
        inside = l;
        named = sym (same-equal d (slot_at x i).designator (both_right used same f));
        some = omega arith;
      }

  slot-text : (i : ℕ) → i < length x.slots
      → (get_or (board_in x) i empty_slot).text ≡ take (slot_at x i).length (drop (longest * i) x.area)
  slot-text i l =
      text_at x.slots x.area i holds.fit l

  -- ---- What waits

  -- what waits on a valid board waits in the lent memory
  pub waits_in : (d : List ℕ) → is_valid (board_in x) ≡ true → is_none (waiting d (board_in x)) ≡ false → Waits x d (waiting d (board_in x))
  unfolding waiting
  waits_in d v s =
      let k = some_for d (board_in x) s in
      let i : ℕ = lowest (is_for d) (board_in x) in
      let mine = lowest-passes (is_for d) (board_in x) k in
      let u : UsedFor x d i = place-used d i mine in
      let text = slot-text i u.inside in
      let l = u.inside in
      let f : (slot_at x i).length ≤ longest = fit_at x.slots i holds.fit in
      let w : length x.area ≡ longest * length x.slots = holds.bytes in
      let n = length-drop (longest * i) x.area in
      record {
        slot = i;
        used = u;
        long = ap length text ∙ length-take-le (slot_at x i).length (drop (longest * i) x.area) (omega arith);
        text = text;
        alone = λ j q.
            by_eq j i (λ e. e) (λ e. never (used-place d j q) (only d (board_in x) v i j mine e));
      }

  -- and what waits there waits on the board
  pub in_waits : (d t : List ℕ) → Waits x d t → waiting d (board_in x) ≡ t
  in_waits d t w =
      waiting-at d (board_in x) w.slot (used-place d w.slot w.used)
      (λ j q. by_test (is_for d (get_or (board_in x) j empty_slot)) (λ f. absurd (q (w.alone j (place-used d j f)))) (λ f. f))
      ∙ slot-text w.slot w.used.inside
      ∙ sym w.text

  -- nothing waits there exactly where nothing waits on the board
  pub nothing_said : (d : List ℕ) → is_valid (board_in x) ≡ true → Says (is_none (waiting d (board_in x))) (NothingWaits x d)
  nothing_said d v =
      record {
        yes_so = λ e i u. never (used-place d i u) (nothing_for d (board_in x) e i);
        so_yes = λ n.
            by_test (is_none (waiting d (board_in x))) (λ e. e) (λ e. let w = waits_in d v e in absurd (n w.slot w.used));
      }

-- a text that waits is not empty
pub waits-some : (x : Lent) (d t : List ℕ) → Waits x d t → is_none t ≡ false
waits-some x d [] w = let l = w.long in let s = w.used.some in absurd (omega arith)
waits-some x d (b ∷ t) w = refl
