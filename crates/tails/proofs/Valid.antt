-- The list of a valid board: there is one, a call keeps it, and a search through it answers as a walk over the slots does.
use mathlib.Core.Path.{◌≡◌, refl, sym, ap, ◌∙◌, subst}
use mathlib.Core.Bool.{true, false}
use mathlib.Core.List.{List, [], ◌∷◌}
use Prim.Native.Nat.{ℕ, ◌≤◌, ◌<◌}
use native.Mathlib.Omega.{arith}
use lib.Dec.{leb, ltb, eqb}
use lib.ListN.{length, get_or}
use borrow.Author.Tests.{le-leb, lt-leb, lt-ltb, leb-true}
use Rattle.std.specs.Prelude.{Option, Some, None, Ok}
use Rattle.text.specs.Names.{allowed, all_allowed, is_designator}
use Rattle.text.proofs.Cases.{by_lt, by_test, both_left, both_right}
use Rattle.text.specs.declared.Code.TheVariants.{NotAllowed, BoardInvalid}
use Rattle.board.specs.Board.{is_valid, on_board}
use Rattle.board.specs.History.{Event}
use Rattle.board.specs.Lent.{is_shaped, is_valid_lent, on_slots, on_area}
use Rattle.board.specs.Calls.{Lent, board_in, call, on_lent}
use Rattle.board.specs.Words.{slot_at, WellFormed, ValidBoard, IsOwn}
use Rattle.board.specs.declared.Slot.{Slot}
use Rattle.board.proofs.WaitingSlots.{never, both}
use Rattle.board.proofs.Steps.{right}
use Rattle.board.proofs.Calls.{call-move, call-board, call-shaped}
use Rattle.board.proofs.LentWords.{formed, form, valid-said, said-valid}
use Rattle.tails.specs.Tails.{key, below, listed, agrees, list_of, find_in}
use Rattle.tails.specs.Keys.{rank_of, keys_of, is_list_of}
use Rattle.tails.specs.Words.{Earlier, all_bytes, designator_at}
use Rattle.tails.specs.Calls.{refused_search, told_of, sought_by, search_lent}
use Rattle.tails.proofs.Made.{Different, made-agrees}
use Rattle.tails.proofs.Unique.{agreed, agrees-one}
use Rattle.tails.proofs.Found.{rises_sorted, finds, found-key, listed-is}
use Rattle.tails.proofs.Order.{earlier_less, less_earlier, same_rank}
use Rattle.tails.proofs.Keyed.{length_keys}
use Rattle.tails.proofs.Bisect.{before-is, before-not}
use Rattle.tails.proofs.Said.{key-used, used-key, key-some, at-used}

-- ---- Designators

small : (b : ℕ) → allowed b ≡ true → b < 256
unfolding allowed
small b a =
    by_lt b 256 (λ (h : b < 256). h)
    (λ (h : 256 ≤ b). never (rw (le-leb 65 b (omega arith), lt-leb b 90 (omega arith), le-leb 48 b (omega arith), lt-leb b 57 (omega arith)) at a) refl)

all_small_lem : (d : List ℕ) → all_allowed d ≡ true → all_bytes d ≡ true
unfolding all_allowed all_bytes
all_small_lem [] a = refl
all_small_lem (b ∷ d) a =
    both (ltb b 256) (all_bytes d) (lt-ltb b 256 (small b (both_left (allowed b) (all_allowed d) a))) (all_small_lem d (both_right (allowed b) (all_allowed d) a))

pub well_bytes : (d : List ℕ) → WellFormed d → all_bytes d ≡ true
well_bytes d w = all_small_lem d (both_right (eqb (length d) 6) (all_allowed d) (form d w))

-- two that are well formed and of one rank are one
one_rank : (d e : List ℕ) → WellFormed d → WellFormed e → rank_of d ≡ rank_of e → d ≡ e
one_rank d e w v r = same_rank d e 0 (w.0 ∙ sym v.0) (well_bytes d w) (well_bytes e v) (omega (arith, r))

-- ---- The list there is

module _ (ss : List Slot) (area : List ℕ) (v : ValidBoard ss area) where
  used-apart : Different (keys_of ss)
  used-apart i j h e =
      let ui = used-key ss i h in
      let uj = used-key ss j (omega (arith, h, e)) in
      v.different i j ui uj (one_rank (slot_at ss i).designator (slot_at ss j).designator (v.named i ui) (v.named j uj) (sym (key-used ss i ui) ∙ e ∙ key-used ss j uj))

  pub valid-list : is_list_of ss (list_of (keys_of ss)) ≡ true
  unfolding is_list_of
  valid-list =
      let h : length (keys_of ss) ≤ 64 = omega (arith, length_keys ss, v.few) in
      both (leb (length ss) 64) (agrees (keys_of ss) (list_of (keys_of ss))) (le-leb (length ss) 64 v.few) (made-agrees (keys_of ss) h used-apart)

-- one and no other
pub one-list-of : (ss : List Slot) (ts us : List ℕ) → is_list_of ss ts ≡ true → is_list_of ss us ≡ true → ts ≡ us
unfolding is_list_of
one-list-of ss ts us a b =
    agrees-one (keys_of ss) ts us (both_right (leb (length ss) 64) (agrees (keys_of ss) ts) a) (both_right (leb (length ss) 64) (agrees (keys_of ss) us) b)

-- the one that is made
pub list-is : (ss : List Slot) (ts : List ℕ) → is_list_of ss ts ≡ true → ts ≡ list_of (keys_of ss)
unfolding is_list_of
list-is ss ts h =
    let l = leb-true (length ss) 64 (both_left (leb (length ss) 64) (agrees (keys_of ss) ts) h) in
    listed-is (keys_of ss) ts (omega (arith, l, length_keys ss)) (both_right (leb (length ss) 64) (agrees (keys_of ss) ts) h)

-- a call leaves a valid board valid
pub valid-kept : (x : Lent) (e : Event) → ValidBoard x.slots x.area → ValidBoard (on_slots (call x e) x.slots) (on_area (call x e) x.area)
unfolding is_valid_lent
valid-kept x e v =
    let t = said-valid x.slots x.area v in
    let h = both_left (is_shaped x.slots x.area) (is_valid (board_in x)) t in
    let k = both_right (is_shaped x.slots x.area) (is_valid (board_in x)) t in
    let after : is_valid (board_in (on_lent (call x e) x)) ≡ true = ap is_valid (call-board x e h ∙ ap (λ m. on_board m (board_in x)) (call-move x e h)) ∙ (right (board_in x) k e).valid in
    valid-said (on_slots (call x e) x.slots) (on_area (call x e) x.area) (both (is_shaped (on_slots (call x e) x.slots) (on_area (call x e) x.area)) (is_valid (board_in (on_lent (call x e) x))) (call-shaped x e h) after)

-- ---- The search

module _ (ss : List Slot) (area ts d : List ℕ) (v : ValidBoard ss area) (h : is_list_of ss ts ≡ true) where
  abbrev ks : List ℕ
  ks = keys_of ss

  agree : agrees ks ts ≡ true
  unfolding is_list_of
  agree = both_right (leb (length ss) 64) (agrees ks ts) h

  past : is_designator d ≡ true → search_lent ss ts d ≡ sought_by ks (rank_of d) ts
  unfolding search_lent
  past w = rw (h, w)

  -- how many of the list come before the aircraft
  abbrev pub before : ℕ
  before = below ks (rank_of d) (listed ts)

  -- a slot that waits for the aircraft is found
  pub search_own : (j : ℕ) → IsOwn ss d j → search_lent ss ts d ≡ Ok (told_of (Some j) before)
  search_own j o =
      let w : WellFormed d = subst WellFormed o.1 (v.named j o.0) in
      let k : key ks j ≡ rank_of d = key-used ss j o.0 ∙ ap rank_of o.1 in
      let f : find_in ks (rank_of d) (listed ts) ≡ Some j = rw (← k) (finds ks ts (agreed ks ts agree) j (key-some ss j o.0)) in
      past (form d w) ∙ ap (λ (r : Option ℕ). Ok (told_of r before)) f

  -- one that none waits for is not
  pub search_none : WellFormed d → ((j : ℕ) → IsOwn ss d j → ⊥) → search_lent ss ts d ≡ Ok (told_of None before)
  search_none w n = past (form d w) ∙ ap (λ (r : Option ℕ). Ok (told_of r before)) (go (find_in ks (rank_of d) (listed ts)) refl)
    where
      go : (r : Option ℕ) → find_in ks (rank_of d) (listed ts) ≡ r → find_in ks (rank_of d) (listed ts) ≡ None
      go (Some j) e =
          let k = found-key ks (rank_of d) (listed ts) j e in
          let u = used-key ss j (omega (arith, k)) in
          absurd (n j (u, one_rank (slot_at ss j).designator d (v.named j u) w (sym (key-used ss j u) ∙ k)))
      go None e = e

  -- those that come before it are the earlier ones
  pub search_before : WellFormed d → (i : ℕ) → i < length (listed ts) → (i < before → Earlier (designator_at ss ts i) d) × (before ≤ i → Earlier (designator_at ss ts i) d → ⊥)
  search_before w i l =
      let a = agreed ks ts agree in
      let u = at-used ss ts a i l in
      let e = u.1 in
      let k = key-used ss (get_or ts i 0) u.0 in
      let n = v.named (get_or ts i 0) u.0 in
      let g : get_or ts i 0 ≡ get_or (listed ts) i 0 = e in
      let same = n.0 ∙ sym w.0 in (
        (λ (b : i < before).
            by_lt (key ks (get_or (listed ts) i 0)) (rank_of d)
            (λ (q : key ks (get_or (listed ts) i 0) < rank_of d). less_earlier (designator_at ss ts i) d 0 same (well_bytes d w) (omega (arith, q, k, ap (key ks) g)))
            (λ (q : rank_of d ≤ key ks (get_or (listed ts) i 0)). absurd (omega (arith, b, before-not ks (rank_of d) (listed ts) i l q)))),
        (λ (b : before ≤ i) (q : Earlier (designator_at ss ts i) d).
            let r = earlier_less (designator_at ss ts i) d 0 same (well_bytes (designator_at ss ts i) n) q in
            let s : key ks (get_or (listed ts) i 0) < rank_of d = omega (arith, r, k, ap (key ks) g) in
            omega (arith, b, before-is ks (rank_of d) (listed ts) i (rises_sorted ks 0 (listed ts) a.up) l s)),
      )

-- and one that is not well formed is 4
pub search_four : (ss : List Slot) (ts d : List ℕ) → is_list_of ss ts ≡ true → (WellFormed d → ⊥) → search_lent ss ts d ≡ refused_search NotAllowed 0
unfolding search_lent
search_four ss ts d h n =
    by_test (is_designator d)
    (λ (w : is_designator d ≡ true). absurd (n (formed d w)))
    (λ (w : is_designator d ≡ false). rw (h, w))

-- a list that disagrees is 10, before that
pub search_ten : (ss : List Slot) (ts d : List ℕ) → is_list_of ss ts ≡ false → search_lent ss ts d ≡ refused_search BoardInvalid 0
unfolding search_lent
search_ten ss ts d h = rw h
