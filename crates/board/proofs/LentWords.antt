-- The board in document 01's own words, over the lent slots: what a valid one is, and which slot an adding uses.
use mathlib.Core.Path.{◌≡◌, refl, sym, ap, ◌∙◌}
use mathlib.Core.Logic.{◌↔◌}
use mathlib.Core.Bool.{Bool, true, false}
use mathlib.Core.List.{List, [], ◌∷◌}
use Prim.Native.Nat.{ℕ, zero, suc, ◌≤◌, ◌<◌}
use native.Mathlib.Omega.{arith}
use lib.Dec.{leb, eqb}
use lib.ListN.{length, get_or}
use borrow.Author.Tests.{eqb-true, eqb-false, eq-eqb, ne_eqb, le-leb}
use Rattle.std.specs.Prelude.{Result, Ok, Err}
use Rattle.text.specs.Names.{all_allowed, is_designator}
use Rattle.text.specs.Equal.{same_bytes}
use Rattle.text.proofs.Bytes.{all-allowed-is}
use Rattle.text.proofs.Cases.{by_test, by_eq, both_left, both_right}
use Rattle.text.proofs.Equal.{same-equal, equal-same}
use Rattle.text.specs.declared.Refusal.{Refusal}
use Rattle.text.specs.declared.Code.TheVariants.{BoardInvalid}
use Rattle.command.specs.Text.{longest, check_command}
use Rattle.join.specs.Join.{join_text}
use Rattle.board.specs.Board.{WaitingSlot, empty_slot, is_none, is_free, is_for, any, lowest, waiting, is_valid, Stay, Put, past_refusals, placing, add}
use Rattle.board.specs.History.{Add}
use Rattle.board.specs.Lent.{board_of, lengths_fit, is_shaped, add_lent, is_valid_lent}
use Rattle.board.specs.Words.{slot_at, InUse, text_in, WellFormed, ValidBoard, IsOwn, Adds}
use Rattle.board.specs.declared.Slot.{Slot}
use Rattle.board.proofs.WaitingSlots.{never, both, for_who, for_used, used_for_lem, passes-any, waiting-any, waiting-at, waiting_none}
use Rattle.board.proofs.Valid.{only, Proper, valid_proper, proper_valid}
use Rattle.board.proofs.Steps.{is-fine}
use Rattle.board.proofs.Slots.{add-own, add-lowest}
use Rattle.board.proofs.Lent.{Shape, shape, shaped, length-board, slot-at, free-at, fit_at}
use Rattle.board.proofs.Calls.{call-ten, call_sits}

-- ---- A slot and its place

-- a slot that is used is there
used-there : (xs : List Slot) (i : ℕ) → InUse xs i → i < length xs
used-there [] i u = absurd (u refl)
used-there (x ∷ xs) zero u = omega arith
used-there (x ∷ xs) (suc i) u = omega (arith, used-there xs i u)

-- and so is a place
place-there : (b : List WaitingSlot) (i : ℕ) → is_free (get_or b i empty_slot) ≡ false → i < length b
unfolding is_free
place-there [] i f = never refl f
place-there (x ∷ b) zero f = omega arith
place-there (x ∷ b) (suc i) f = omega (arith, place-there b i f)

module _ (xs : List Slot) (area : List ℕ) where
  -- the place of a used slot names its aircraft
  who-is : (i : ℕ) → InUse xs i → (get_or (board_of xs area) i empty_slot).who ≡ (slot_at xs i).designator
  who-is i u = ap (λ (p : WaitingSlot). p.who) (slot-at xs area i (used-there xs i u))

  -- and holds its text
  text-is : (i : ℕ) → InUse xs i → (get_or (board_of xs area) i empty_slot).text ≡ text_in xs area i
  text-is i u = ap (λ (p : WaitingSlot). p.text) (slot-at xs area i (used-there xs i u))

  module _ (h : Shape xs area) where
    -- a place is free where its slot's length is 0
    free-is : (i : ℕ) → i < length xs → is_free (get_or (board_of xs area) i empty_slot) ≡ eqb (slot_at xs i).length 0
    free-is i l = free-at xs area i h.bytes h.fit l

    -- used where its slot is
    place-used : (i : ℕ) → InUse xs i → is_free (get_or (board_of xs area) i empty_slot) ≡ false
    place-used i u = free-is i (used-there xs i u) ∙ ne_eqb (slot_at xs i).length 0 u

    -- and there alone
    slot-used : (i : ℕ) → is_free (get_or (board_of xs area) i empty_slot) ≡ false → InUse xs i
    slot-used i f =
        let l = rw (length-board xs area) at (place-there (board_of xs area) i f) in
        eqb-false (slot_at xs i).length 0 (sym (free-is i l) ∙ f)

-- ---- Well formed

-- the test of a designator says that it is six bytes, each `A`-`Z` or `0`-`9`
pub formed : (d : List ℕ) → is_designator d ≡ true → WellFormed d
formed d e = (
  eqb-true (length d) 6 (both_left (eqb (length d) 6) (all_allowed d) e),
  sym (all-allowed-is d) ∙ both_right (eqb (length d) 6) (all_allowed d) e,
)

-- and nothing else
pub form : (d : List ℕ) → WellFormed d → is_designator d ≡ true
form d w = both (eqb (length d) 6) (all_allowed d) (eq-eqb (length d) 6 w.0) (all-allowed-is d ∙ w.1)

-- ---- Valid

-- a board that passes the test is valid in the document's words
pub valid-said : (xs : List Slot) (area : List ℕ) → is_valid_lent xs area ≡ true → ValidBoard xs area
unfolding is_valid_lent
valid-said xs area e =
    let b : List WaitingSlot = board_of xs area in
    let h : Shape xs area = shape xs area (both_left (is_shaped xs area) (is_valid b) e) in
    let p : Proper b = valid_proper b (both_right (is_shaped xs area) (is_valid b) e) in
    record {
      few = h.few;
      bytes = h.bytes;
      named = λ i u. formed (slot_at xs i).designator (ap is_designator (sym (who-is xs area i u)) ∙ p.named i (place-used xs area h i u));
      different = λ i j u v s.
          by_eq i j (λ k. k)
          (λ n. never
          (equal-same (get_or b i empty_slot).who (get_or b j empty_slot).who (who-is xs area i u ∙ s ∙ sym (who-is xs area j v)))
          (p.different i j (λ k. n (sym k)) (place-used xs area h i u) (place-used xs area h j v)));
      texts = λ i u. (
        fit_at xs i h.fit,
        ap check_command (sym (text-is xs area i u)) ∙ is-fine (check_command (get_or b i empty_slot).text) (p.fine i (place-used xs area h i u)),
      );
    }

-- the test of the lengths, slot by slot
lengths_fit_lem : (xs : List Slot) → ((i : ℕ) → (slot_at xs i).length ≤ longest) → lengths_fit xs ≡ true
unfolding lengths_fit
lengths_fit_lem [] l = refl
lengths_fit_lem (x ∷ xs) l =
    both (leb x.length longest) (lengths_fit xs) (le-leb x.length longest (l zero)) (lengths_fit_lem xs (λ i. l (suc i)))

-- and one that is valid in the document's words passes it
pub said-valid : (xs : List Slot) (area : List ℕ) → ValidBoard xs area → is_valid_lent xs area ≡ true
unfolding is_valid_lent
said-valid xs area v =
    let b : List WaitingSlot = board_of xs area in
    both (is_shaped xs area) (is_valid b)
    (shaped xs area shapely)
    (proper_valid b
    (record {
      named = λ i f. let u = slot-used xs area shapely i f in ap is_designator (who-is xs area i u) ∙ form (slot_at xs i).designator (v.named i u);
      fine = λ i f. let u = slot-used xs area shapely i f in rw (text-is xs area i u, (v.texts i u).1);
      different = λ i j n f g.
          let u = slot-used xs area shapely i f in
          let w = slot-used xs area shapely j g in
          by_test (same_bytes (get_or b i empty_slot).who (get_or b j empty_slot).who)
          (λ s. absurd
          (n (sym (v.different i j u w
          (sym (who-is xs area i u) ∙ same-equal (get_or b i empty_slot).who (get_or b j empty_slot).who s ∙ who-is xs area j w)))))
          (λ s. s);
    }))
  where
    short : (i : ℕ) → (slot_at xs i).length ≤ longest
    short i =
        by_eq (slot_at xs i).length 0
        (λ (z : (slot_at xs i).length ≡ 0). omega arith)
        (λ u. (v.texts i u).0)

    shapely : Shape xs area
    shapely =
        record {
          few = v.few;
          bytes = v.bytes;
          fit = lengths_fit_lem xs short;
        }

-- so the test says exactly what the document says
pub valid-words : (xs : List Slot) (area : List ℕ) → (is_valid_lent xs area ≡ true) ↔ ValidBoard xs area
valid-words xs area = (valid-said xs area, said-valid xs area)

-- "A board without slots is valid."
pub no-slots : is_valid_lent [] [] ≡ true
no-slots =
    said-valid [] []
    (record {
      few = omega arith;
      bytes = refl;
      named = λ i u. absurd (u refl);
      different = λ i j u v s. absurd (u refl);
      texts = λ i u. absurd (u refl);
    })

-- ---- Adding

module _ (xs : List Slot) (area d t : List ℕ) (i : ℕ) (e w : List ℕ) (k : add_lent xs area d t ≡ Put i e w) where
  abbrev board : List WaitingSlot
  board = board_of xs area

  -- where a text is put the board is valid
  put_valid : is_valid_lent xs area ≡ true
  put_valid =
      by_test (is_valid_lent xs area) (λ v. v)
      (λ n. let z : Stay BoardInvalid 0 ≡ Put i e w = sym (call-ten (record { slots = xs; area = area }) (Add d t) n) ∙ k in cc)

  put_shaped : is_shaped xs area ≡ true
  unfolding is_valid_lent
  put_shaped = both_left (is_shaped xs area) (is_valid board) put_valid

  -- and the board of places does the same
  put_place : add board d t ≡ Put i e w
  unfolding add_lent
  put_place = rw put_shaped at k

  -- the place of the aircraft's own slot is for it
  own-place : (j : ℕ) → IsOwn xs d j → is_for d (get_or board j empty_slot) ≡ true
  own-place j o =
      let h = shape xs area put_shaped in
      rw (← (who-is xs area j o.0 ∙ o.1)) (used_for_lem (get_or board j empty_slot) (place-used xs area h j o.0))

  -- a text is put for the aircraft that was asked for
  put_for : (v n : Bool) (s : Result (Unit {0}) Refusal) (own free : Bool) (p q : ℕ) (x : List ℕ)
      → past_refusals Stay v n s (placing Stay own free (Put p d x) (Put q d t)) ≡ Put i e w
      → e ≡ d
  put_for true true (Ok u) true free p q x r = cc
  put_for true true (Ok u) false true p q x r = cc
  put_for true true (Ok u) false false p q x r = cc
  put_for true true (Err y) own free p q x r = cc
  put_for true false s own free p q x r = cc
  put_for false n s own free p q x r = cc

  -- an adding joins onto that aircraft's text, in its own slot, or uses the lowest free slot
  pub adds : Adds xs area d t i e w
  unfolding is_valid_lent is_for is_free add
  adds =
      let h = shape xs area put_shaped in
      let v : is_valid board ≡ true = both_right (is_shaped xs area) (is_valid board) put_valid in
      record {
        same =
            put_for (is_valid board) (is_designator d) (check_command t) (any (is_for d) board) (any is_free board)
            (lowest (is_for d) board) (lowest is_free board) (join_text (waiting d board) t) put_place;
        own = λ j o.
            let mine = own-place j o in
            let alone : (n : ℕ) → (n ≡ j → ⊥) → is_for d (get_or board n empty_slot) ≡ false = λ n q. only d board v j n mine q in
            let some : is_none (waiting d board) ≡ false = waiting-any d board ∙ rw (passes-any (is_for d) board j refl mine) in
            let r = add-own board d t i e w put_place some in (
              by_eq i j (λ q. q) (λ q. never r.0 (alone i q)),
              r.1 ∙ ap (λ (u : List ℕ). join_text u t) (waiting-at d board j mine alone ∙ text-is xs area j o.0),
            );
        lowest = λ none.
            let nobody : (j : ℕ) → is_for d (get_or board j empty_slot) ≡ false =
            λ j. by_test (is_for d (get_or board j empty_slot))
            (λ y.
            let u = slot-used xs area h j (for_used d (get_or board j empty_slot) y) in
            absurd (none j (u, sym (for_who d (get_or board j empty_slot) y ∙ who-is xs area j u))))
            (λ n. n) in
            let r = add-lowest board d t i e w put_place (ap is_none (waiting_none d board nobody)) in
            let inside = rw k at (call_sits (record { slots = xs; area = area }) (Add d t) put_shaped) in (
              record {
                there = inside.0;
                free = eqb-true (slot_at xs i).length 0 (sym (free-is xs area h i inside.0) ∙ r.0.free);
                below = λ j l. slot-used xs area h j (r.0.below j l);
              },
              r.1,
            );
      }
