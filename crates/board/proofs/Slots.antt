-- Which slot a call uses: the aircraft's own, or the lowest free one; and that what is handed over stands in it.
use mathlib.Core.Path.{◌≡◌, refl, ◌∙◌}
use mathlib.Core.Bool.{Bool, true, false, cond}
use mathlib.Core.List.{List}
use Prim.Native.Nat.{ℕ, ◌≤◌, ◌<◌}
use lib.Dec.{leb}
use lib.ListN.{length, get_or}
use borrow.Author.Tests.{leb-true}
use Rattle.std.specs.Prelude.{Result, Ok, Err}
use Rattle.text.specs.Names.{is_designator}
use Rattle.text.proofs.Cases.{by_test}
use Rattle.text.specs.declared.Refusal.{Refusal}
use Rattle.text.specs.declared.Code.TheVariants.{BoardInvalid, NoRoom, NotAllowed, NothingWaits}
use Rattle.command.specs.Text.{check_command}
use Rattle.join.specs.Join.{join_text}
use Rattle.board.specs.Board.{WaitingSlot, empty_slot, is_none, is_free, is_for, any, lowest, waiting, is_valid, Stay, Put, Free, past_refusals, placing, add, take_out}
use Rattle.board.proofs.WaitingSlots.{never, lowest-passes, lowest-first, waiting-any, some_for}

-- ---- Adding

module _ (p q : ℕ) (d x t : List ℕ) (i : ℕ) (e w : List ℕ) where
  held : (v n : Bool) (s : Result (Unit {0}) Refusal) (f : Bool)
      → past_refusals Stay v n s (placing Stay true f (Put p d x) (Put q d t)) ≡ Put i e w
      → (i ≡ p) × (w ≡ x)
  held true true (Ok u) f k = (cc, cc)
  held true true (Err r) f k = (cc, cc)
  held true false s f k = (cc, cc)
  held false n s f k = (cc, cc)

  fresh : (v n : Bool) (s : Result (Unit {0}) Refusal) (f : Bool)
      → past_refusals Stay v n s (placing Stay false f (Put p d x) (Put q d t)) ≡ Put i e w
      → (f ≡ true) × ((i ≡ q) × (w ≡ t))
  fresh true true (Ok u) true k = (refl, (cc, cc))
  fresh true true (Ok u) false k = (cc, (cc, cc))
  fresh true true (Err r) f k = (cc, (cc, cc))
  fresh true false s f k = (cc, (cc, cc))
  fresh false n s f k = (cc, (cc, cc))

-- slot i is free, and no lower one is
pub record LowestFree (b : List WaitingSlot) (i : ℕ) : Type 0 where
  pub free : is_free (get_or b i empty_slot) ≡ true
  pub below : (j : ℕ) → j < i → is_free (get_or b j empty_slot) ≡ false

module _ (b : List WaitingSlot) (d t : List ℕ) (i : ℕ) (e w : List ℕ) (k : add b d t ≡ Put i e w) where
  -- where something waits for the aircraft, its own slot then holds the join
  pub add-own : is_none (waiting d b) ≡ false → (is_for d (get_or b i empty_slot) ≡ true) × (w ≡ join_text (waiting d b) t)
  unfolding add
  add-own s =
      let h : any (is_for d) b ≡ true = some_for d b s in
      let r =
      held (lowest (is_for d) b) (lowest is_free b) d (join_text (waiting d b) t) t i e w (is_valid b) (is_designator d) (check_command t)
      (any is_free b) (rw h at k) in
      (rw r.0 (lowest-passes (is_for d) b h), r.1)

  -- where nothing does, the lowest free slot then holds the command
  pub add-lowest : is_none (waiting d b) ≡ true → LowestFree b i × (w ≡ t)
  unfolding add
  add-lowest s =
      let h : any (is_for d) b ≡ false = by_test (any (is_for d) b) (λ y. never s (waiting-any d b ∙ rw y)) (λ n. n) in
      let r =
      fresh (lowest (is_for d) b) (lowest is_free b) d (join_text (waiting d b) t) t i e w (is_valid b) (is_designator d) (check_command t)
      (any is_free b) (rw h at k) in
      let here : LowestFree b i =
      record {
        free = rw r.1.0 (lowest-passes is_free b r.0);
        below = λ j l. lowest-first is_free b j (rw r.1.0 at l);
      } in
      (here, r.1.1)

-- ---- Taking

freed : (p : ℕ) (x : List ℕ) (i : ℕ) (w : List ℕ) (v n h l : Bool)
    → cond v (cond n (cond h (cond l (Free p x) (Stay NoRoom 0)) (Stay NothingWaits 0)) (Stay NotAllowed 0)) (Stay BoardInvalid 0) ≡ Free i w
    → (h ≡ true) × ((l ≡ true) × ((i ≡ p) × (w ≡ x)))
freed p x i w true true true true k = (refl, (refl, (cc, cc)))
freed p x i w true true true false k = (cc, (cc, (cc, cc)))
freed p x i w true true false l k = (cc, (cc, (cc, cc)))
freed p x i w true false h l k = (cc, (cc, (cc, cc)))
freed p x i w false n h l k = (cc, (cc, (cc, cc)))

-- slot i is the aircraft's own, and w its text, which fits
pub record HandsOver (b : List WaitingSlot) (d : List ℕ) (room i : ℕ) (w : List ℕ) : Type 0 where
  pub mine : is_for d (get_or b i empty_slot) ≡ true
  pub whole : w ≡ (get_or b i empty_slot).text
  pub fits : length w ≤ room

-- a taking frees the aircraft's own slot and hands over its text
pub take_own : (b : List WaitingSlot) (d : List ℕ) (room i : ℕ) (w : List ℕ) → take_out b d room ≡ Free i w → HandsOver b d room i w
unfolding take_out waiting
take_own b d room i w k =
    let r =
    freed (lowest (is_for d) b) (waiting d b) i w (is_valid b) (is_designator d) (any (is_for d) b)
    (leb (length (waiting d b)) room) k in
    record {
      mine = rw r.1.1.0 (lowest-passes (is_for d) b r.0);
      whole = r.1.1.1 ∙ rw r.1.1.0;
      fits = rw r.1.1.1 (leb-true (length (waiting d b)) room r.1.0);
    }
