-- A valid board: what its used places are, that no two are for one aircraft, and that it stays valid.
use mathlib.Core.Path.{◌≡◌, refl, ap, ◌∙◌}
use mathlib.Core.Bool.{Bool, true, false, ◌&&◌}
use mathlib.Core.List.{List, [], ◌∷◌}
use Prim.Native.Nat.{ℕ, zero, suc, ◌<◌}
use native.Mathlib.Omega.{arith}
use lib.ListN.{length, get_or, set}
use lib.Seq.{get_or-set_same, get_or-set_other}
use Rattle.text.specs.Names.{is_designator}
use Rattle.text.specs.Checks.{is_fine}
use Rattle.text.proofs.Cases.{by_test, by_eq, both_left, both_right}
use Rattle.text.specs.Equal.{same_bytes}
use Rattle.text.proofs.Equal.{equal-same}
use Rattle.command.specs.Text.{check_command}
use Rattle.board.specs.Board.{WaitingSlot, empty_slot, is_none, is_free, is_for, any, lowest, waiting, is_sound, is_valid}
use Rattle.board.proofs.WaitingSlots.{never, both, for_who, for_used, free_for, used_for_lem, lowest-passes, waiting_none, nothing_for, waiting_kept}

-- ---- Used places

-- what a used place is, with the places after it
pub record Used (x : WaitingSlot) (rest : List WaitingSlot) : Type 0 where
  pub named : is_designator x.who ≡ true
  pub fine : is_fine (check_command x.text) ≡ true
  pub alone : is_none (waiting x.who rest) ≡ true

-- which a sound place is, where it is used
pub used : (x : WaitingSlot) (rest : List WaitingSlot) → is_free x ≡ false → is_sound x rest ≡ true → Used x rest
used x rest f e =
    let n : Bool = is_designator x.who in
    let c : Bool = is_fine (check_command x.text) in
    let o : Bool = is_none (waiting x.who rest) in
    let both : (n && (c && o)) ≡ true = rw f at e in
    let right : (c && o) ≡ true = both_right n (c && o) both in
    record { named = both_left n (c && o) both; fine = both_left c o right; alone = both_right c o right }

-- the first place of a valid board is sound
pub valid-first : (x : WaitingSlot) (b : List WaitingSlot) → is_valid (x ∷ b) ≡ true → is_sound x b ≡ true
unfolding is_valid
valid-first x b v = both_left (is_sound x b) (is_valid b) v

-- and the rest is valid
pub valid-rest : (x : WaitingSlot) (b : List WaitingSlot) → is_valid (x ∷ b) ≡ true → is_valid b ≡ true
unfolding is_valid
valid-rest x b v = both_right (is_sound x b) (is_valid b) v

-- every used text of a valid board is accepted
pub valid-fine : (b : List WaitingSlot) → is_valid b ≡ true → (i : ℕ) → is_free (get_or b i empty_slot) ≡ false
    → is_fine (check_command (get_or b i empty_slot).text) ≡ true
unfolding is_free
valid-fine [] v i f = never refl f
valid-fine (x ∷ b) v zero f = (used x b f (valid-first x b v)).fine
valid-fine (x ∷ b) v (suc i) f = valid-fine b (valid-rest x b v) i f

-- and so is what waits
pub waiting-fine : (d : List ℕ) (b : List WaitingSlot) → is_valid b ≡ true → any (is_for d) b ≡ true
    → is_fine (check_command (waiting d b)) ≡ true
unfolding waiting
waiting-fine d b v h =
    valid-fine b v (lowest (is_for d) b) (for_used d (get_or b (lowest (is_for d) b) empty_slot) (lowest-passes (is_for d) b h))

-- the aircraft of a used place is well formed
pub valid-named : (b : List WaitingSlot) → is_valid b ≡ true → (i : ℕ) → is_free (get_or b i empty_slot) ≡ false
    → is_designator (get_or b i empty_slot).who ≡ true
unfolding is_free
valid-named [] v i f = never refl f
valid-named (x ∷ b) v zero f = (used x b f (valid-first x b v)).named
valid-named (x ∷ b) v (suc i) f = valid-named b (valid-rest x b v) i f

-- so is one for which something waits
pub waiting-named : (d : List ℕ) (b : List WaitingSlot) → is_valid b ≡ true → any (is_for d) b ≡ true → is_designator d ≡ true
waiting-named d b v h =
    let x : WaitingSlot = get_or b (lowest (is_for d) b) empty_slot in
    let mine : is_for d x ≡ true = lowest-passes (is_for d) b h in
    ap is_designator (for_who d x mine) ∙ valid-named b v (lowest (is_for d) b) (for_used d x mine)

-- ---- One place for one aircraft

-- no two places of a valid board are for one aircraft
pub only : (d : List ℕ) (b : List WaitingSlot) → is_valid b ≡ true → (i j : ℕ) → is_for d (get_or b i empty_slot) ≡ true → (j ≡ i → ⊥)
    → is_for d (get_or b j empty_slot) ≡ false
unfolding is_for is_free
only d [] v i j h n = refl
only d (x ∷ b) v zero zero h n = absurd (n refl)
only d (x ∷ b) v zero (suc j) h n =
    nothing_for d b (rw (for_who d x h) (used x b (for_used d x h) (valid-first x b v)).alone) j
only d (x ∷ b) v (suc i) zero h n =
    by_test (is_for d x)
    (λ k. never h (nothing_for d b (rw (for_who d x k) (used x b (for_used d x k) (valid-first x b v)).alone) i))
    (λ k. k)
only d (x ∷ b) v (suc i) (suc j) h n = only d b (valid-rest x b v) i j h (λ (e : j ≡ i). n (ap suc e))

-- ---- Document 01's own words

-- used designators well formed and different, used texts accepted
pub record Proper (b : List WaitingSlot) : Type 0 where
  pub named : (i : ℕ) → is_free (get_or b i empty_slot) ≡ false → is_designator (get_or b i empty_slot).who ≡ true
  pub fine : (i : ℕ) → is_free (get_or b i empty_slot) ≡ false → is_fine (check_command (get_or b i empty_slot).text) ≡ true
  pub different : (i j : ℕ) → (j ≡ i → ⊥) → is_free (get_or b i empty_slot) ≡ false → is_free (get_or b j empty_slot) ≡ false
      → same_bytes (get_or b i empty_slot).who (get_or b j empty_slot).who ≡ false

-- a valid board is that
pub valid_proper : (b : List WaitingSlot) → is_valid b ≡ true → Proper b
unfolding is_for
valid_proper b v =
    record {
      named = valid-named b v;
      fine = valid-fine b v;
      different = λ i j n f g.
          let x : WaitingSlot = get_or b i empty_slot in
          let y : WaitingSlot = get_or b j empty_slot in
          by_test (same_bytes x.who y.who) (λ e. never (rw (g, e)) (only x.who b v i j (used_for_lem x f) n)) (λ e. e);
    }

-- and nothing else is asked
pub proper_valid : (b : List WaitingSlot) → Proper b → is_valid b ≡ true
unfolding is_valid
proper_valid [] p = refl
proper_valid (x ∷ b) p =
    both (is_sound x b) (is_valid b)
    (by_test (is_free x) (λ f. rw f)
    (λ f. rw (f, p.named zero f, p.fine zero f) (ap is_none (waiting_none x.who b (λ j. other f j)))))
    (proper_valid b
    (record {
      named = λ i. p.named (suc i);
      fine = λ i. p.fine (suc i);
      different = λ i j n. p.different (suc i) (suc j) (λ (e : suc j ≡ suc i). n (omega arith));
    }))
  where
    other : is_free x ≡ false → (j : ℕ) → is_for x.who (get_or b j empty_slot) ≡ false
    other f j =
        let y : WaitingSlot = get_or b j empty_slot in
        by_test (is_for x.who y)
        (λ h. never (equal-same x.who y.who (for_who x.who y h))
        (p.different zero (suc j) (λ (e : suc j ≡ zero). omega arith) f (for_used x.who y h)))
        (λ h. h)

-- ---- A place set

-- a place may be set to x where x is accepted and no other place is for its aircraft
pub record Fits (b : List WaitingSlot) (i : ℕ) (x : WaitingSlot) : Type 0 where
  pub named : is_designator x.who ≡ true
  pub fine : is_fine (check_command x.text) ≡ true
  pub alone : (j : ℕ) → (j ≡ i → ⊥) → is_for x.who (get_or b j empty_slot) ≡ false

-- a board stays valid where a place is freed, or set to what fits
pub valid-set : (b : List WaitingSlot) (i : ℕ) (x : WaitingSlot) → is_valid b ≡ true → (is_free x ≡ false → Fits b i x)
    → is_valid (set b i x) ≡ true
unfolding is_valid
valid-set [] i x v g = refl
valid-set (y ∷ b) zero x v g =
    both (is_sound x b) (is_valid b) (by_test (is_free x) (λ f. rw f) (λ f. rw f (fresh (g f)))) (valid-rest y b v)
  where
    fresh : Fits (y ∷ b) zero x
        → (is_designator x.who && (is_fine (check_command x.text) && is_none (waiting x.who b))) ≡ true
    fresh h =
        rw (h.named, h.fine)
        (ap is_none (waiting_none x.who b (λ j. h.alone (suc j) (λ (e : suc j ≡ zero). omega arith))))
valid-set (y ∷ b) (suc i) x v g =
    both (is_sound y (set b i x)) (is_valid (set b i x))
    (by_test (is_free y) (λ f. rw f) (λ f. rw f (still f (used y b f (valid-first y b v)))))
    (valid-set b i x (valid-rest y b v) (λ f. later (g f)))
  where
    later : Fits (y ∷ b) (suc i) x → Fits b i x
    later h =
        record {
          named = h.named;
          fine = h.fine;
          alone = λ j n. h.alone (suc j) (λ (e : suc j ≡ suc i). n (omega arith));
        }

    -- the place in front is for another aircraft
    apart : is_free y ≡ false → is_for y.who x ≡ false
    apart f =
        by_test (is_free x) (free_for y.who x)
        (λ u. by_test (is_for y.who x)
        (λ h. never (rw (← for_who y.who x h) (used_for_lem y f)) ((g u).alone zero (λ (e : zero ≡ suc i). omega arith)))
        (λ h. h))

    still : is_free y ≡ false → Used y b
        → (is_designator y.who && (is_fine (check_command y.text) && is_none (waiting y.who (set b i x)))) ≡ true
    still f u =
        rw (u.named, u.fine)
        (ap is_none (waiting_kept y.who b i x (nothing_for y.who b u.alone i) (apart f)) ∙ u.alone)

-- once the place of an aircraft is freed nothing waits for it
pub freed-none : (d : List ℕ) (b : List WaitingSlot) (i : ℕ) (x : WaitingSlot) → is_valid b ≡ true → is_for d (get_or b i empty_slot) ≡ true
    → i < length b → is_free x ≡ true → waiting d (set b i x) ≡ []
freed-none d b i x v h l f =
    waiting_none d (set b i x)
    (λ j. by_eq j i
    (λ y. rw (y, get_or-set_same b i x empty_slot l) (free_for d x f))
    (λ n. rw (get_or-set_other b i j x empty_slot n) (only d b v i j h n)))
