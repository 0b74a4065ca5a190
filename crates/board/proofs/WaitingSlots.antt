-- The slots of a board: for whom one is, which is the lowest that passes a test, what waits, and what waits once a slot is set.
use mathlib.Core.Path.{◌≡◌, refl, ap, ◌∙◌}
use mathlib.Core.Bool.{Bool, true, false, cond, not, ◌&&◌}
use mathlib.Core.List.{List, [], ◌∷◌}
use Prim.Native.Nat.{ℕ, zero, suc, ◌<◌}
use native.Mathlib.Omega.{arith}
use lib.ListN.{length, get_or, set}
use lib.Seq.{get_or-set_same, get_or-set_other}
use Rattle.text.specs.Equal.{same_bytes}
use Rattle.text.proofs.Cases.{by_test, both_right}
use Rattle.text.proofs.Equal.{same-equal, same_self}
use Rattle.board.specs.Board.{WaitingSlot, empty_slot, is_none, is_free, is_for, any, lowest, waiting}

-- ---- Tests

-- no test goes both ways
pub never {ℓ} : {P : Type ℓ} {t : Bool} → t ≡ true → t ≡ false → P
never {t} e f = let z : ◌≡◌ {A = ℕ} 0 1 = cc in absurd (omega arith)

-- two tests that hold hold together
pub both : (s t : Bool) → s ≡ true → t ≡ true → (s && t) ≡ true
both s t e f = rw (e, f)

-- no text is the empty one
pub none_is : (w : List ℕ) → is_none w ≡ true → w ≡ []
none_is [] e = refl
none_is (b ∷ w) e = never e refl

-- ---- One place

-- it is for the aircraft that it names
pub for_who : (d : List ℕ) (x : WaitingSlot) → is_for d x ≡ true → d ≡ x.who
unfolding is_for
for_who d x e = same-equal d x.who (both_right (not (is_free x)) (same_bytes d x.who) e)

-- it is then used
pub for_used : (d : List ℕ) (x : WaitingSlot) → is_for d x ≡ true → is_free x ≡ false
unfolding is_for
for_used d x e = by_test (is_free x) (λ f. never e (rw f)) (λ f. f)

-- a free place is for nobody, whatever designator stands in it
pub free_for : (d : List ℕ) (x : WaitingSlot) → is_free x ≡ true → is_for d x ≡ false
unfolding is_for
free_for d x f = rw f

-- a used place is for the aircraft that it names
pub used_for_lem : (x : WaitingSlot) → is_free x ≡ false → is_for x.who x ≡ true
unfolding is_for
used_for_lem x f = rw (f, same_self x.who)

-- and for no other
pub for_one : (d e : List ℕ) (x : WaitingSlot) → is_for d x ≡ true → same_bytes e d ≡ false → is_for e x ≡ false
unfolding is_for is_free
for_one d e x h n = rw (← for_who d x h, n, for_used d x h)

-- ---- The lowest place that passes a test

module _ (test : WaitingSlot → Bool) where
  -- no place before it passes
  pub lowest-first : (b : List WaitingSlot) (j : ℕ) → j < lowest test b → test (get_or b j empty_slot) ≡ false
  unfolding lowest
  lowest-first [] j l = absurd (omega arith)
  lowest-first (x ∷ b) zero l = by_test (test x) (λ h. absurd (omega (arith, rw h at l))) (λ h. h)
  lowest-first (x ∷ b) (suc j) l =
      by_test (test x)
      (λ h. absurd (omega (arith, rw h at l)))
      (λ h. lowest-first b j (omega (arith, rw h at l)))

  -- where any place passes, it does
  pub lowest-passes : (b : List WaitingSlot) → any test b ≡ true → test (get_or b (lowest test b) empty_slot) ≡ true
  unfolding any lowest
  lowest-passes [] e = never e refl
  lowest-passes (x ∷ b) e = by_test (test x) (λ h. rw h h) (λ h. rw h (lowest-passes b (rw h at e)))

  -- where some place passes, the lowest is one of the board
  pub lowest-inside : (b : List WaitingSlot) → any test b ≡ true → lowest test b < length b
  unfolding any lowest
  lowest-inside [] e = never e refl
  lowest-inside (x ∷ b) e =
      by_test (test x) (λ h. rw h (omega arith)) (λ h. rw h (omega (arith, lowest-inside b (rw h at e))))

  -- and the other way round
  pub inside-any : (b : List WaitingSlot) → lowest test b < length b → any test b ≡ true
  unfolding any lowest
  inside-any [] l = absurd (omega arith)
  inside-any (x ∷ b) l = by_test (test x) (λ h. rw h) (λ h. rw h (inside-any b (omega (arith, rw h at l))))

  -- a place that passes is one of those that do
  pub passes-any : (b : List WaitingSlot) (i : ℕ) → test empty_slot ≡ false → test (get_or b i empty_slot) ≡ true → any test b ≡ true
  unfolding any
  passes-any [] i o h = never h o
  passes-any (x ∷ b) zero o h = rw h
  passes-any (x ∷ b) (suc i) o h = by_test (test x) (λ k. rw k) (λ k. rw k (passes-any b i o h))

  -- where none passes, none does
  pub none_passes : (b : List WaitingSlot) → test empty_slot ≡ false → any test b ≡ false → (j : ℕ) → test (get_or b j empty_slot) ≡ false
  none_passes b o e j = by_test (test (get_or b j empty_slot)) (λ h. never (passes-any b j o h) e) (λ h. h)

-- ---- What waits

-- what waits by the first place and the rest
pub waiting-cons : (d : List ℕ) (x : WaitingSlot) (b : List WaitingSlot) → waiting d (x ∷ b) ≡ cond (is_for d x) x.text (waiting d b)
unfolding waiting lowest
waiting-cons d x b = go (is_for d x) (lowest (is_for d) b)
  where
    go : (t : Bool) (k : ℕ) → (get_or (x ∷ b) (cond t zero (suc k)) empty_slot).text ≡ cond t x.text (get_or b k empty_slot).text
    go true k = refl
    go false k = refl

-- the one place that is for an aircraft holds what waits for it
pub waiting-at : (d : List ℕ) (b : List WaitingSlot) (i : ℕ) → is_for d (get_or b i empty_slot) ≡ true
    → ((j : ℕ) → (j ≡ i → ⊥) → is_for d (get_or b j empty_slot) ≡ false) → waiting d b ≡ (get_or b i empty_slot).text
unfolding is_for is_free
waiting-at d [] i h o = never h refl
waiting-at d (x ∷ b) zero h o = rw (waiting-cons d x b, h)
waiting-at d (x ∷ b) (suc i) h o =
    rw (waiting-cons d x b, o zero (λ (e : zero ≡ suc i). omega arith))
    (waiting-at d b i h (λ j n. o (suc j) (λ (e : suc j ≡ suc i). n (omega arith))))

-- nothing waits where no place is for it
pub waiting_none : (d : List ℕ) (b : List WaitingSlot) → ((j : ℕ) → is_for d (get_or b j empty_slot) ≡ false) → waiting d b ≡ []
unfolding waiting
waiting_none d [] o = refl
waiting_none d (x ∷ b) o = rw (waiting-cons d x b, o zero) (waiting_none d b (λ j. o (suc j)))

-- something waits exactly where some place is for it
pub waiting-any : (d : List ℕ) (b : List WaitingSlot) → is_none (waiting d b) ≡ not (any (is_for d) b)
unfolding any waiting is_free
waiting-any d [] = refl
waiting-any d (x ∷ b) =
    rw (waiting-cons d x b) (by_test (is_for d x) (λ h. rw h (for_used d x h)) (λ h. rw h (waiting-any d b)))

-- where something waits, a place is for it
pub some_for : (d : List ℕ) (b : List WaitingSlot) → is_none (waiting d b) ≡ false → any (is_for d) b ≡ true
some_for d b e = by_test (any (is_for d) b) (λ h. h) (λ h. never (waiting-any d b ∙ rw h) e)

-- where nothing does, none is
pub nothing_for : (d : List ℕ) (b : List WaitingSlot) → is_none (waiting d b) ≡ true → (j : ℕ) → is_for d (get_or b j empty_slot) ≡ false
unfolding is_for is_free
nothing_for d b e =
    none_passes (is_for d) b refl (by_test (any (is_for d) b) (λ h. never e (waiting-any d b ∙ rw h)) (λ h. h))

-- ---- What waits after a set

-- an aircraft's text stays where a place is set that neither was nor is for it
pub waiting_kept : (e : List ℕ) (b : List WaitingSlot) (i : ℕ) (x : WaitingSlot) → is_for e (get_or b i empty_slot) ≡ false → is_for e x ≡ false
    → waiting e (set b i x) ≡ waiting e b
waiting_kept e [] i x h k = refl
waiting_kept e (y ∷ b) zero x h k = rw (waiting-cons e x b, waiting-cons e y b, h, k)
waiting_kept e (y ∷ b) (suc i) x h k =
    rw (waiting-cons e y (set b i x), waiting-cons e y b, waiting_kept e b i x h k)

-- a place set for an aircraft for which no other place is: that text waits for it, and for every other aircraft what waited
module _ (b : List WaitingSlot) (i : ℕ) (d t : List ℕ) (inside : i < length b)
    (alone : (j : ℕ) → (j ≡ i → ⊥) → is_for d (get_or b j empty_slot) ≡ false)
    (apart : (e : List ℕ) → same_bytes e d ≡ false → is_for e (get_or b i empty_slot) ≡ false) (some : is_none t ≡ false) where
  pub waiting-set : (e : List ℕ) → waiting e (set b i (record { who = d; text = t })) ≡ cond (same_bytes e d) t (waiting e b)
  unfolding is_for is_free
  waiting-set e =
      let x : WaitingSlot = record { who = d; text = t } in
      let at : get_or (set b i x) i empty_slot ≡ x = get_or-set_same b i x empty_slot inside in
      let mine : is_for d x ≡ true = rw (some, same_self d) in
      by_test (same_bytes e d)
      (λ y. rw (y, same-equal e d y)
      (waiting-at d (set b i x) i (ap (is_for d) at ∙ mine)
      (λ j q. ap (is_for d) (get_or-set_other b i j x empty_slot q) ∙ alone j q)
      ∙ ap (λ (z : WaitingSlot). z.text) at))
      (λ n. rw n (waiting_kept e b i x (apart e n) (rw (some, n))))
