-- The first box that holds the position, of the boxes that a list counts.
use mathlib.Core.Path.{◌≡◌, refl}
use mathlib.Core.Logic.{◌⊎◌, inl, inr}
use mathlib.Core.Bool.{false, not}
use mathlib.Core.List.{List, [], ◌∷◌}
use Prim.Native.Nat.{ℕ, zero, suc, ◌+◌, ◌<◌}
use native.Mathlib.Omega.{arith}
use lib.Dec.{ltb, eqb}
use lib.IntN.{ℤ}
use lib.Signed.{mag}
use lib.ListN.{length, get_or, take}
use borrow.Author.Tests.{lt-ltb, ne_eqb}
use Rattle.field.specs.Boxes.{no_region}
use Rattle.field.specs.declared.Region.{Region}
use Rattle.field.proofs.RoundTrip.{AllowedBox}
use Rattle.lists.specs.declared.Boxes.{Boxes}
use Rattle.decide.specs.Tests.{minutes, holds as holdsAt, first_from, first_holding}
use Rattle.decide.specs.Dateline.{Longitude}
use Rattle.decide.specs.Words.{Holds, SomeHolds}
use Rattle.decide.proofs.Tests.{Says, says_no, by_said, never-said, not-said}
use Rattle.decide.proofs.Words.{holds-said}

-- a number is 0 just where it isn't above 0
zero-said : (v : ℕ) {P : Type 0} → Says (not (ltb 0 v)) P → Says (eqb v 0) P
zero-said zero s = s
zero-said (suc v) s = rw (ne_eqb (suc v) 0 (λ e. omega arith)) (rw (lt-ltb 0 (suc v) (omega arith)) at s)

-- of the first k boxes one holds the position, and none before it
pub record Found (n e : ℤ) (m k : ℕ) (bs : List Region) : Type 0 where
  pub which : ℕ
  pub counted : which < k
  pub there : which < length bs
  pub holds : Holds (get_or bs which no_region) n e
  pub none : (j : ℕ) → j < which → ¬ Holds (get_or bs j no_region) n e
  pub number : first_from m (take k bs) (minutes n) (minutes e) ≡ m + which

-- none does
pub record NotFound (n e : ℤ) (m k : ℕ) (bs : List Region) : Type 0 where
  pub none : (j : ℕ) → j < k → j < length bs → ¬ Holds (get_or bs j no_region) n e
  pub number : first_from m (take k bs) (minutes n) (minutes e) ≡ 0

module _ (n e : ℤ) (small : mag n < 60000) (little : Longitude e) where
  -- one of the two is so
  pub first_said : (m k : ℕ) (bs : List Region) → ((i : ℕ) → i < k → i < length bs → AllowedBox (get_or bs i no_region))
      → Found n e m k bs ⊎ NotFound n e m k bs
  unfolding first_from
  first_said m zero bs ok = inr (record { none = λ j l t h. omega arith; number = refl })
  first_said m (suc k) [] ok = inr (record { none = λ j l t h. omega arith; number = refl })
  first_said m (suc k) (b ∷ bs) ok =
      let said = holds-said n e small little b (ok 0 (omega arith) (omega arith)) in
      by_said said
      (λ h.
      inl (record {
        which = 0;
        counted = omega arith;
        there = omega arith;
        holds = h;
        none = λ j l g. omega arith;
        number = rw (said.so_yes h) (omega arith);
      }))
      (λ h. behind (says_no said h) h (first_said (suc m) k bs (λ i l t. ok (suc i) (omega arith) (omega arith))))
    where
      behind : holdsAt b (minutes n) (minutes e) ≡ false → ¬ Holds b n e
          → Found n e (suc m) k bs ⊎ NotFound n e (suc m) k bs
          → Found n e m (suc k) (b ∷ bs) ⊎ NotFound n e m (suc k) (b ∷ bs)
      behind t h (inl w) =
          inl (record {
            which = suc w.which;
            counted = omega arith;
            there = omega arith;
            holds = w.holds;
            none = before;
            number = rw (t, w.number) (omega arith);
          })
        where
          before : (j : ℕ) → j < suc w.which → ¬ Holds (get_or (b ∷ bs) j no_region) n e
          before zero l = h
          before (suc j) l = w.none j (omega arith)
      behind t h (inr w) = inr (record { none = none; number = rw (t, w.number) })
        where
          none : (j : ℕ) → j < suc k → j < length (b ∷ bs) → ¬ Holds (get_or (b ∷ bs) j no_region) n e
          none zero l t = h
          none (suc j) l t = w.none j (omega arith) (omega arith)

  module _ (l : Boxes) (ok : (i : ℕ) → i < l.count → i < length l.regions → AllowedBox (get_or l.regions i no_region)) where
    -- whether a box of a list holds the position
    pub some-said : Says (ltb 0 (first_holding l (minutes n) (minutes e))) (SomeHolds l n e)
    some-said = by (first_said 1 l.count l.regions ok)
      where
        by : Found n e 1 l.count l.regions ⊎ NotFound n e 1 l.count l.regions
            → Says (ltb 0 (first_holding l (minutes n) (minutes e))) (SomeHolds l n e)
        by (inl w) =
            record {
              yes_so = λ _. record { which = w.which; counted = w.counted; there = w.there; holds = w.holds };
              so_yes = λ _. rw w.number (lt-ltb 0 (1 + w.which) (omega arith));
            }
        by (inr w) = rw w.number (never-said (λ s. w.none s.which s.counted s.there s.holds))

    -- whether none does
    pub none_said : Says (eqb (first_holding l (minutes n) (minutes e)) 0) (¬ SomeHolds l n e)
    none_said = zero-said (first_holding l (minutes n) (minutes e)) (not-said some-said)
