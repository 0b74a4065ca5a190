-- Longitudes: the tests that decide say what going eastward round the globe says.
use mathlib.Core.Path.{◌≡◌, refl, ◌∙◌}
use mathlib.Core.Logic.{◌⊎◌, inl, inr}
use mathlib.Core.Bool.{Bool, true, false, cond, not, ◌&&◌, ◌||◌}
use Prim.Native.Nat.{ℕ, ◌+◌, ◌-◌, ◌%◌, ◌≤◌, ◌<◌}
use native.Mathlib.Omega.{arith}
use lib.Dec.{leb, ltb, eqb}
use borrow.Author.Tests.{le-leb, lt-leb, lt-ltb, le-ltb, ne_eqb}
use Rattle.text.proofs.Cases.{by_le, by_eq}
use Rattle.decide.specs.Tests.{eastward, other_spelling}
use Rattle.decide.specs.Words.{Eastward}
use Rattle.decide.proofs.Tests.{Says, reworded, both-said, either_said, le-said}

-- between two edges, or on one of the two sides where the first is above the second
abbrev pub Along : ℕ → ℕ → ℕ → Type 0
Along first second place =
    ((first ≤ second) × ((first ≤ place) × (place ≤ second))) ⊎ ((second < first) × ((first ≤ place) ⊎ (place ≤ second)))

pub eastward-said : (first second place : ℕ) → Says (eastward first second place) (Along first second place)
eastward-said first second place =
    by_le first second
    (λ (l : first ≤ second).
    rw (le-leb first second l)
    (reworded (both-said (le-said first place) (le-said place second)) (λ p. inl (l, p)) (between l)))
    (λ (l : second < first).
    rw (lt-leb first second l)
    (reworded (either_said (le-said first place) (le-said place second)) (λ p. inr (l, p)) (aside l)))
  where
    between : first ≤ second → Along first second place → (first ≤ place) × (place ≤ second)
    between l (inl p) = p.1
    between l (inr p) = absurd (omega (arith, p.0))

    aside : second < first → Along first second place → (first ≤ place) ⊎ (place ≤ second)
    aside l (inl p) = absurd (omega (arith, p.0))
    aside l (inr p) = p.1

-- any two of three tests: as the code has it
two-of : (t p q : Bool) → ((p && q) || (not t && (p || q))) ≡ cond t (p && q) (p || q)
two-of true true true = refl
two-of true true false = refl
two-of true false q = refl
two-of false true true = refl
two-of false true false = refl
two-of false false q = refl

pub any-two : (first second east : ℕ)
    → ((leb first east && leb east second) || (ltb second first && (leb first east || leb east second))) ≡ eastward first second east
any-two first second east =
    by_le first second
    (λ (l : first ≤ second). rw (le-ltb second first l, le-leb first second l) (two-of true (leb first east) (leb east second)))
    (λ (l : second < first). rw (lt-ltb second first l, lt-leb first second l) (two-of false (leb first east) (leb east second)))

-- ---- Places from 180W on: 0 to 21600

-- the meridian of 180 degrees is at both ends
abbrev pub Ends : ℕ → Type 0
Ends p = (p ≡ 0) ⊎ (p ≡ 21600)

one_end : (p q : ℕ) → Ends p → Ends q → p % 21600 ≡ q % 21600
one_end p q (inl y) (inl z) = omega arith
one_end p q (inl y) (inr z) = omega arith
one_end p q (inr y) (inl z) = omega arith
one_end p q (inr y) (inr z) = omega arith

module _ (w e p : ℕ) (left : w ≤ 21600) (right : e ≤ 21600) (there : p ≤ 21600) where
  -- from a first edge above the second one comes to what is at or east of the one or at or west of the other
  pub over_in : e < w → (w ≤ p) ⊎ (p ≤ e) → Eastward w e p
  over_in d (inl l) = record { steps = p - w; comes = omega arith; before = inr (d, omega arith) }
  over_in d (inr l) = record { steps = p + 21600 - w; comes = omega arith; before = inr (d, omega arith) }

  pub over_out : e < w → Eastward w e p → (w ≤ p) ⊎ (p ≤ e)
  over_out d a = go a.before
    where
      go : (w + a.steps ≤ e) ⊎ ((e < w) × (w + a.steps ≤ e + 21600)) → (w ≤ p) ⊎ (p ≤ e)
      go (inl l) = absurd (omega arith)
      go (inr l) =
          let c = a.comes in
          let f = l.1 in
          by_le w p (λ (g : w ≤ p). inl g) (λ (g : p < w). inr (omega arith))

  -- from any other to what lies between, and from or to the meridian to both its ends
  abbrev pub Straight : Type 0
  Straight = ((w ≤ p) × (p ≤ e)) ⊎ (Ends p × (Ends w ⊎ Ends e))

  pub straight_in : w ≤ e → Straight → Eastward w e p
  straight_in d (inl l) =
      let f = l.0 in
      let g = l.1 in
      record { steps = p - w; comes = omega arith; before = inl (omega arith) }
  straight_in d (inr l) = from l.1
    where
      from : Ends w ⊎ Ends e → Eastward w e p
      from (inl i) = let c = one_end w p i l.0 in record { steps = 0; comes = omega arith; before = inl (omega arith) }
      from (inr i) = let c = one_end e p i l.0 in record { steps = e - w; comes = omega arith; before = inl (omega arith) }

  pub straight_out : w ≤ e → Eastward w e p → Straight
  straight_out d a = go a.before
    where
      go : (w + a.steps ≤ e) ⊎ ((e < w) × (w + a.steps ≤ e + 21600)) → Straight
      go (inr l) = absurd (omega (arith, l.0))
      go (inl l) =
          by_eq p (w + a.steps)
          (λ (s : p ≡ w + a.steps). inl (omega arith, omega arith))
          (λ (s : p ≡ w + a.steps → ⊥).
          by_eq p 0
          (λ (z : p ≡ 0). inr (inl z, inr (inr (full z s))))
          (λ (z : p ≡ 0 → ⊥). inr (inr (turn z s), inl (inl (start z s)))))
        where
          full : p ≡ 0 → (p ≡ w + a.steps → ⊥) → e ≡ 21600
          full z s = let c = a.comes in by_le 21600 e (λ g. omega arith) (λ (g : e < 21600). absurd (s (omega arith)))

          turn : (p ≡ 0 → ⊥) → (p ≡ w + a.steps → ⊥) → p ≡ 21600
          turn z s =
              let c = a.comes in
              by_le 21600 p (λ g. omega arith)
              (λ (g : p < 21600).
              by_le 21600 (w + a.steps) (λ (f : 21600 ≤ w + a.steps). absurd (z (omega arith)))
              (λ (f : w + a.steps < 21600). absurd (s (omega arith))))

          start : (p ≡ 0 → ⊥) → (p ≡ w + a.steps → ⊥) → w ≡ 0
          start z s =
              let c = a.comes in
              let t = turn z s in
              by_le w 0 (λ g. omega arith) (λ (g : 0 < w). absurd (s (omega arith)))

-- ---- The tests, which count from 49200 minutes below 180W

-- the other spelling of a place
other-cases {ℓ} : {P : Type ℓ} (p : ℕ)
    → (p ≡ 0 → other_spelling (49200 + p) ≡ 49200 + 21600 → P)
    → (p ≡ 21600 → other_spelling (49200 + p) ≡ 49200 + 0 → P)
    → (other_spelling (49200 + p) ≡ 49200 + p → P)
    → P
other-cases p f g h =
    by_eq p 0 (λ (z : p ≡ 0). f z (rw z))
    (λ (z : p ≡ 0 → ⊥).
    let low : eqb (49200 + p) 49200 ≡ false = ne_eqb (49200 + p) 49200 (λ q. z (omega arith)) in
    by_eq p 21600 (λ (t : p ≡ 21600). g t (rw t))
    (λ (t : p ≡ 21600 → ⊥).
    let high : eqb (49200 + p) 70800 ≡ false = ne_eqb (49200 + p) 70800 (λ q. t (omega arith)) in
    h (rw (low, high))))

module _ (w e : ℕ) (left : w ≤ 21600) (right : e ≤ 21600) where
  abbrev Found : ℕ → Type 0
  Found p = Along (49200 + w) (49200 + e) p

  -- where a test finds a place, one comes to it going eastward
  comes-to : (p : ℕ) → p ≤ 21600 → Found (49200 + p) → Eastward w e p
  comes-to p m (inl a) =
      let f = a.1.0 in
      let g = a.1.1 in
      straight_in w e p left right m (omega (arith, a.0)) (inl (omega arith, omega arith))
  comes-to p m (inr a) = over_in w e p left right m (omega (arith, a.0)) (side a.1)
    where
      side : (49200 + w ≤ 49200 + p) ⊎ (49200 + p ≤ 49200 + e) → (w ≤ p) ⊎ (p ≤ e)
      side (inl l) = inl (omega arith)
      side (inr l) = inr (omega arith)

  -- a place at the other end is the same meridian
  same_meridian : (p q : ℕ) → Ends q → Ends p → Eastward w e q → Eastward w e p
  same_meridian p q i j a = record { steps = a.steps; comes = a.comes ∙ one_end q p i j; before = a.before }

  module _ (p : ℕ) (m : p ≤ 21600) where
    abbrev Seen : Type 0
    Seen = Found (49200 + p) ⊎ Found (other_spelling (49200 + p))

    goes : Seen → Eastward w e p
    goes (inl a) = comes-to p m a
    goes (inr a) =
        other-cases p
        (λ z o. same_meridian p 21600 (inr refl) (inl z) (comes-to 21600 (omega arith) (rw o at a)))
        (λ t o. same_meridian p 0 (inl refl) (inr t) (comes-to 0 (omega arith) (rw o at a)))
        (λ o. comes-to p m (rw o at a))

    -- and where one comes to it, a test finds it in one of its spellings
    finds : Eastward w e p → Seen
    finds a =
        by_le w e (λ (d : w ≤ e). straightly d (straight_out w e p left right m d a))
        (λ (d : e < w). inl (inr (omega arith, side (over_out w e p left right m d a))))
      where
        side : (w ≤ p) ⊎ (p ≤ e) → (49200 + w ≤ 49200 + p) ⊎ (49200 + p ≤ 49200 + e)
        side (inl l) = inl (omega arith)
        side (inr l) = inr (omega arith)

        -- between the edges
        within : (q : ℕ) → w ≤ q → q ≤ e → Found (49200 + q)
        within q l h = inl (omega arith, (omega arith, omega arith))

        -- at an end, one edge being at an end
        begins : w ≤ e → Ends w ⊎ Ends e → (w ≡ 0) ⊎ (e ≡ 21600)
        begins d (inl (inl z)) = inl z
        begins d (inl (inr z)) = inr (omega arith)
        begins d (inr (inl z)) = inl (omega arith)
        begins d (inr (inr z)) = inr z

        at_end : Ends p → (w ≡ 0) ⊎ (e ≡ 21600) → w ≤ e → Seen
        at_end (inl y) (inl z) d = inl (within p (omega arith) (omega arith))
        at_end (inl y) (inr z) d = inr (rw y (within 21600 left (omega arith)))
        at_end (inr y) (inl z) d = inr (rw y (within 0 (omega arith) (omega arith)))
        at_end (inr y) (inr z) d = inl (within p (omega arith) (omega arith))

        straightly : w ≤ e → Straight w e p left right m → Seen
        straightly d (inl l) = inl (within p l.0 l.1)
        straightly d (inr l) = at_end l.0 (begins d l.1) d

    -- whether a place lies along a box's longitudes
    pub along-said : Says (eastward (49200 + w) (49200 + e) (49200 + p) || eastward (49200 + w) (49200 + e) (other_spelling (49200 + p))) (Eastward w e p)
    along-said =
        reworded
        (either_said (eastward-said (49200 + w) (49200 + e) (49200 + p)) (eastward-said (49200 + w) (49200 + e) (other_spelling (49200 + p))))
        goes finds
