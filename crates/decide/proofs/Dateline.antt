-- Document 02's words on boxes over the date line are so of what the rules go by.
use mathlib.Core.Path.{◌≡◌, refl, ap}
use mathlib.Core.Logic.{◌↔◌, ◌⊎◌, inl, inr}
use mathlib.Core.Bool.{Bool, true, false, ◌||◌}
use mathlib.Core.List.{List, [], ◌∷◌}
use Prim.Native.Nat.{ℕ, zero, suc, ◌+◌, ◌*◌, ◌≤◌, ◌<◌}
use native.Mathlib.Omega.{arith}
use lib.Dec.{leb→le, eqb}
use lib.IntN.{ℤ, pos, negsuc, neg_ℤ}
use lib.ListN.{take}
use lib.Signed.{◌≤ℤ◌}
use borrow.Author.Tests.{le-leb}
use Rattle.text.proofs.Cases.{by_test, by_le}
use Rattle.field.specs.Boxes.{longitude, line_of}
use Rattle.field.specs.declared.Edge.{Edge}
use Rattle.field.specs.declared.Region.{Region}
use Rattle.settings.specs.declared.Settings.{Settings}
use Rattle.decide.specs.Question.{Question}
use Rattle.decide.specs.Tests.{eastward, holds, first_from}
use Rattle.decide.specs.Reason.{inhibiting_box, no_reporting_box, reason_for, explained, decided_by, decided}
use Rattle.decide.specs.Words.{lies_at, from_date_line, Eastward, Holds}
use Rattle.decide.proofs.Eastward.{Ends, over_in, over_out, Straight, straight_in, straight_out}
use Rattle.decide.specs.Dateline.{OnMeridian, Longitude, Wraps, Latitudes, Between, running, e180, w180, asked, BoxWords, Spellings, Dateline}

-- ---- Places from 180W on

low : (a : ℕ) → Longitude (negsuc a) → a ≤ 10799
low a h = leb→le a 10799 h.0.le

high : (a : ℕ) → Longitude (pos a) → a ≤ 10800
high a h = leb→le a 10800 h.1.le

most : (x : ℤ) → Longitude x → from_date_line x ≤ 21600
most (pos a) h = omega (arith, high a h)
most (negsuc a) h = omega arith

-- they lie as the signed minutes do
place-le : (a b : ℤ) → Longitude a → Longitude b → a ≤ℤ b → from_date_line a ≤ from_date_line b
place-le (pos a) (pos b) h k l = omega (arith, leb→le a b l.le)
place-le (pos a) (negsuc b) h k l = absurd l.le
place-le (negsuc a) (pos b) h k l = omega arith
place-le (negsuc a) (negsuc b) h k l = omega (arith, leb→le b a l.le)

le-place : (a b : ℤ) → Longitude a → Longitude b → from_date_line a ≤ from_date_line b → a ≤ℤ b
le-place (pos a) (pos b) h k l = record { le = rw (le-leb a b (omega arith)) tt }
le-place (pos a) (negsuc b) h k l = absurd (omega (arith, low b k))
le-place (negsuc a) (pos b) h k l = record { le = tt }
le-place (negsuc a) (negsuc b) h k l = record { le = rw (le-leb b a (omega (arith, low a h, low b k))) tt }

-- the meridian is at both ends
to-ends : (x : ℤ) → OnMeridian x → Ends (from_date_line x)
to-ends x (inl e) = inr (ap from_date_line e)
to-ends x (inr e) = inl (ap from_date_line e)

from-ends : (x : ℤ) → Longitude x → Ends (from_date_line x) → OnMeridian x
from-ends (pos a) h (inl e) = absurd (omega arith)
from-ends (pos a) h (inr e) = let z : a ≡ 10800 = omega arith in inl (ap pos z)
from-ends (negsuc a) h (inl e) = let z : a ≡ 10799 = omega (arith, low a h) in inr (ap negsuc z)
from-ends (negsuc a) h (inr e) = absurd (omega arith)

-- ---- The words

-- so many minutes below zero
below : (m : ℕ) → m ≤ 10800 → Longitude (neg_ℤ (pos m))
below zero h = (record { le = tt }, record { le = tt })
below (suc m) h = (record { le = rw (le-leb m 10799 (omega arith)) tt }, record { le = tt })

-- an edge of at most 180 degrees is a longitude
edge_lies : (e : Edge) → e.degrees ≤ 180 → Longitude (lies_at e)
edge_lies e h =
    by_test (eqb e.letter 83 || eqb e.letter 87)
    (λ (t : (eqb e.letter 83 || eqb e.letter 87) ≡ true). rw t (below (60 * e.degrees) (omega arith)))
    (λ (t : (eqb e.letter 83 || eqb e.letter 87) ≡ false).
    rw t (record { le = tt }, record { le = rw (le-leb (60 * e.degrees) 10800 (omega arith)) tt }))

-- what a box holds, its latitudes aside
apart : (b : Region) (latitude longitude : ℤ) (P : Type 0)
    → (Eastward (from_date_line (lies_at b.west)) (from_date_line (lies_at b.east)) (from_date_line longitude) ↔ P)
    → Holds b latitude longitude ↔ (Latitudes b latitude × P)
apart b latitude longitude P f = (
  λ h. ((h.south, h.north), f.0 h.along),
  λ p. record { south = p.0.0; north = p.0.1; along = f.1 p.1 },
)

module _ (b : Region) (n x : ℤ) (west : b.west.degrees ≤ 180) (east : b.east.degrees ≤ 180) (at : Longitude x) where
  first : Longitude (lies_at b.west)
  first = edge_lies b.west west

  second : Longitude (lies_at b.east)
  second = edge_lies b.east east

  abbrev w : ℕ
  w = from_date_line (lies_at b.west)

  abbrev e : ℕ
  e = from_date_line (lies_at b.east)

  w-most : w ≤ 21600
  w-most = most (lies_at b.west) first

  e-most : e ≤ 21600
  e-most = most (lies_at b.east) second

  falls : Wraps b → e < w
  falls v = by_le w e (λ (l : w ≤ e). absurd (v (le-place (lies_at b.west) (lies_at b.east) first second l))) (λ (l : e < w). l)

  rises : ¬ Wraps b → w ≤ e
  rises v =
      by_le w e (λ (l : w ≤ e). l)
      (λ (l : e < w). absurd (v (λ g. omega (arith, place-le (lies_at b.west) (lies_at b.east) first second g))))

  from : (lies_at b.west ≤ℤ x) ↔ (w ≤ from_date_line x)
  from = (place-le (lies_at b.west) x first at, le-place (lies_at b.west) x first at)

  to : (x ≤ℤ lies_at b.east) ↔ (from_date_line x ≤ e)
  to = (place-le x (lies_at b.east) at second, le-place x (lies_at b.east) at second)

  sides : ((lies_at b.west ≤ℤ x) ⊎ (x ≤ℤ lies_at b.east)) → (w ≤ from_date_line x) ⊎ (from_date_line x ≤ e)
  sides (inl l) = inl (from.0 l)
  sides (inr l) = inr (to.0 l)

  sides_back : ((w ≤ from_date_line x) ⊎ (from_date_line x ≤ e)) → (lies_at b.west ≤ℤ x) ⊎ (x ≤ℤ lies_at b.east)
  sides_back (inl l) = inl (from.1 l)
  sides_back (inr l) = inr (to.1 l)

  abbrev Straightly : Type 0
  Straightly = Between b x ⊎ (OnMeridian x × (OnMeridian (lies_at b.west) ⊎ OnMeridian (lies_at b.east)))

  abbrev Places : Type 0
  Places = Straight w e (from_date_line x) w-most e-most (most x at)

  straightly : Straightly → Places
  straightly (inl l) = inl (from.0 l.0, to.0 l.1)
  straightly (inr m) = inr (to-ends x m.0, either m.1)
    where
      either : OnMeridian (lies_at b.west) ⊎ OnMeridian (lies_at b.east) → Ends w ⊎ Ends e
      either (inl o) = inl (to-ends (lies_at b.west) o)
      either (inr o) = inr (to-ends (lies_at b.east) o)

  straight-back : Places → Straightly
  straight-back (inl l) = inl (from.1 l.0, to.1 l.1)
  straight-back (inr m) = inr (from-ends x at m.0, either m.1)
    where
      either : Ends w ⊎ Ends e → OnMeridian (lies_at b.west) ⊎ OnMeridian (lies_at b.east)
      either (inl o) = inl (from-ends (lies_at b.west) first o)
      either (inr o) = inr (from-ends (lies_at b.east) second o)

  straight-is : w ≤ e → Eastward w e (from_date_line x) ↔ Straightly
  straight-is l = (
    λ a. straight-back (straight_out w e (from_date_line x) w-most e-most (most x at) l a),
    λ s. straight_in w e (from_date_line x) w-most e-most (most x at) l (straightly s),
  )

  no_edge : ¬ OnMeridian (lies_at b.west) → ¬ OnMeridian (lies_at b.east) → Straightly → Between b x
  no_edge i j (inl l) = l
  no_edge i j (inr m) = neither m.1
    where
      neither : OnMeridian (lies_at b.west) ⊎ OnMeridian (lies_at b.east) → Between b x
      neither (inl o) = absurd (i o)
      neither (inr o) = absurd (j o)

  pub box-words : BoxWords b n x
  box-words =
      record {
        wrapping = λ v.
            apart b n x ((lies_at b.west ≤ℤ x) ⊎ (x ≤ℤ lies_at b.east)) (
              λ a. sides_back (over_out w e (from_date_line x) w-most e-most (most x at) (falls v) a),
              λ s. over_in w e (from_date_line x) w-most e-most (most x at) (falls v) (sides s),
            );
        straight = λ v. apart b n x Straightly (straight-is (rises v));
        as_before = λ v i j.
            let s = straight-is (rises v) in
            apart b n x (Between b x) (λ a. no_edge i j (s.0 a), λ l. s.1 (inl l));
      }

-- ---- The two spellings

-- two ways to say the same
through : {P Q R : Type 0} → (P ↔ R) → (Q ↔ R) → P ↔ Q
through f g = (λ p. g.1 (f.0 p), λ q. f.1 (g.0 q))

-- from either end, and up to either, it is the same way
inner : (p : ℕ) → p ≤ 21600 → ¬ Ends p → (0 < p) × (p < 21600)
inner p m i = (
  by_le p 0 (λ (l : p ≤ 0). absurd (i (inl (omega arith)))) (λ (l : 0 < p). l),
  by_le 21600 p (λ (l : 21600 ≤ p). absurd (i (inr (omega arith)))) (λ (l : p < 21600). l),
)

module _ (e p : ℕ) (within : (0 < e) × (e < 21600)) where
  from_either : Eastward 0 e p ↔ Eastward 21600 e p
  from_either = (λ a. out a a.before, λ a. back a a.before)
    where
      out : (a : Eastward 0 e p) → (0 + a.steps ≤ e) ⊎ ((e < 0) × (0 + a.steps ≤ e + 21600)) → Eastward 21600 e p
      out a (inl l) = let c = a.comes in record { steps = a.steps; comes = omega arith; before = inr (within.1, omega arith) }
      out a (inr l) = absurd (omega (arith, l.0))

      back : (a : Eastward 21600 e p) → (21600 + a.steps ≤ e) ⊎ ((e < 21600) × (21600 + a.steps ≤ e + 21600)) → Eastward 0 e p
      back a (inl l) = absurd (omega (arith, within.1))
      back a (inr l) = let c = a.comes in let f = l.1 in record { steps = a.steps; comes = omega arith; before = inl (omega arith) }

  to_either : Eastward e 0 p ↔ Eastward e 21600 p
  to_either = (λ a. out a a.before, λ a. back a a.before)
    where
      out : (a : Eastward e 0 p) → (e + a.steps ≤ 0) ⊎ ((0 < e) × (e + a.steps ≤ 0 + 21600)) → Eastward e 21600 p
      out a (inl l) = absurd (omega (arith, within.0))
      out a (inr l) = let f = l.1 in record { steps = a.steps; comes = a.comes; before = inl (omega arith) }

      back : (a : Eastward e 21600 p) → (e + a.steps ≤ 21600) ⊎ ((21600 < e) × (e + a.steps ≤ 21600 + 21600)) → Eastward e 0 p
      back a (inl l) = record { steps = a.steps; comes = a.comes; before = inr (within.0, omega arith) }
      back a (inr l) = absurd (omega (arith, l.0, within.1))

module _ (b : Region) (n x : ℤ) (at : Longitude x) where
  -- from one end to the other, over the date line, there is nothing but the meridian
  end_to_end : Eastward 21600 0 (from_date_line x) ↔ OnMeridian x
  end_to_end = (
    λ a. from-ends x at (out (over_out 21600 0 (from_date_line x) (omega arith) (omega arith) (most x at) (omega arith) a)),
    λ o. over_in 21600 0 (from_date_line x) (omega arith) (omega arith) (most x at) (omega arith) (inside (to-ends x o)),
  )
    where
      out : (21600 ≤ from_date_line x) ⊎ (from_date_line x ≤ 0) → Ends (from_date_line x)
      out (inl l) = let m = most x at in inr (omega arith)
      out (inr l) = inl (omega arith)

      inside : Ends (from_date_line x) → (21600 ≤ from_date_line x) ⊎ (from_date_line x ≤ 0)
      inside (inl z) = inr (omega arith)
      inside (inr z) = inl (omega arith)

  -- nor is there from an end to itself
  at_an_end : (w : ℕ) → w ≤ 21600 → Ends w → Eastward w w (from_date_line x) ↔ OnMeridian x
  at_an_end w l i = (
    λ a. from-ends x at (out (straight_out w w (from_date_line x) l l (most x at) (omega arith) a)),
    λ o. straight_in w w (from_date_line x) l l (most x at) (omega arith) (inr (to-ends x o, inl i)),
  )
    where
      out : Straight w w (from_date_line x) l l (most x at) → Ends (from_date_line x)
      out (inl m) = let z : w ≡ from_date_line x = omega (arith, m.0, m.1) in rw z at i
      out (inr m) = m.0

  round : Eastward 0 21600 (from_date_line x)
  round = let m = most x at in record { steps = from_date_line x; comes = omega arith; before = inl (omega arith) }

  off_meridian : (e : Edge) → e.degrees ≤ 180 → ¬ OnMeridian (lies_at e) → (0 < from_date_line (lies_at e)) × (from_date_line (lies_at e) < 21600)
  off_meridian e h i =
      let l = edge_lies e h in inner (from_date_line (lies_at e)) (most (lies_at e) l) (λ o. i (from-ends (lies_at e) l o))

  pub spellings : Spellings b n x
  spellings =
      record {
        position = (
          λ h. record { south = h.south; north = h.north; along = record { steps = h.along.steps; comes = h.along.comes; before = h.along.before } },
          λ h. record { south = h.south; north = h.north; along = record { steps = h.along.steps; comes = h.along.comes; before = h.along.before } },
        );
        first = λ e h i.
            let f = from_either (from_date_line (lies_at e)) (from_date_line x) (off_meridian e h i) in
            through (apart (running b w180 e) n x _ f) (apart (running b e180 e) n x _ (λ a. a, λ a. a));
        second = λ e h i.
            let f = to_either (from_date_line (lies_at e)) (from_date_line x) (off_meridian e h i) in
            through (apart (running b e w180) n x _ f) (apart (running b e e180) n x _ (λ a. a, λ a. a));
        globe = (λ h. (h.south, h.north), λ l. record { south = l.0; north = l.1; along = round });
        line = apart (running b e180 w180) n x (OnMeridian x) end_to_end;
        line-w = apart (running b w180 w180) n x (OnMeridian x) (at_an_end 0 (omega arith) (inl refl));
        line-e = apart (running b e180 e180) n x (OnMeridian x) (at_an_end 21600 (omega arith) (inr refl));
      }

-- ---- What is decided

or_either : (s t : Bool) → (s || t) ≡ (t || s)
or_either true true = refl
or_either true false = refl
or_either false true = refl
or_either false false = refl

held_same : (b : Region) (n : ℕ) → holds b n 70800 ≡ holds b n 49200
unfolding holds
held_same b n =
    rw (or_either (eastward (60 * line_of longitude b.west) (60 * line_of longitude b.east) 70800)
    (eastward (60 * line_of longitude b.west) (60 * line_of longitude b.east) 49200))

found-same : (m : ℕ) (bs : List Region) (n : ℕ) → first_from m bs n 70800 ≡ first_from m bs n 49200
unfolding first_from
found-same m [] n = refl
found-same m (b ∷ bs) n = rw (held_same b n, found-same (suc m) bs n)

pub one-reason : (x : Settings) (q : Question) → explained x (asked q (pos 10800)) ≡ explained x (asked q (neg_ℤ (pos 10800)))
unfolding explained reason_for inhibiting_box no_reporting_box
one-reason x q =
    let n = found-same 1 (take x.regions.inhibiting.count x.regions.inhibiting.regions) in
    let r = found-same 1 (take x.regions.reporting.count x.regions.reporting.regions) in
    rw (n _, r _)

pub dateline : Dateline
unfolding decided
dateline =
    record {
      boxes = box-words;
      spellings = spellings;
      one-decision = λ x q. ap decided_by (one-reason x q);
      one-reason = one-reason;
    }
