-- The tests that decide say what the document's words say.
use mathlib.Core.Path.{◌≡◌, refl, sym, ap, ◌∙◌}
use mathlib.Core.Logic.{◌↔◌, ◌⊎◌, inl, inr}
use mathlib.Core.Bool.{true, false, ◌||◌}
use mathlib.Core.List.{List, [], ◌∷◌}
use Prim.Native.Nat.{ℕ, zero, suc, ◌+◌, ◌-◌, ◌*◌, ◌≤◌, ◌<◌}
use native.Mathlib.Omega.{arith}
use lib.Dec.{leb, eqb, leb→le}
use lib.IntN.{ℤ, pos, negsuc, neg_ℤ}
use lib.Signed.{mag, le_z, ◌≤ℤ◌}
use lib.ListN.{length, get_or, take, drop}
use lib.Seq.{drop-drop}
use borrow.Author.Tests.{le-leb, lt-leb}
use Rattle.text.specs.Names.{allowed, all_allowed}
use Rattle.text.specs.Parts.{part}
use Rattle.text.proofs.Cases.{by_le, by_lt, by_test}
use Rattle.text.proofs.Equal.{same-equal, equal-same}
use Rattle.packed.specs.Packed.{above}
use Rattle.field.specs.Boxes.{latitude, longitude, line_of}
use Rattle.field.specs.declared.Circle.{Circle}
use Rattle.field.specs.declared.Edge.{Edge}
use Rattle.field.specs.declared.Region.{Region}
use Rattle.field.proofs.RoundTrip.{Allowed, AllowedBox}
use Rattle.lists.specs.declared.Airfields.{Airfields}
use Rattle.decide.specs.Question.{Question}
use Rattle.decide.specs.Tests.{is_in_window, minutes, holds, has_airfield, has, in_range, is_airfield}
use Rattle.decide.specs.Dateline.{Longitude}
use Rattle.decide.specs.Words.{InRange, AllowedByte, FourAllowed, InWindow, lies_at, from_date_line, Holds, Has}
use Rattle.decide.proofs.Eastward.{along-said}
use Rattle.decide.proofs.Tests.{Says, never-said, reworded, both-said, either_said, le-said, lt-said, eq-said, le_z_said}

-- ---- The window

module _ (start end hour : ℕ) (s : start ≤ 23) (e : end ≤ 23) (h : hour ≤ 23) where
  -- on the day of the start hour the steps are the hours between
  same_day : start ≤ hour → (hour < end) ⊎ (end < start) → InWindow start end hour
  same_day l (inl m) = record { steps = hour - start; comes = omega arith; before = λ k n p. omega arith }
  same_day l (inr m) = record { steps = hour - start; comes = omega arith; before = λ k n p. omega arith }

  -- over midnight they are so many more
  next_day : end < start → hour < end → InWindow start end hour
  next_day l m = record { steps = 24 - start + hour; comes = omega arith; before = λ k n p. omega arith }

  -- the end is not come to, so it is further than the hour
  rising : start ≤ end → InWindow start end hour → (start ≤ hour) × (hour < end)
  rising l w =
      let c = w.comes in
      by_lt w.steps (end - start) (λ (m : w.steps < end - start). omega arith)
      (λ (m : end - start ≤ w.steps). absurd (w.before (end - start) m (omega arith)))

  -- nor is it come to on the next day, where it is further than the hour too
  falling : end < start → InWindow start end hour → (start ≤ hour) ⊎ (hour < end)
  falling l w =
      let c = w.comes in
      by_lt w.steps (24 - start + end)
      (λ (m : w.steps < 24 - start + end).
      by_le start hour (λ (n : start ≤ hour). inl n) (λ (n : hour < start). inr (omega arith)))
      (λ (m : 24 - start + end ≤ w.steps). absurd (w.before (24 - start + end) m (omega arith)))

  -- the test for the window says what the words say
  pub window-said : Says (is_in_window start end hour) (InWindow start end hour)
  window-said =
      by_le start end
      (λ (l : start ≤ end).
      rw (le-leb start end l)
      (reworded (both-said (le-said start hour) (lt-said hour end)) (λ p. same_day p.0 (inl p.1)) (rising l)))
      (λ (l : end < start).
      rw (lt-leb start end l) (reworded (either_said (le-said start hour) (lt-said hour end)) (either l) (falling l)))
    where
      either : end < start → (start ≤ hour) ⊎ (hour < end) → InWindow start end hour
      either l (inl m) = same_day m (inr l)
      either l (inr m) = next_day l m

-- equal hours mean none
pub equal-hours : (start hour : ℕ) → start ≤ 23 → ¬ InWindow start start hour
equal-hours start hour s w = w.before 0 (omega arith) (omega arith)

-- "Window 2301 silences hours 23 and 0, not 1", and no other of the day
pub window_2301 : (hour : ℕ) → hour ≤ 23 → InWindow 23 1 hour ↔ ((hour ≡ 23) ⊎ (hour ≡ 0))
window_2301 hour h = (out, inside)
  where
    out : InWindow 23 1 hour → (hour ≡ 23) ⊎ (hour ≡ 0)
    out w = sides (falling 23 1 hour (omega arith) (omega arith) h (omega arith) w)
      where
        sides : (23 ≤ hour) ⊎ (hour < 1) → (hour ≡ 23) ⊎ (hour ≡ 0)
        sides (inl l) = inl (omega arith)
        sides (inr l) = inr (omega arith)

    inside : (hour ≡ 23) ⊎ (hour ≡ 0) → InWindow 23 1 hour
    inside (inl e) = same_day 23 1 hour (omega arith) (omega arith) h (omega arith) (inr (omega arith))
    inside (inr e) = next_day 23 1 hour (omega arith) (omega arith) h (omega arith) (omega arith)

-- ---- Boxes

-- minutes from 1000 degrees below zero lie as the signed ones do
above-order : (a b : ℤ) (h : ℕ) → mag a < h → mag b < h → leb (above a h) (above b h) ≡ le_z a b
above-order (pos a) (pos b) h l m =
    by_le a b (λ (n : a ≤ b). rw (le-leb a b n) (le-leb (a + h) (b + h) (omega arith)))
    (λ (n : b < a). rw (lt-leb a b n) (lt-leb (a + h) (b + h) (omega arith)))
above-order (pos a) (negsuc b) h l m = lt-leb (a + h) (h - suc b) (omega arith)
above-order (negsuc a) (pos b) h l m = le-leb (h - suc a) (b + h) (omega arith)
above-order (negsuc a) (negsuc b) h l m =
    by_le b a (λ (n : b ≤ a). rw (le-leb b a n) (le-leb (h - suc a) (h - suc b) (omega arith)))
    (λ (n : a < b). rw (lt-leb b a n) (lt-leb (h - suc a) (h - suc b) (omega arith)))

-- m minutes below zero
above-below : (m h : ℕ) → above (neg_ℤ (pos m)) h ≡ h - m
above-below zero h = omega arith
above-below (suc m) h = refl

-- and how far that can be
size_below : (m : ℕ) → mag (neg_ℤ (pos m)) ≤ m
size_below zero = omega arith
size_below (suc m) = omega arith

-- a letter that an edge can have lies below zero where the words say so; both facts on the circle are computed
letter-below : (c : Circle) (l : ℕ)
    → (eqb c.above 83 || eqb c.above 87) ≡ eqb c.above c.below
    → (eqb c.below 83 || eqb c.below 87) ≡ eqb c.below c.below
    → (l ≡ c.above) ⊎ (l ≡ c.below)
    → (eqb l 83 || eqb l 87) ≡ eqb l c.below
letter-below c l a b (inl p) = rw p a
letter-below c l a b (inr p) = rw p b

-- an edge of a circle
module _ (c : Circle) (most : c.most ≤ 180)
    (high : (eqb c.above 83 || eqb c.above 87) ≡ eqb c.above c.below)
    (low : (eqb c.below 83 || eqb c.below 87) ≡ eqb c.below c.below)
    (e : Edge) (ok : Allowed c e) (n : ℤ) (small : mag n < 60000) where
  -- its letter is the one below zero where the words say so
  edge-below : (eqb e.letter 83 || eqb e.letter 87) ≡ eqb e.letter c.below
  edge-below =
      letter-below c e.letter high low
      ((either_said (eq-said e.letter c.above) (eq-said e.letter c.below)).yes_so ok.letter)

  -- its line is where the words say that it lies, from 1000 degrees below zero
  edge-line : 60 * line_of c e ≡ minutes (lies_at e)
  unfolding line_of
  edge-line =
      rw edge-below
      (by_test (eqb e.letter c.below)
      (λ (t : eqb e.letter c.below ≡ true). rw t (omega (arith, ok.most, above-below (60 * e.degrees) 60000)))
      (λ (t : eqb e.letter c.below ≡ false). rw t (omega arith)))

  -- far above 1000 degrees below zero
  edge-size : mag (lies_at e) < 60000
  edge-size =
      by_test (eqb e.letter 83 || eqb e.letter 87)
      (λ (t : (eqb e.letter 83 || eqb e.letter 87) ≡ true).
      rw t (omega (arith, ok.most, size_below (60 * e.degrees))))
      (λ (t : (eqb e.letter 83 || eqb e.letter 87) ≡ false). rw t (omega (arith, ok.most)))

  -- whether a position lies from the edge on, and up to it
  from-said : Says (leb (60 * line_of c e) (minutes n)) (lies_at e ≤ℤ n)
  from-said = rw (edge-line, above-order (lies_at e) n 60000 edge-size small) (le_z_said (lies_at e) n)

  to-said : Says (leb (minutes n) (60 * line_of c e)) (n ≤ℤ lies_at e)
  to-said = rw (edge-line, above-order n (lies_at e) 60000 small edge-size) (le_z_said n (lies_at e))

-- minutes from 1000 degrees below zero, of a place from 180W on
place : (x : ℤ) → Longitude x → (minutes x ≡ 49200 + from_date_line x) × (from_date_line x ≤ 21600)
place (pos a) h = (omega arith, omega (arith, leb→le a 10800 h.1.le))
place (negsuc a) h = (omega (arith, leb→le a 10799 h.0.le), omega arith)

-- and of a longitude's edge
edge-place : (e : Edge) → Allowed longitude e → (60 * line_of longitude e ≡ 49200 + from_date_line (lies_at e)) × (from_date_line (lies_at e) ≤ 21600)
unfolding line_of
edge-place e ok =
    rw (edge-below longitude (omega arith) refl refl e ok (pos 0) (omega arith))
    (by_test (eqb e.letter 87)
    (λ (t : eqb e.letter 87 ≡ true).
    let b = above-below (60 * e.degrees) 10800 in
    rw t (omega (arith, ok.most), omega arith))
    (λ (t : eqb e.letter 87 ≡ false). rw t (omega arith, omega (arith, ok.most))))

module _ (n e : ℤ) (small : mag n < 60000) (little : Longitude e) where
  -- whether a box holds the position
  pub holds-said : (b : Region) → AllowedBox b → Says (holds b (minutes n) (minutes e)) (Holds b n e)
  unfolding holds
  holds-said b ok =
      let w = edge-place b.west ok.west in
      let x = edge-place b.east ok.east in
      let p = place e little in
      rw (w.0, x.0, p.0)
      (reworded
      (both-said
      (both-said (from-said latitude (omega arith) refl refl b.south ok.south n small)
      (to-said latitude (omega arith) refl refl b.north ok.north n small))
      (along-said (from_date_line (lies_at b.west)) (from_date_line (lies_at b.east)) w.1 x.1 (from_date_line e) p.1))
      (λ p. record { south = p.0.0; north = p.0.1; along = p.1 })
      (λ h. ((h.south, h.north), h.along)))

-- ---- Airfields

module _ (a : List ℕ) where
  -- the first airfield of a list, or one behind it
  has_in : (n : ℕ) (names : List ℕ) → (take 4 names ≡ a) ⊎ Has (record { count = n; names = drop 4 names }) a
      → Has (record { count = suc n; names = names }) a
  has_in n names (inl e) = record { which = 0; counted = omega arith; same = e }
  has_in n names (inr w) =
      let next : 4 * suc w.which ≡ 4 + 4 * w.which = omega arith in
      record {
        which = suc w.which;
        counted = omega arith;
        same = ap (λ (k : ℕ). part k 4 names) next ∙ ap (take 4) (sym (drop-drop (4 * w.which) 4 names)) ∙ w.same;
      }

  has_out : (n : ℕ) (names : List ℕ) → Has (record { count = suc n; names = names }) a
      → (take 4 names ≡ a) ⊎ Has (record { count = n; names = drop 4 names }) a
  has_out n names w = at w.which w.counted w.same
    where
      at : (i : ℕ) → i < suc n → part (4 * i) 4 names ≡ a
          → (take 4 names ≡ a) ⊎ Has (record { count = n; names = drop 4 names }) a
      at zero l e = inl e
      at (suc i) l e =
          let next : 4 * suc i ≡ 4 + 4 * i = omega arith in
          inr (record {
            which = i;
            counted = omega arith;
            same = ap (take 4) (drop-drop (4 * i) 4 names) ∙ ap (λ (k : ℕ). part k 4 names) (sym next) ∙ e;
          })

  -- whether one of the first n names is the airfield
  names-said : (n : ℕ) (names : List ℕ) → Says (has_airfield n names a) (Has (record { count = n; names = names }) a)
  unfolding has_airfield
  names-said zero names = never-said (λ (w : Has (record { count = 0; names = names }) a). omega (arith, w.counted))
  names-said (suc n) names =
      reworded
      (either_said (record { yes_so = same-equal (take 4 names) a; so_yes = equal-same (take 4 names) a })
      (names-said n (drop 4 names)))
      (has_in n names) (has_out n names)

  -- whether a list has the airfield
  pub has-said : (l : Airfields) → Says (has l a) (Has l a)
  has-said l = names-said l.count l.names

-- ---- What is asked

-- whether phase, hour and position are in range
pub range-said : (q : Question) → Says (in_range q) (InRange q)
range-said q =
    reworded
    (both-said
    (both-said
    (both-said
    (both-said (both-said (le-said q.phase 2) (le-said q.hour 23)) (le_z_said (negsuc 5399) q.north))
    (le_z_said q.north (pos 5400)))
    (le_z_said (negsuc 10799) q.east))
    (le_z_said q.east (pos 10800)))
    (λ p.
    record {
      phase = p.0.0.0.0.0;
      hour = p.0.0.0.0.1;
      south = p.0.0.0.1;
      north = p.0.0.1;
      west = p.0.1;
      east = p.1;
    })
    (λ r. (((((r.phase, r.hour), r.south), r.north), r.west), r.east))

-- whether a byte is allowed
byte-said : (b : ℕ) → Says (allowed b) (AllowedByte b)
unfolding allowed
byte-said b = either_said (both-said (le-said 65 b) (le-said b 90)) (both-said (le-said 48 b) (le-said b 57))

-- and whether every byte of a text is
pub bytes-said : (a : List ℕ) → Says (all_allowed a) ((i : ℕ) → i < length a → AllowedByte (get_or a i 0))
unfolding all_allowed
bytes-said [] = record { yes_so = λ e i l. absurd (omega arith); so_yes = λ f. refl }
bytes-said (b ∷ bs) =
    reworded (both-said (byte-said b) (bytes-said bs)) each
    (λ f. (f 0 (omega arith), λ i l. f (suc i) (omega arith)))
  where
    each : AllowedByte b × ((i : ℕ) → i < length bs → AllowedByte (get_or bs i 0))
        → (i : ℕ) → i < length (b ∷ bs) → AllowedByte (get_or (b ∷ bs) i 0)
    each p zero l = p.0
    each p (suc i) l = p.1 i (omega arith)

-- whether an airfield is four allowed bytes
pub airfield-said : (a : List ℕ) → Says (is_airfield a) (FourAllowed a)
airfield-said a =
    reworded (both-said (eq-said (length a) 4) (bytes-said a))
    (λ p. record { four = p.0; allowed = λ i l. p.1 i (omega (arith, p.0)) })
    (λ f. (f.four, λ i l. f.allowed i (omega (arith, f.four))))
