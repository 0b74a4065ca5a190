-- Steps of the writer's loops, and a buffer whose front and back are written one after the other.
use mathlib.Core.Path.{◌≡◌, refl, ◌∙◌}
use mathlib.Core.List.{List, ◌∷◌, ◌++◌, append-nil}
use Prim.Native.Nat.{ℕ, zero, suc, ◌-◌, ◌/◌, ◌%◌, ◌<◌, ◌≤◌}
use native.Mathlib.Omega.{arith}
use lib.ListN.{length, set, take, drop, length-take, length-append, length-drop, drop_of_length-le}
use lib.Seq.{take_at, drop_at, drop-cons, lt-length-set, get_or-set_same, drop-set-lt}
use borrow.Rule.Slice.PartMut.{put_mid}
use borrow.Author.Tests.{lt-ltb, le-ltb}
use mathlib.Core.Bool.{Bool, true, false, cond}
use lib.Dec.{leb}
use borrow.Author.Tests.{leb-true}
use Rattle.text.proofs.Cases.{by_lt, both_left, both_right}
use Rattle.packed.specs.Packed.{Figure, fewest, half_of, spell, digit_of, fitting, width_ok, write_code}
use Rattle.std.specs.Prelude.{Result, Ok, Err}
use Rattle.text.specs.declared.Code.{Code}
use Rattle.text.specs.declared.Code.TheVariants.{WrongLength, NoRoom, OutOfRange}

-- ---- the fewest digits, from the width down

pub fewest_stop : (k m : ℕ) → 0 < k → half_of (k - 1) ≤ m → fewest k m ≡ k
unfolding fewest
fewest_stop zero m p h = absurd (omega arith)
fewest_stop (suc k) m p h =
    let e : suc k - 1 ≡ k = omega arith in
    rw (le-ltb m (half_of k) (rw e at h))

pub fewest-step : (k m : ℕ) → 0 < k → m < half_of (k - 1) → fewest k m ≡ fewest (k - 1) m
unfolding fewest
fewest-step zero m p h = absurd (omega arith)
fewest-step (suc k) m p h =
    let e : suc k - 1 ≡ k = omega arith in
    rw (e, lt-ltb m (half_of k) (rw e at h))

pub fewest_end : (k m : ℕ) → k ≤ 0 → fewest k m ≡ k
unfolding fewest
fewest_end zero m h = refl
fewest_end (suc k) m h = absurd (omega arith)

-- ---- digits, from the right

pub drop-set : (l : List ℕ) (j a : ℕ) → j < length l → drop j (set l j a) ≡ a ∷ drop (suc j) l
drop-set l j a h =
    drop-cons (set l j a) j 0 (lt-length-set l j a h) ∙ rw (get_or-set_same l j a 0 h, drop-set-lt (suc j) l j a (omega arith))

pub spell-step : (l : List ℕ) (i v : ℕ) → 0 < i → i ≤ length l
    → spell i v (drop i l) ≡ spell (i - 1) (v / 40) (drop (i - 1) (set l (i - 1) (digit_of (v % 40))))
unfolding spell
spell-step l zero v p h = absurd (omega arith)
spell-step l (suc j) v p h =
    let e : suc j - 1 ≡ j = omega arith in
    rw (e, drop-set l j (digit_of (v % 40)) h)

pub spell_end : (l : List ℕ) (i v : ℕ) → i ≤ 0 → spell i v (drop i l) ≡ l
unfolding spell
spell_end l zero v h = refl
spell_end l (suc i) v h = absurd (omega arith)

-- ---- a buffer l whose first a bytes are written, as p, and then the rest, as q

module _ (l p : List ℕ) (a : ℕ) (h : a ≤ length l) (e : length p ≡ a) where
  pub rest-length : length (take (length (p ++ drop a l) - a) (drop a (p ++ drop a l))) ≡ length l - a
  rest-length = rw (drop_at p (drop a l) a e) (simp (length-take, length-append, length-drop, e) (omega arith))

  pub two-parts : (q : List ℕ) → put_mid a (length (p ++ drop a l) - a) (p ++ drop a l) q ≡ p ++ q
  two-parts q =
      let k : length (drop a l) ≤ length (p ++ drop a l) - a = simp (length-append, length-drop, e) (omega arith) in
      rw (take_at p (drop a l) a e, drop_at p (drop a l) a e, drop_of_length-le (drop a l) k, append-nil)

-- ---- the fewest digits hold the figure, and are no more than the width

pub fewest-holds : (k m : ℕ) → m < half_of k → m < half_of (fewest k m)
unfolding fewest
fewest-holds zero m h = h
fewest-holds (suc k) m h =
    by_lt m (half_of k)
    (λ (l : m < half_of k). rw (lt-ltb m (half_of k) l) (fewest-holds k m l))
    (λ (l : half_of k ≤ m). rw (le-ltb m (half_of k) l) h)

pub fewest-le : (k m : ℕ) → fewest k m ≤ k
unfolding fewest
fewest-le zero m = omega arith
fewest-le (suc k) m =
    by_lt m (half_of k)
    (λ (l : m < half_of k). rw (lt-ltb m (half_of k) l) (omega (arith, fewest-le k m)))
    (λ (l : half_of k ≤ m). rw (le-ltb m (half_of k) l) (omega arith))

-- ---- what an accepted writing says

pub record Writes (x : Figure) (w room : ℕ) : Type 0 where
  pub some : 1 ≤ w
  pub few : w ≤ 5
  pub held : fitting w x ≡ true
  pub fits : w ≤ room

no-code {ℓ} : {P : Type ℓ} (c : Code) → ◌≡◌ {A = Result (Unit {0}) Code} (Err c) (Ok tt) → P
no-code c e = let z : ◌≡◌ {A = ℕ} 0 1 = cc in absurd (omega arith)

write-fine : (a b d : Bool) → ◌≡◌ {A = Result (Unit {0}) Code} (cond a (cond b (cond d (Ok tt) (Err NoRoom)) (Err OutOfRange)) (Err WrongLength)) (Ok tt)
    → (a ≡ true) × (b ≡ true) × (d ≡ true)
write-fine true true true e = (refl, refl, refl)
write-fine true true false e = no-code NoRoom e
write-fine true false d e = no-code OutOfRange e
write-fine false b d e = no-code WrongLength e

pub writes : (x : Figure) (w room : ℕ) → write_code x w room ≡ Ok tt → Writes x w room
unfolding write_code
writes x w room e =
    let f = write-fine (width_ok w) (fitting w x) (leb w room) e in
    record {
      some = leb-true 1 w (both_left (leb 1 w) (leb w 5) f.0);
      few = leb-true w 5 (both_right (leb 1 w) (leb w 5) f.0);
      held = f.1;
      fits = leb-true w room f.2;
    }
