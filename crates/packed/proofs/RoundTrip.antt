-- What is written reads back, and what is read is written back as the same bytes.
use mathlib.Core.Path.{◌≡◌, refl, sym, ap, ◌∙◌}
use mathlib.Core.Bool.{true, false, ◌&&◌}
use mathlib.Core.List.{List, [], ◌∷◌, ◌++◌}
use Prim.Native.Nat.{ℕ, zero, suc, ◌+◌, ◌-◌, ◌*◌, ◌^◌, ◌≤◌, ◌<◌}
use native.Mathlib.Omega.{arith}
use native.Mathlib.Nat.{zero-add, pow-suc, pow-le-pow_right}
use lib.Dec.{leb, ltb, eqb, lit<}
use lib.IntN.{ℤ, sub_ℕ}
use lib.Signed.{mag}
use lib.ListN.{length, replicate, length-append, length-replicate}
use borrow.Author.Tests.{lt-ltb, le-ltb, le-leb, ne_eqb, ltb-true, leb-true, eqb-true}
use Rattle.text.proofs.Cases.{by_test, by_lt, both_left, both_right}
use Rattle.packed.specs.Packed.{Figure, worth_of, half_of, number, width_ok, all_solidi, trim, all_digits, spelt, read_packed, fewest, above, spell, spelling, field_of, fitting}
use Rattle.packed.proofs.Digits.{space_none, spell-length, spell-digits, number-spell, number_same}
use Rattle.packed.proofs.Put.{fewest-holds, fewest-le}
use Rattle.packed.proofs.Scan.{solidi-none, number_lt}
use Rattle.packed.proofs.Signs.{above-lt, sub-above-back, above-sub-back, sub-below, sub-above}
use Rattle.std.specs.Prelude.{Some, None, Result, Ok, Err}
use Rattle.text.specs.declared.Refusal.{Refusal}

-- ---- widths

-- every field is as wide as it is to be
pub field-length : (w : ℕ) (x : Figure) → length (field_of w x) ≡ w
unfolding field_of
field-length w (Some x) =
    let k = fewest w (mag x) in
    length-append (replicate (w - k) 32) (spell k (above x (half_of k)) [])
    ∙ rw (length-replicate {A = ℕ} (w - k) 32, spell-length k (above x (half_of k)) []) (omega (arith, fewest-le w (mag x)))
field-length w None = length-replicate w 47

-- twice the half is all that k digits spell
half_twice : (k : ℕ) → 0 < k → half_of k + half_of k ≡ 40 ^ k
unfolding half_of
half_twice zero h = absurd (omega arith)
half_twice (suc k) h = rw (pow-suc 40 k) (omega arith)

half_less : (j k : ℕ) → j ≤ k → half_of j ≤ half_of k
unfolding half_of
half_less zero k h = omega arith
half_less (suc j) zero h = absurd (omega arith)
half_less (suc j) (suc k) h = omega (arith, pow-le-pow_right {n = 40} (lit< tt) {i = j} {j = k} (omega arith))

-- ---- spaces

pub trim_spaces : (n : ℕ) (l : List ℕ) → trim (replicate n 32 ++ l) ≡ trim l
unfolding trim
trim_spaces zero l = refl
trim_spaces (suc n) l = trim_spaces n l

pub trim_digits : (ds : List ℕ) → all_digits ds ≡ true → trim ds ≡ ds
unfolding trim all_digits
trim_digits [] e = refl
trim_digits (b ∷ bs) e =
    let d : worth_of b < 40 = ltb-true (worth_of b) 40 (both_left (ltb (worth_of b) 40) (all_digits bs) e) in
    rw (ne_eqb b 32 (λ (s : b ≡ 32). let z : worth_of b ≡ 40 = ap worth_of s ∙ space_none in omega arith))

pub trim-length : (f : List ℕ) → length (trim f) ≤ length f
unfolding trim
trim-length [] = omega arith
trim-length (b ∷ bs) =
    by_test (eqb b 32)
    (λ (e : eqb b 32 ≡ true). rw e (omega (arith, trim-length bs)))
    (λ (e : eqb b 32 ≡ false). rw e (omega arith))

-- the spaces that were trimmed, put back
trim-back : (f : List ℕ) → replicate (length f - length (trim f)) 32 ++ trim f ≡ f
unfolding trim
trim-back [] = refl
trim-back (b ∷ bs) =
    by_test (eqb b 32)
    (λ (e : eqb b 32 ≡ true).
    let k : suc (length bs) - length (trim bs) ≡ suc (length bs - length (trim bs)) = omega (arith, trim-length bs) in
    rw (e, k, trim-back bs, eqb-true b 32 e))
    (λ (e : eqb b 32 ≡ false).
    let k : suc (length bs) - suc (length bs) ≡ 0 = omega arith in
    rw (e, k))

-- ---- solidi

pub solidi-all : (w : ℕ) → all_solidi (replicate w 47) ≡ true
unfolding all_solidi
solidi-all zero = refl
solidi-all (suc w) = solidi-all w

-- solidi, written back
pub solidi-back : (f : List ℕ) → all_solidi f ≡ true → replicate (length f) 47 ≡ f
unfolding all_solidi
solidi-back [] e = refl
solidi-back (b ∷ bs) e =
    rw (eqb-true b 47 (both_left (eqb b 47) (all_solidi bs) e), solidi-back bs (both_right (eqb b 47) (all_solidi bs) e))

-- ---- each figure that fits is written and reads back

true-false : true ≡ false → ⊥
true-false e = let z : ◌≡◌ {A = ℕ} 0 1 = cc in absurd (omega arith)

-- digits behind spaces are read as they are spelt
pub read_as : (f ds : List ℕ) → 1 ≤ length f → length f ≤ 5 → trim f ≡ ds → all_digits ds ≡ true → 0 < length ds
    → read_packed f ≡ spelt (number 0 ds) (length ds)
unfolding read_packed
read_as f ds a b t e p =
    let d : (ltb 0 (length (trim f)) && all_digits (trim f)) ≡ true = rw (t, lt-ltb 0 (length ds) p, e) in
    by_test (all_solidi f)
    (λ (s : all_solidi f ≡ true). absurd (true-false (sym d ∙ solidi-none f s)))
    (λ (s : all_solidi f ≡ false). rw (le-leb 1 (length f) a, le-leb (length f) 5 b, s, d, t))

-- solidi are read as a missing figure
pub read-solidi : (f : List ℕ) → 1 ≤ length f → length f ≤ 5 → all_solidi f ≡ true → read_packed f ≡ Ok None
unfolding read_packed
read-solidi f a b s = rw (le-leb 1 (length f) a, le-leb (length f) 5 b, s)

digits-none : all_digits [] ≡ true
unfolding all_digits
digits-none = refl

number-none : (n : ℕ) → number n [] ≡ n
unfolding number
number-none n = refl

half_some : (k m : ℕ) → m < half_of k → 0 < k
unfolding half_of
half_some zero m h = absurd (omega arith)
half_some (suc k) m h = omega arith

-- one digit fewer than the fewest does not hold the figure
fewest-least : (w m : ℕ) → 0 < fewest w m → half_of (fewest w m - 1) ≤ m
unfolding fewest
fewest-least zero m h = absurd (omega arith)
fewest-least (suc k) m h =
    by_lt m (half_of k)
    (λ (l : m < half_of k). let e = lt-ltb m (half_of k) l in rw e (fewest-least k m (rw e at h)))
    (λ (l : half_of k ≤ m). let z : suc k - 1 ≡ k = omega arith in rw (le-ltb m (half_of k) l, z) l)

pub read_back : (w : ℕ) (x : Figure) → 1 ≤ w → w ≤ 5 → fitting w x ≡ true → read_packed (field_of w x) ≡ Ok x
unfolding field_of spelt
read_back w (Some x) a b f =
    let k = fewest w (mag x) in
    let h : mag x < half_of k = fewest-holds w (mag x) (ltb-true (mag x) (half_of w) f) in
    let p : 0 < k = half_some k (mag x) h in
    let n = above x (half_of k) in
    let ds = spell k n [] in
    let g : n < 40 ^ k = rw (← (half_twice k p)) (above-lt x (half_of k) h) in
    let l : length ds ≡ k = spell-length k n [] ∙ omega arith in
    let d : all_digits ds ≡ true = spell-digits k n [] digits-none in
    let v : number 0 ds ≡ n = number-spell k 0 n [] g ∙ number-none (0 * 40 ^ k + n) ∙ omega arith in
    let t : trim (spelling w k x) ≡ ds = trim_spaces (w - k) ds ∙ trim_digits ds d in
    let wide : length (spelling w k x) ≡ w = field-length w (Some x) in
    read_as (spelling w k x) ds (omega arith) (omega arith) t d (omega arith)
    ∙ rw (v, l, sub-above-back x (half_of k) h, le-ltb (mag x) (half_of (k - 1)) (fewest-least w (mag x) p))
read_back w None a b f =
    let l : length (replicate {A = ℕ} w 47) ≡ w = length-replicate w 47 in
    read-solidi (replicate w 47) (omega arith) (omega arith) (solidi-all w)

-- ---- each field that is read is written back as the same bytes

-- what an accepted field says of what it holds
pub record Reads (f : List ℕ) (x : Figure) : Type 0 where
  pub some : 1 ≤ length f
  pub few : length f ≤ 5
  pub held : fitting (length f) x ≡ true
  pub back : field_of (length f) x ≡ f

-- between two halves a size has just one fewest number of digits
fewest-is : (w k m : ℕ) → k ≤ w → half_of (k - 1) ≤ m → m < half_of k → fewest w m ≡ k
unfolding fewest
fewest-is zero k m a p q = absurd (let z = half_some k m q in omega arith)
fewest-is (suc w) k m a p q =
    by_lt w k
    (λ (l : w < k).
    let e : k ≡ suc w = omega arith in
    let z : suc w - 1 ≡ w = omega arith in
    rw (e, le-ltb m (half_of w) (rw (e, z) at p)))
    (λ (l : k ≤ w). rw (lt-ltb m (half_of w) (omega (arith, half_less k w l))) (fewest-is w k m l p q))

-- what k digits spell, k digits hold
sub_held : (n h : ℕ) → n < h + h → mag (sub_ℕ n h) < h
sub_held n h p =
    by_lt n h
    (λ (l : n < h). rw (sub-below n h l) (omega arith))
    (λ (l : h ≤ n). rw (sub-above n h l) (omega arith))

is-figure : {x y : Figure} → ◌≡◌ {A = Result Figure Refusal} (Ok x) (Ok y) → x ≡ y
is-figure e = cc

refused-is : {r : Refusal} {x : Figure} → ◌≡◌ {A = Result Figure Refusal} (Err r) (Ok x) → ⊥
refused-is e = let z : ◌≡◌ {A = ℕ} 0 1 = cc in absurd (omega arith)

digits-written : (f : List ℕ) → 1 ≤ length f → length f ≤ 5 → all_digits (trim f) ≡ true → 0 < length (trim f) → (x : Figure)
    → spelt (number 0 (trim f)) (length (trim f)) ≡ Ok x → Reads f x
unfolding field_of spelt
digits-written f a b d p x e =
    let ds = trim f in
    let k = length ds in
    let n = number 0 ds in
    let y : ℤ = sub_ℕ n (half_of k) in
    let g : n < 40 ^ k = rw (zero-add k) at (number_lt ds 0 0 (lit< tt) d) in
    let held : mag y < half_of k = sub_held n (half_of k) (rw (half_twice k p) g) in
    let s : k ≤ length f = trim-length f in
    by_lt (mag y) (half_of (k - 1))
    (λ (l : mag y < half_of (k - 1)). absurd (refused-is (rw (lt-ltb (mag y) (half_of (k - 1)) l) at e)))
    (λ (l : half_of (k - 1) ≤ mag y).
    let i : Some y ≡ x = is-figure (rw (le-ltb (mag y) (half_of (k - 1)) l) at e) in
    let few : fewest (length f) (mag y) ≡ k = fewest-is (length f) k (mag y) s l held in
    let v : number 0 (spell k n []) ≡ number 0 ds = number-spell k 0 n [] g ∙ number-none (0 * 40 ^ k + n) ∙ omega arith in
    let same : spell k n [] ≡ ds =
    (number_same (spell k n []) ds 0 0 (spell-length k n [] ∙ omega arith) (spell-digits k n [] digits-none) d v).1 in
    rw (← i)
    (record {
      some = a;
      few = b;
      held = lt-ltb (mag y) (half_of (length f)) (omega (arith, half_less k (length f) s));
      back = rw (few, above-sub-back n (half_of k), same) (trim-back f);
    }))

pub write-back : (f : List ℕ) (x : Figure) → read_packed f ≡ Ok x → Reads f x
unfolding read_packed field_of
write-back f x e =
    by_test (width_ok (length f))
    (λ (w : width_ok (length f) ≡ true).
    let a : 1 ≤ length f = leb-true 1 (length f) (both_left (leb 1 (length f)) (leb (length f) 5) w) in
    let b : length f ≤ 5 = leb-true (length f) 5 (both_right (leb 1 (length f)) (leb (length f) 5) w) in
    by_test (all_solidi f)
    (λ (s : all_solidi f ≡ true).
    rw (← (is-figure (rw (w, s) at e))) (record { some = a; few = b; held = refl; back = solidi-back f s }))
    (λ (s : all_solidi f ≡ false).
    by_test (ltb 0 (length (trim f)) && all_digits (trim f))
    (λ (t : (ltb 0 (length (trim f)) && all_digits (trim f)) ≡ true).
    digits-written f a b
    (both_right (ltb 0 (length (trim f))) (all_digits (trim f)) t)
    (ltb-true 0 (length (trim f)) (both_left (ltb 0 (length (trim f))) (all_digits (trim f)) t))
    x (rw (w, s, t) at e))
    (λ (t : (ltb 0 (length (trim f)) && all_digits (trim f)) ≡ false). absurd (refused-is (rw (w, s, t) at e)))))
    (λ (w : width_ok (length f) ≡ false). absurd (refused-is (rw w at e)))
