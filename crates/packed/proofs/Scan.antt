-- Steps of the reader's loops: the whole field is as what is left of it.
use mathlib.Core.Path.{◌≡◌, refl, sym, ap, ◌∙◌}
use mathlib.Core.Bool.{Bool, true, false, ◌&&◌, not}
use mathlib.Core.List.{List, [], ◌∷◌}
use Prim.Native.Nat.{ℕ, zero, suc, ◌+◌, ◌-◌, ◌*◌, ◌^◌, ◌≤◌, ◌<◌}
use native.Mathlib.Omega.{arith}
use native.Mathlib.Numerals.{add-one}
use lib.Dec.{leb, ltb, eqb, lit<}
use lib.ListN.{length, get_or, take, drop, length-drop, drop_of_length-le}
use lib.Seq.{drop-cons, take_all}
use borrow.Author.Tests.{eq-eqb, ne_eqb, ltb-true, eqb-true, lt-ltb, le-ltb, lt-leb, le-leb}
use native.Mathlib.Nat.{add-zero, pow-suc, pow-le-pow_right}
use lib.Arith.{digits_lt}
use Rattle.text.proofs.Cases.{by_test, by_lt, both_left, both_right}
use Rattle.std.specs.Option.{unwrap_or}
use Rattle.std.specs.List.{position, position_or_len}
use Rattle.packed.specs.Packed.{trim, all_solidi, all_digits, worth_of, number, half_of, ahead}
use Rattle.packed.proofs.Digits.{solidus_none}

pub next : (l : List ℕ) (i : ℕ) → i < length l → drop i l ≡ get_or l i 0 ∷ drop (i + 1) l
next l i h = rw (add-one, drop-cons l i 0)

-- a space is passed over
pub trim_space : (l : List ℕ) (i : ℕ) → i < length l → get_or l i 0 ≡ 32 → trim (drop i l) ≡ trim (drop (i + 1) l)
unfolding trim
trim_space l i h e = rw (next l i h, eq-eqb (get_or l i 0) 32 e)

-- any other byte ends the spaces
pub trim-other : (l : List ℕ) (i : ℕ) → i < length l → (get_or l i 0 ≡ 32 → ⊥) → trim (drop i l) ≡ drop i l
unfolding trim
trim-other l i h e = rw (next l i h, ne_eqb (get_or l i 0) 32 e)

pub trim_end : (l : List ℕ) (i : ℕ) → length l ≤ i → trim (drop i l) ≡ drop i l
unfolding trim
trim_end l i h = rw (drop_of_length-le l h)

pub solidi_end : (l : List ℕ) (i : ℕ) → length l ≤ i → all_solidi (drop i l) ≡ true
unfolding all_solidi
solidi_end l i h = rw (drop_of_length-le l h)

-- ---- what a run of digits is worth

-- k digits more than n, which is below 40^j, are below 40^(j + k)
pub number_lt : (ds : List ℕ) (n j : ℕ) → n < 40 ^ j → all_digits ds ≡ true → number n ds < 40 ^ (j + length ds)
unfolding number all_digits
number_lt [] n j h e = rw (add-zero j) h
number_lt (b ∷ bs) n j h e =
    let d : worth_of b < 40 = ltb-true (worth_of b) 40 (both_left (ltb (worth_of b) 40) (all_digits bs) e) in
    let k : j + suc (length bs) ≡ suc j + length bs = omega arith in
    rw k
    (number_lt bs (n * 40 + worth_of b) (suc j) (rw (pow-suc 40 j) (digits_lt h d)) (both_right (ltb (worth_of b) 40) (all_digits bs) e))

and-false : (t : Bool) → (t && false) ≡ false
and-false true = refl
and-false false = refl

-- solidi are no digits
pub solidi-none : (f : List ℕ) → all_solidi f ≡ true → (ltb 0 (length (trim f)) && all_digits (trim f)) ≡ false
unfolding all_solidi trim all_digits
solidi-none [] e = refl
solidi-none (b ∷ bs) e =
    let s : b ≡ 47 = eqb-true b 47 (both_left (eqb b 47) (all_solidi bs) e) in
    rw (s, solidus_none) (and-false (ltb 0 (suc (length bs))))

-- ---- bytes that are such, up to the first other one

pub ahead-le : (test : ℕ → Bool) (f : List ℕ) → ahead test f ≤ length f
unfolding ahead
ahead-le test [] = omega arith
ahead-le test (b ∷ bs) =
    by_test (test b)
    (λ (t : test b ≡ true). rw t (omega (arith, ahead-le test bs)))
    (λ (t : test b ≡ false). rw t (omega arith))

module _ (test other : ℕ → Bool) (apart : (b : ℕ) → other b ≡ not (test b)) where
  ahead-to : (l : List ℕ) → ahead test l ≡ position_or_len other l
  unfolding ahead
  ahead-to [] = refl
  ahead-to (b ∷ bs) =
      by_test (test b)
      (λ (t : test b ≡ true). rw (apart b, t) (ap suc (ahead-to bs) ∙ omega arith))
      (λ (t : test b ≡ false). rw (apart b, t))

  pub ahead-position : (l : List ℕ) → unwrap_or (position other l) (length l) ≡ ahead test l
  ahead-position l =
      let e = ahead-to l in
      by_lt (position_or_len other l) (length l)
      (λ (h : position_or_len other l < length l). rw (lt-ltb (position_or_len other l) (length l) h) (sym e))
      (λ (h : length l ≤ position_or_len other l). rw (le-ltb (position_or_len other l) (length l) h) (omega (arith, e, ahead-le test l)))

-- no digit: its worth is 40
pub forty : (n : ℕ) → leb 40 n ≡ not (ltb n 40)
forty n =
    by_lt n 40
    (λ (h : n < 40). rw (lt-ltb n 40 h, lt-leb 40 n h))
    (λ (h : 40 ≤ n). rw (le-ltb n 40 h, le-leb 40 n h))

abbrev pub is_space : ℕ → Bool
is_space b = eqb b 32

-- the field without its leading spaces
pub ahead-trim : (l : List ℕ) → drop (ahead is_space l) l ≡ trim l
unfolding ahead trim
ahead-trim [] = refl
ahead-trim (b ∷ bs) =
    by_test (eqb b 32)
    (λ (t : eqb b 32 ≡ true). rw t (ahead-trim bs))
    (λ (t : eqb b 32 ≡ false). rw t)

-- the part of a slice from a place to its end
pub tail : (l : List ℕ) (i : ℕ) → take (length l - i) (drop i l) ≡ drop i l
tail l i = take_all (length l - i) (drop i l) (omega (arith, length-drop i l))

-- no half is large
pub half_small : (k : ℕ) → k ≤ 5 → half_of k < 2 ^ 30
unfolding half_of
half_small zero h = lit< tt
half_small (suc k) h = omega (arith, pow-le-pow_right {n = 40} (lit< tt) {i = k} {j = 4} (omega arith))
