-- What is read is what document 01's words say.
use mathlib.Core.Path.{◌≡◌, refl, sym, ap, ◌∙◌}
use mathlib.Core.Bool.{Bool, true, false}
use mathlib.Core.List.{List, [], ◌∷◌, ◌++◌, foldl}
use Prim.Native.Nat.{ℕ, zero, suc, ◌+◌, ◌-◌, ◌*◌, ◌≤◌, ◌<◌}
use native.Mathlib.Omega.{arith}
use lib.Dec.{ltb, eqb}
use lib.ListN.{length, replicate, length-append, length-replicate}
use lib.Signed.{mag}
use borrow.Author.Tests.{lt-ltb, le-ltb, ltb-true, ne_eqb}
use Rattle.text.specs.Bytes.{is_one_of, all_one_of}
use Rattle.text.proofs.Bytes.{all_below}
use Rattle.text.proofs.Cases.{by_lt, by_test, both_left, both_right}
use Rattle.text.proofs.Table.{agree}
use Rattle.packed.specs.Packed.{worth_of, half_of, number, all_digits, spelt, read_packed}
use Rattle.packed.specs.Words.{digit_bytes, index_in, span, figure_spelt, Digits}
use Rattle.packed.proofs.Digits.{worth_high}
use Rattle.packed.proofs.RoundTrip.{trim_spaces, trim_digits, read_as}
use Rattle.std.specs.Prelude.{Some, Ok}
use Rattle.text.specs.Checks.{refuse}
use Rattle.text.specs.declared.Code.TheVariants.{OtherSpelling}

-- ---- A byte's worth is where it stands

index_none : (xs : List ℕ) (n b : ℕ) → all_below n xs ≡ true → n ≤ b → index_in xs b ≡ length xs
unfolding index_in
index_none [] n b e h = refl
index_none (x ∷ xs) n b e h =
    let l = ltb-true x n (both_left (ltb x n) (all_below n xs) e) in
    rw (ne_eqb b x (λ (z : b ≡ x). omega arith)) (ap suc (index_none xs n b (both_right (ltb x n) (all_below n xs) e) h))

-- one computed comparison below 91; above no byte is a digit
pub worth_is : (b : ℕ) → worth_of b ≡ index_in digit_bytes b
unfolding worth_of index_in
worth_is b =
    by_lt b 91 (λ (h : b < 91). agree worth_of (index_in digit_bytes) 91 refl b h)
    (λ (h : 91 ≤ b). worth_high b (omega arith) ∙ sym (index_none digit_bytes 91 b refl h))

-- one of the digits is worth less than 40
index_below : (xs : List ℕ) (b : ℕ) → is_one_of xs b ≡ true → index_in xs b < length xs
unfolding is_one_of index_in
index_below [] b e = let z : ◌≡◌ {A = Bool} false true = e in let w : ◌≡◌ {A = ℕ} 0 1 = cc in absurd (omega arith)
index_below (x ∷ xs) b e =
    by_test (eqb b x) (λ (t : eqb b x ≡ true). rw t (omega arith))
    (λ (t : eqb b x ≡ false). rw t (omega (arith, index_below xs b (rw t at e))))

digit-some : (b : ℕ) → is_one_of digit_bytes b ≡ true → ltb (worth_of b) 40 ≡ true
digit-some b e = lt-ltb (worth_of b) 40 (rw (worth_is b) (index_below digit_bytes b e))

all_digits_lem : (ds : List ℕ) → all_one_of digit_bytes ds ≡ true → all_digits ds ≡ true
unfolding all_one_of all_digits
all_digits_lem [] e = refl
all_digits_lem (b ∷ ds) e =
    rw (digit-some b (both_left (is_one_of digit_bytes b) (all_one_of digit_bytes ds) e))
    (all_digits_lem ds (both_right (is_one_of digit_bytes b) (all_one_of digit_bytes ds) e))

number_is : (n : ℕ) (ds : List ℕ) → number n ds ≡ foldl (λ (m b : ℕ). m * 40 + index_in digit_bytes b) n ds
unfolding number
number_is n [] = refl
number_is n (b ∷ ds) = rw (worth_is b) (number_is (n * 40 + index_in digit_bytes b) ds)

-- the table's halves are the spans
pub half_is : (k : ℕ) → half_of k ≡ span k
unfolding half_of
half_is zero = refl
half_is (suc k) = refl

-- ---- Digits behind spaces

module _ (n : ℕ) (ds : List ℕ) (d : Digits n ds) (k : ℕ) (l : suc k ≡ length ds) where
  abbrev field : List ℕ
  field = replicate n 32 ++ ds

  long : length field ≡ n + length ds
  long = length-append (replicate n 32) ds ∙ ap (λ (m : ℕ). m + length ds) (length-replicate {A = ℕ} n 32)

  as_spelt : read_packed field ≡ spelt (number 0 ds) (length ds)
  as_spelt =
      let a = d.some in
      let b = d.few in
      let e = all_digits_lem ds d.digit in
      read_as field ds (omega (arith, long)) (omega (arith, long)) (trim_spaces n ds ∙ trim_digits ds e) e (omega arith)

  -- the figure, where one digit fewer would not hold it
  pub figure-read : span k ≤ mag (figure_spelt ds) → read_packed field ≡ Ok (Some (figure_spelt ds))
  unfolding spelt
  figure-read h =
      let j : length ds - 1 ≡ k = omega arith in
      as_spelt ∙ rw (number_is 0 ds, j, half_is (length ds), half_is k, le-ltb (mag (figure_spelt ds)) (span k) h)

  -- and 6 where it would
  pub six-read : mag (figure_spelt ds) < span k → read_packed field ≡ refuse OtherSpelling 0
  unfolding spelt
  six-read h =
      let j : length ds - 1 ≡ k = omega arith in
      as_spelt ∙ rw (number_is 0 ds, j, half_is (length ds), half_is k, lt-ltb (mag (figure_spelt ds)) (span k) h)
