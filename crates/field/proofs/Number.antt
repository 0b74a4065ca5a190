-- The number that digits spell, and their check by it.
use mathlib.Core.Path.{◌≡◌, refl, sym, ap, ◌∙◌}
use mathlib.Core.Bool.{Bool, true, false, ◌&&◌}
use mathlib.Core.List.{List, [], ◌∷◌}
use Prim.Native.Nat.{ℕ, ◌+◌, ◌-◌, ◌*◌, ◌≤◌, ◌<◌}
use native.Mathlib.Omega.{arith}
use lib.Dec.{leb}
use lib.ListN.{length}
use borrow.Author.Tests.{le-leb, lt-leb}
use Rattle.text.specs.Parts.{part}
use Rattle.text.proofs.Cases.{by_test}
use Rattle.field.specs.Decimal.{is_digit, all_digits, value_from, value}
use Rattle.field.specs.Fields.{check_digits}
use Rattle.field.specs.Steps.{number_or}
use Rattle.field.proofs.Decimal.{value-small}
use Rattle.std.specs.Prelude.{Some, None, Ok}
use Rattle.text.specs.Checks.{refuse}
use Rattle.text.specs.declared.Code.{Code}
use Rattle.text.specs.declared.Code.TheVariants.{NotAllowed, WrongEnd}

-- two digits, from their bytes
pub two_digits : (a b : ℕ) → is_digit a ≡ true → is_digit b ≡ true → number_or (a ∷ b ∷ []) ≡ Some ((a - 48) * 10 + (b - 48))
unfolding number_or all_digits value_from
two_digits a b x y =
    let s : (0 * 10 + (a - 48)) * 10 + (b - 48) ≡ (a - 48) * 10 + (b - 48) = omega arith in
    rw (x, y) (ap Some s)

-- and three
pub three_digits : (a b c : ℕ) → is_digit a ≡ true → is_digit b ≡ true → is_digit c ≡ true
    → number_or (a ∷ b ∷ c ∷ []) ≡ Some ((a - 48) * 100 + (b - 48) * 10 + (c - 48))
unfolding number_or all_digits value_from
three_digits a b c x y z =
    let s : ((0 * 10 + (a - 48)) * 10 + (b - 48)) * 10 + (c - 48) ≡ (a - 48) * 100 + (b - 48) * 10 + (c - 48) = omega arith in
    rw (x, y, z) (ap Some s)

some_same : {m n : ℕ} → Some m ≡ Some n → m ≡ n
some_same e = cc

none_some {ℓ} : {P : Type ℓ} (n : ℕ) → None ≡ Some n → P
none_some n e = let z : ◌≡◌ {A = ℕ} 0 1 = cc in absurd (omega arith)

-- a number is what digits spell
pub number_is : (ds : List ℕ) (n : ℕ) → number_or ds ≡ Some n → (all_digits ds ≡ true) × (n ≡ value ds)
unfolding number_or
number_is ds n h =
    by_test (all_digits ds)
    (λ (d : all_digits ds ≡ true). (d, some_same (sym h ∙ rw d)))
    (λ (d : all_digits ds ≡ false). none_some n (sym (rw d) ∙ h))

-- and none is where a byte is no digit
pub number-none : (ds : List ℕ) → number_or ds ≡ None → all_digits ds ≡ false
unfolding number_or
number-none ds h =
    by_test (all_digits ds)
    (λ (d : all_digits ds ≡ true). none_some (value ds) (sym h ∙ rw d))
    (λ (d : all_digits ds ≡ false). d)

-- three digits at the most spell less than 1000
pub number_small : (ds : List ℕ) (n : ℕ) → number_or ds ≡ Some n → length ds ≤ 3 → n < 1000
number_small ds n e h = let f = number_is ds n e in omega (arith, f.1, value-small ds h f.0)

-- ---- The check of digits, by what they spell

and-false : (t : Bool) → (t && false) ≡ false
and-false true = refl
and-false false = refl

-- the text ends inside the number
pub digits_cut : (code : Code) (w least most : ℕ) (s : List ℕ) (at : ℕ) → length s < at + w → check_digits code w least most s at ≡ refuse WrongEnd at
unfolding check_digits
digits_cut code w least most s at h = rw (lt-leb (at + w) (length s) h)

module _ (code : Code) (w least most : ℕ) (s : List ℕ) (at : ℕ) (fits : at + w ≤ length s) where
  -- a byte is no digit
  pub digits-other : all_digits (part at w s) ≡ false → check_digits code w least most s at ≡ refuse NotAllowed at
  unfolding check_digits
  digits-other d = rw (le-leb (at + w) (length s) fits, d)

  -- too much
  pub digits_above : all_digits (part at w s) ≡ true → most < value (part at w s) → check_digits code w least most s at ≡ refuse code at
  unfolding check_digits
  digits_above d h =
      rw (le-leb (at + w) (length s) fits, d, lt-leb (value (part at w s)) most h, and-false (leb least (value (part at w s))))

  -- too little
  pub digits-below : all_digits (part at w s) ≡ true → value (part at w s) < least → check_digits code w least most s at ≡ refuse code at
  unfolding check_digits
  digits-below d h = rw (le-leb (at + w) (length s) fits, d, lt-leb least (value (part at w s)) h)

  -- a number that fits
  pub digits-fine : all_digits (part at w s) ≡ true → least ≤ value (part at w s) → value (part at w s) ≤ most
      → check_digits code w least most s at ≡ Ok (at + w)
  unfolding check_digits
  digits-fine d h k =
      rw (
        le-leb (at + w) (length s) fits,
        d,
        le-leb least (value (part at w s)) h,
        le-leb (value (part at w s)) most k,
      )
