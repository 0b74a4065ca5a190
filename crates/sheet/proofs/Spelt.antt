-- A number within its limits is what its text is read as.
use mathlib.Core.Path.{◌≡◌, refl, sym, ap, ◌∙◌}
use mathlib.Core.Bool.{Bool, true, false, cond, ◌&&◌}
use mathlib.Core.List.{List, [], ◌∷◌}
use Prim.Native.Nat.{ℕ, zero, suc, ◌-◌, ◌^◌, ◌≤◌, ◌<◌}
use native.Mathlib.Omega.{arith}
use lib.Dec.{leb, ltb, eqb}
use lib.ListN.{length, get_or}
use borrow.Author.Tests.{ne_eqb, lt-ltb, le-leb, leb-true, ltb-true, eqb-true}
use Rattle.text.proofs.Cases.{by_test, both_right}
use Rattle.packed.specs.Packed.{trim}
use Rattle.field.specs.Decimal.{is_digit, all_digits, value, value_from, decimal}
use Rattle.field.proofs.Decimal.{digit_low, decimal-length, decimal-digits, decimal-value, value-decimal}
use Rattle.std.specs.Prelude.{Result, Ok}
use Rattle.text.specs.declared.Code.{Code}
use Rattle.sheet.specs.declared.Limits.{Limits}
use Rattle.sheet.specs.Number.{word_of, is_below, size_of, within, zero_first, digits_read, signed_read, number_read, blanked, marked, number_text}
use Rattle.sheet.proofs.Spelling.{pad, pad-digits, pad-value, blank-pad, mark-pad, text-is, first-digit}

-- ---- zeros before the first other digit

-- how many, of digits of which the last stays
unfoldable zeros : List ℕ → ℕ
zeros [] = 0
zeros (b ∷ []) = 0
zeros (b ∷ c ∷ ds) = cond (eqb b 48) (suc (zeros (c ∷ ds))) 0

-- what is left
unfoldable rest : List ℕ → List ℕ
rest [] = []
rest (b ∷ []) = b ∷ []
rest (b ∷ c ∷ ds) = cond (eqb b 48) (rest (c ∷ ds)) (b ∷ c ∷ ds)

zeros-rest : (ds : List ℕ) → pad (zeros ds) 48 (rest ds) ≡ ds
unfolding pad zeros rest
zeros-rest [] = refl
zeros-rest (b ∷ []) = refl
zeros-rest (b ∷ c ∷ ds) =
    by_test (eqb b 48)
    (λ (e : eqb b 48 ≡ true). rw (e, eqb-true b 48 e) (ap (λ (t : List ℕ). 48 ∷ t) (zeros-rest (c ∷ ds))))
    (λ (e : eqb b 48 ≡ false). rw e)

-- what is left begins with no zero, or is one digit
rest-least : (ds : List ℕ) → (eqb (get_or (rest ds) 0 0) 48 && ltb 1 (length (rest ds))) ≡ false
unfolding rest
rest-least [] = refl
rest-least (b ∷ []) = and-false (eqb b 48)
  where
    and-false : (t : Bool) → (t && false) ≡ false
    and-false true = refl
    and-false false = refl
rest-least (b ∷ c ∷ ds) =
    by_test (eqb b 48)
    (λ (e : eqb b 48 ≡ true). rw e (rest-least (c ∷ ds)))
    (λ (e : eqb b 48 ≡ false). rw (e, e))

rest-digits : (ds : List ℕ) → all_digits ds ≡ true → all_digits (rest ds) ≡ true
unfolding rest all_digits
rest-digits [] e = e
rest-digits (b ∷ []) e = e
rest-digits (b ∷ c ∷ ds) e =
    by_test (eqb b 48)
    (λ (q : eqb b 48 ≡ true). rw q (rest-digits (c ∷ ds) (both_right (is_digit b) (all_digits (c ∷ ds)) e)))
    (λ (q : eqb b 48 ≡ false). rw q e)

rest-value : (ds : List ℕ) → value (rest ds) ≡ value ds
rest-value ds = sym (pad-value (zeros ds) (rest ds)) ∙ ap value (zeros-rest ds)

rest_some : (b : ℕ) (ds : List ℕ) → ltb 0 (length (rest (b ∷ ds))) ≡ true
unfolding rest
rest_some b [] = refl
rest_some b (c ∷ ds) =
    by_test (eqb b 48)
    (λ (q : eqb b 48 ≡ true). rw q (rest_some c ds))
    (λ (q : eqb b 48 ≡ false). rw q (lt-ltb 0 (suc (suc (length ds))) (omega arith)))

-- ---- spaces before what is no space

trim-pad : (n b : ℕ) (t : List ℕ) → eqb b 32 ≡ false → trim (pad n 32 (b ∷ t)) ≡ b ∷ t
unfolding pad trim
trim-pad zero b t e = rw e
trim-pad (suc n) b t e = trim-pad n b t e

-- ---- reading the text of a number

abbrev taken : ℕ → Result ℕ Code
taken x = Ok x

digits-fine : (l : Limits) (below : Bool) (ds : List ℕ) → ltb 0 (length ds) ≡ true → all_digits ds ≡ true
    → zero_first below ds ≡ false → within l below (value ds) ≡ true
    → digits_read l below ds ≡ Ok (word_of below (value ds))
unfolding digits_read
digits-fine l below ds some all least inside = rw (some, all, least, inside)

-- the digits that are left, behind spaces
above_by : (l : Limits) (ds r : List ℕ) → rest ds ≡ r → (v : ℕ) → ltb 0 (length r) ≡ true → all_digits r ≡ true → value r ≡ v → within l false v ≡ true
    → (eqb (get_or r 0 0) 48 && ltb 1 (length r)) ≡ false → signed_read l (trim (blanked ds)) ≡ Ok v
unfolding signed_read
above_by l ds [] is v some all worth inside least = absurd (omega (arith, ltb-true 0 0 some))
above_by l ds (d ∷ r) is v some all worth inside least =
    let low = digit_low d (first-digit d r all) in
    let other : eqb d 32 ≡ false = ne_eqb d 32 (λ (e : d ≡ 32). omega arith) in
    let sign : eqb d 45 ≡ false = ne_eqb d 45 (λ (e : d ≡ 45). omega arith) in
    let text : trim (blanked ds) ≡ d ∷ r =
    ap (λ (t : List ℕ). trim (blanked t)) (sym (zeros-rest ds) ∙ ap (pad (zeros ds) 48) is)
    ∙ ap trim (blank-pad (zeros ds) d r least)
    ∙ trim-pad (zeros ds) d r other in
    rw (text, sign) (digits-fine l false (d ∷ r) some all least (rw worth inside) ∙ ap taken worth)

-- not below zero
above-read : (l : Limits) (w v : ℕ) → 0 < w → v < 10 ^ w → within l false v ≡ true
    → number_read l (blanked (decimal w v)) ≡ Ok v
unfolding number_read
above-read l w v some fits inside = by (decimal w v) (decimal-length w v) (decimal-digits w v) (value-decimal w v fits)
  where
    by : (ds : List ℕ) → length ds ≡ w → all_digits ds ≡ true → value ds ≡ v → signed_read l (trim (blanked ds)) ≡ Ok v
    by [] long all is = absurd (omega arith)
    by (b ∷ ds) long all is = above_by l (b ∷ ds) (rest (b ∷ ds)) refl v (rest_some b ds) (rest-digits (b ∷ ds) all) (rest-value (b ∷ ds) ∙ is) inside (rest-least (b ∷ ds))

-- one digit more than it needs is a zero before the others
one_more : (w v : ℕ) → v < 10 ^ w → decimal (suc w) v ≡ 48 ∷ decimal w v
unfolding pad
one_more w v fits =
    let ds = decimal w v in
    let worth : value (48 ∷ ds) ≡ v = pad-value 1 ds ∙ value-decimal w v fits in
    let long : length (48 ∷ ds) ≡ suc w = ap suc (decimal-length w v) in
    ap (λ (n : ℕ). decimal n v) (sym long) ∙ ap (decimal (length (48 ∷ ds))) (sym worth) ∙ decimal-value (48 ∷ ds) (pad-digits 1 ds (decimal-digits w v))

-- more than nothing begins with no zero
positive_least : (d : ℕ) (r : List ℕ) → 0 < value (d ∷ r) → (eqb d 48 && ltb 1 (length (d ∷ r))) ≡ false → eqb d 48 ≡ false
unfolding value_from
positive_least d [] some e = ne_eqb d 48 (λ (q : d ≡ 48). omega arith)
positive_least d (c ∷ r) some e = alone (eqb d 48) (ltb 1 (suc (suc (length r)))) (lt-ltb 1 (suc (suc (length r))) (omega arith)) e
  where
    alone : (s t : Bool) → t ≡ true → (s && t) ≡ false → s ≡ false
    alone true t h e = sym h ∙ e
    alone false t h e = refl

below_by : (l : Limits) (ds r : List ℕ) → rest ds ≡ r → (v : ℕ) → ltb 0 (length r) ≡ true → all_digits r ≡ true → value r ≡ v → 0 < v → within l true v ≡ true
    → (eqb (get_or r 0 0) 48 && ltb 1 (length r)) ≡ false → signed_read l (trim (marked (blanked (48 ∷ ds)))) ≡ Ok (65536 - v)
unfolding signed_read pad
below_by l ds [] is v some all worth more inside least = absurd (omega (arith, ltb-true 0 0 some))
below_by l ds (d ∷ r) is v some all worth more inside least =
    let low = digit_low d (first-digit d r all) in
    let other : eqb d 32 ≡ false = ne_eqb d 32 (λ (e : d ≡ 32). omega arith) in
    let first : eqb d 48 ≡ false = positive_least d r (rw worth more) least in
    let text : trim (marked (blanked (48 ∷ ds))) ≡ 45 ∷ d ∷ r =
    ap (λ (t : List ℕ). trim (marked (blanked (48 ∷ t)))) (sym (zeros-rest ds) ∙ ap (pad (zeros ds) 48) is)
    ∙ ap (λ (t : List ℕ). trim (marked t)) (blank-pad (suc (zeros ds)) d r least)
    ∙ ap trim (mark-pad (zeros ds) d r other)
    ∙ trim-pad (zeros ds) 45 (d ∷ r) refl in
    rw text (digits-fine l true (d ∷ r) some all (rw first) (rw worth inside) ∙ ap (λ (x : ℕ). taken (65536 - x)) worth)

-- below zero, with room for the sign
below-read : (l : Limits) (w v : ℕ) → 0 < w → v < 10 ^ w → 0 < v → within l true v ≡ true
    → number_read l (marked (blanked (decimal (suc w) v))) ≡ Ok (65536 - v)
unfolding number_read
below-read l w v some fits more inside = rw (one_more w v fits) (by (decimal w v) (decimal-length w v) (decimal-digits w v) (value-decimal w v fits))
  where
    by : (ds : List ℕ) → length ds ≡ w → all_digits ds ≡ true → value ds ≡ v → signed_read l (trim (marked (blanked (48 ∷ ds)))) ≡ Ok (65536 - v)
    by [] long all is = absurd (omega arith)
    by (b ∷ ds) long all is = below_by l (b ∷ ds) (rest (b ∷ ds)) refl v (rest_some b ds) (rest-digits (b ∷ ds) all) (rest-value (b ∷ ds) ∙ is) more inside (rest-least (b ∷ ds))

-- a number within limits that its width holds, one digit fewer where it may be below zero
pub spelt-read : (l : Limits) (w x : ℕ) → 0 < w → l.most < 10 ^ w → (0 < l.below → 1 < w) → l.below < 10 ^ (w - 1) → x < 65536 → within l (is_below x) (size_of x) ≡ true
    → number_read l (number_text w x) ≡ Ok x
unfolding within
spelt-read l w x some most signs least word inside =
    by_test (is_below x)
    (λ (e : is_below x ≡ true).
    let v : ℕ = 65536 - x in
    let size : size_of x ≡ v = rw e in
    let few : v ≤ l.below = leb-true v l.below (rw e at inside) in
    let wide : 1 < w = signs (omega arith) in
    let w-is : suc (w - 1) ≡ w = omega arith in
    let back : 65536 - v ≡ x = omega arith in
    ap (number_read l) (text-is w x true e ∙ ap (λ (k : ℕ). marked (blanked (decimal w k))) size ∙ ap (λ (k : ℕ). marked (blanked (decimal k v))) (sym w-is))
    ∙ below-read l (w - 1) v (omega arith) (omega (arith, least)) (omega arith) (rw (le-leb v l.below few))
    ∙ ap taken back)
    (λ (e : is_below x ≡ false).
    let size : size_of x ≡ x = rw e in
    let range : (leb l.least x && leb x l.most) ≡ true = rw e at inside in
    let few : x ≤ l.most = leb-true x l.most (both_right (leb l.least x) (leb x l.most) range) in
    ap (number_read l) (text-is w x false e ∙ ap (λ (k : ℕ). blanked (decimal w k)) size)
    ∙ above-read l w x some (omega (arith, most)) range)
