-- A number's field is the one spelling of what it is read as, by one law over the width.
use mathlib.Core.Path.{◌≡◌, refl, sym, ap, ◌∙◌}
use mathlib.Core.Bool.{Bool, true, false, cond, ◌&&◌, ◌||◌}
use mathlib.Core.List.{List, [], ◌∷◌}
use Prim.Native.Nat.{ℕ, zero, suc, ◌+◌, ◌-◌, ◌≤◌, ◌<◌}
use native.Mathlib.Omega.{arith}
use lib.Dec.{leb, ltb, eqb}
use lib.ListN.{length, get_or, drop}
use borrow.Author.Tests.{ne_eqb, lt-ltb, le-leb, lt-leb, leb-true, ltb-true, eqb-true}
use Rattle.text.proofs.Cases.{by_test, both_left, both_right}
use Rattle.packed.specs.Packed.{trim}
use Rattle.field.specs.Decimal.{is_digit, all_digits, value, value_from, decimal}
use Rattle.field.proofs.Decimal.{digit_low, decimal-value}
use Rattle.sheet.specs.declared.Limits.{Limits}
use Rattle.std.specs.Prelude.{Result, Ok, Err, is_ok}
use Rattle.text.specs.declared.Code.{Code}
use Rattle.text.specs.declared.Code.TheVariants.{NotAllowed, OutOfRange, OtherSpelling}
use Rattle.sheet.specs.Number.{word_of, is_below, size_of, within, word_in, zero_first, digits_read, signed_read, number_read, blanked, marked, number_text}
use Rattle.sheet.proofs.Scan.{value_positive, within-small}
use Rattle.sheet.proofs.Small.{not-held}

-- n times a byte before a text
unfoldable pub pad : ℕ → ℕ → List ℕ → List ℕ
pad zero b t = t
pad (suc n) b t = b ∷ pad n b t

pad-length : (n b : ℕ) (t : List ℕ) → length (pad n b t) ≡ n + length t
unfolding pad
pad-length zero b t = omega arith
pad-length (suc n) b t = ap suc (pad-length n b t) ∙ omega arith

-- ---- leading spaces

unfoldable lead : List ℕ → ℕ
lead [] = 0
lead (b ∷ f) = cond (eqb b 32) (suc (lead f)) 0

lead_is : (f : List ℕ) → pad (lead f) 32 (trim f) ≡ f
unfolding pad lead trim
lead_is [] = refl
lead_is (b ∷ f) =
    by_test (eqb b 32)
    (λ (e : eqb b 32 ≡ true). rw (e, eqb-true b 32 e) (ap (λ (t : List ℕ). 32 ∷ t) (lead_is f)))
    (λ (e : eqb b 32 ≡ false). rw e)

-- ---- zeros before digits

pub pad-digits : (n : ℕ) (ds : List ℕ) → all_digits ds ≡ true → all_digits (pad n 48 ds) ≡ true
unfolding pad all_digits
pad-digits zero ds e = e
pad-digits (suc n) ds e = pad-digits n ds e

pub pad-value : (n : ℕ) (ds : List ℕ) → value (pad n 48 ds) ≡ value ds
unfolding pad value_from
pad-value zero ds = refl
pad-value (suc n) ds = pad-value n ds

decimal-pad : (n w : ℕ) (ds : List ℕ) → w ≡ n + length ds → all_digits ds ≡ true → decimal w (value ds) ≡ pad n 48 ds
decimal-pad n w ds is e =
    ap (λ (k : ℕ). decimal k (value ds)) (is ∙ sym (pad-length n 48 ds))
    ∙ ap (λ (v : ℕ). decimal (length (pad n 48 ds)) v) (sym (pad-value n ds))
    ∙ decimal-value (pad n 48 ds) (pad-digits n ds e)

-- no zero stands before other digits
pub blank-pad : (n d : ℕ) (r : List ℕ) → (eqb d 48 && ltb 1 (length (d ∷ r))) ≡ false → blanked (pad n 48 (d ∷ r)) ≡ pad n 32 (d ∷ r)
unfolding pad blanked
blank-pad zero d [] e = refl
blank-pad zero d (c ∷ r) e = rw (alone (eqb d 48) (ltb 1 (suc (suc (length r)))) (lt-ltb 1 (suc (suc (length r))) (omega arith)) e)
  where
    alone : (s t : Bool) → t ≡ true → (s && t) ≡ false → s ≡ false
    alone true t h e = sym h ∙ e
    alone false t h e = refl
blank-pad (suc zero) d r e = ap (λ (t : List ℕ). 32 ∷ t) (blank-pad zero d r e)
blank-pad (suc (suc n)) d r e = ap (λ (t : List ℕ). 32 ∷ t) (blank-pad (suc n) d r e)

-- the sign takes the last space's place
pub mark-pad : (n d : ℕ) (r : List ℕ) → eqb d 32 ≡ false → marked (pad (suc n) 32 (d ∷ r)) ≡ pad n 32 (45 ∷ d ∷ r)
unfolding pad marked
mark-pad zero d r e = rw e
mark-pad (suc n) d r e = ap (λ (t : List ℕ). 32 ∷ t) (mark-pad n d r e)

-- ---- what an accepted field is

pub record Digits (l : Limits) (below : Bool) (ds : List ℕ) (x : Result ℕ Code) : Type 0 where
  pub some : ltb 0 (length ds) ≡ true
  pub all : all_digits ds ≡ true
  pub least : zero_first below ds ≡ false
  pub inside : within l below (value ds) ≡ true
  pub is : word_in x ≡ word_of below (value ds)

picked : (p q r : Bool) (v : ℕ) → is_ok {E = Code} (cond p (cond q (Err OtherSpelling) (cond r (Ok v) (Err OutOfRange))) (Err NotAllowed)) ≡ true
    → (p ≡ true) × ((q ≡ false) × (r ≡ true))
picked true false true v e = (refl, (refl, refl))
picked true false false v e = not-held e
picked true true r v e = not-held e
picked false q r v e = not-held e

digits_of_lem : (l : Limits) (below : Bool) (ds : List ℕ) → is_ok (digits_read l below ds) ≡ true → Digits l below ds (digits_read l below ds)
unfolding digits_read
digits_of_lem l below ds e =
    let p = ltb 0 (length ds) && all_digits ds in
    let q = zero_first below ds in
    let r = within l below (value ds) in
    let f = picked p q r (word_of below (value ds)) e in
    record {
      some = both_left (ltb 0 (length ds)) (all_digits ds) f.0;
      all = both_right (ltb 0 (length ds)) (all_digits ds) f.0;
      least = f.1.0;
      inside = f.1.1;
      is = rw (f.0, f.1.0, f.1.1);
    }

-- ---- words

pub text-is : (w x : ℕ) (below : Bool) → is_below x ≡ below
    → number_text w x ≡ cond below (marked (blanked (decimal w (size_of x)))) (blanked (decimal w (size_of x)))
unfolding number_text
text-is w x below e = ap (λ (t : Bool). cond t (marked (blanked (decimal w (size_of x)))) (blanked (decimal w (size_of x)))) e

size_below : (v : ℕ) → 0 < v → v ≤ 32768 → size_of (65536 - v) ≡ v
size_below v p h = rw (le-leb 32768 (65536 - v) (omega arith)) (omega arith)

size_above : (v : ℕ) → v ≤ 32767 → size_of v ≡ v
size_above v h = rw (lt-leb 32768 v (omega arith))

within-least : (l : Limits) (v : ℕ) → l.most ≤ 32767 → within l false v ≡ true → v ≤ 32767
unfolding within
within-least l v h e = omega (arith, leb-true v l.most (both_right (leb l.least v) (leb v l.most) e))

pub first-digit : (d : ℕ) (r : List ℕ) → all_digits (d ∷ r) ≡ true → is_digit d ≡ true
unfolding all_digits
first-digit d r e = both_left (is_digit d) (all_digits r) e

no-some {ℓ} : {P : Type ℓ} → ltb 0 0 ≡ true → P
no-some e = absurd (omega (arith, ltb-true 0 0 e))

-- ---- one spelling

module _ (l : Limits) (small : (l.below ≤ 32768) × (l.most ≤ 32767)) (w n : ℕ) where
  -- `-` and digits behind n spaces
  below-spelt : (ds : List ℕ) (x : Result ℕ Code) → Digits l true ds x → w ≡ suc n + length ds → number_text w (word_in x) ≡ pad n 32 (45 ∷ ds)
  below-spelt [] x h long = no-some h.some
  below-spelt (d ∷ r) x h long =
      let v = value (d ∷ r) in
      let low : 0 < v = value_positive (d ∷ r) h.some h.all h.least in
      let high : v ≤ 32768 = within-small l true v small h.inside in
      let size : size_of (65536 - v) ≡ v = size_below v low high in
      let digit = digit_low d (first-digit d r h.all) in
      ap (number_text w) h.is
      ∙ text-is w (65536 - v) true (le-leb 32768 (65536 - v) (omega arith))
      ∙ ap (λ (k : ℕ). marked (blanked (decimal w k))) size
      ∙ ap (λ (t : List ℕ). marked (blanked t)) (decimal-pad (suc n) w (d ∷ r) long h.all)
      ∙ ap marked (blank-pad (suc n) d r (fewer (eqb d 48) (ltb 1 (length (d ∷ r))) h.least))
      ∙ mark-pad n d r (ne_eqb d 32 (λ (e : d ≡ 32). omega arith))
    where
      fewer : (s t : Bool) → (s && (true || t)) ≡ false → (s && t) ≡ false
      fewer true t e = let z : ◌≡◌ {A = ℕ} 1 0 = ap (λ (b : Bool). cond b 1 0) e in absurd (omega arith)
      fewer false t e = refl

  -- digits behind n spaces
  above-spelt : (ds : List ℕ) (x : Result ℕ Code) → Digits l false ds x → w ≡ n + length ds → number_text w (word_in x) ≡ pad n 32 ds
  above-spelt [] x h long = no-some h.some
  above-spelt (d ∷ r) x h long =
      let v = value (d ∷ r) in
      let high : v ≤ 32767 = within-least l v small.1 h.inside in
      ap (number_text w) h.is
      ∙ text-is w v false (lt-leb 32768 v (omega arith))
      ∙ ap (λ (k : ℕ). blanked (decimal w k)) (size_above v high)
      ∙ ap blanked (decimal-pad n w (d ∷ r) long h.all)
      ∙ blank-pad n d r h.least

lead-length : (f : List ℕ) → length f ≡ lead f + length (trim f)
lead-length f = ap length (sym (lead_is f)) ∙ pad-length (lead f) 32 (trim f)

-- an accepted field is the text of what it is read as
pub one-spelling : (l : Limits) (f : List ℕ) → (l.below ≤ 32768) × (l.most ≤ 32767) → is_ok (number_read l f) ≡ true
    → number_text (length f) (word_in (number_read l f)) ≡ f
unfolding number_read signed_read
one-spelling l f small e = by (trim f) refl (lead-length f) e ∙ lead_is f
  where
    by : (t : List ℕ) → trim f ≡ t → length f ≡ lead f + length t → is_ok (signed_read l t) ≡ true
        → number_text (length f) (word_in (signed_read l t)) ≡ pad (lead f) 32 t
    by [] is long e = above-spelt l small (length f) (lead f) [] (digits_read l false []) (digits_of_lem l false [] e) long
    by (b ∷ t) is long e =
        by_test (eqb b 45)
        (λ (q : eqb b 45 ≡ true).
        let g = rw q at e in
        rw (q, eqb-true b 45 q) (below-spelt l small (length f) (lead f) t (digits_read l true t) (digits_of_lem l true t g) (long ∙ omega arith)))
        (λ (q : eqb b 45 ≡ false).
        let g = rw q at e in
        rw q (above-spelt l small (length f) (lead f) (b ∷ t) (digits_read l false (b ∷ t)) (digits_of_lem l false (b ∷ t) g) long))

-- ---- what is read

digits-within : (l : Limits) → (l.below ≤ 32768) × (l.most ≤ 32767) → (below : Bool) (ds : List ℕ) (x : Result ℕ Code) → Digits l below ds x
    → (word_in x < 65536) × (within l (is_below (word_in x)) (size_of (word_in x)) ≡ true)
digits-within l small true ds x h =
    let v = value ds in
    let low : 0 < v = value_positive ds h.some h.all h.least in
    let high : v ≤ 32768 = within-small l true v small h.inside in
    let back : 65536 - (65536 - v) ≡ v = omega arith in
    rw (h.is, le-leb 32768 (65536 - v) (omega arith), back) (omega arith, h.inside)
digits-within l small false ds x h =
    let v = value ds in
    let high : v ≤ 32767 = within-least l v small.1 h.inside in
    rw (h.is, lt-leb 32768 v (omega arith)) (omega arith, h.inside)

-- an accepted field is a number within the limits, in 16 bits
pub read-within : (l : Limits) (f : List ℕ) → (l.below ≤ 32768) × (l.most ≤ 32767) → is_ok (number_read l f) ≡ true
    → (word_in (number_read l f) < 65536) × (within l (is_below (word_in (number_read l f))) (size_of (word_in (number_read l f))) ≡ true)
unfolding number_read signed_read
read-within l f small e = by (trim f) e
  where
    by : (t : List ℕ) → is_ok (signed_read l t) ≡ true
        → (word_in (signed_read l t) < 65536) × (within l (is_below (word_in (signed_read l t))) (size_of (word_in (signed_read l t))) ≡ true)
    by t e =
        by_test (eqb (get_or t 0 0) 45)
        (λ (q : eqb (get_or t 0 0) 45 ≡ true).
        let g = rw q at e in
        rw q (digits-within l small true (drop 1 t) (digits_read l true (drop 1 t)) (digits_of_lem l true (drop 1 t) g)))
        (λ (q : eqb (get_or t 0 0) 45 ≡ false).
        let g = rw q at e in
        rw q (digits-within l small false t (digits_read l false t) (digits_of_lem l false t g)))
