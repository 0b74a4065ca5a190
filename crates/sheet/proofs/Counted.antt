-- What one pass over a number's bytes finds, and what it makes of the field.
use mathlib.Core.Path.{◌≡◌, refl, sym, ap, ◌∙◌}
use mathlib.Core.Bool.{Bool, true, false, cond, ◌&&◌}
use mathlib.Core.List.{List, [], ◌∷◌}
use Prim.Native.Nat.{ℕ, suc, ◌+◌, ◌≤◌, ◌<◌}
use native.Mathlib.Omega.{arith}
use native.Mathlib.Nat.{add-zero, zero-add}
use lib.Dec.{ltb, eqb}
use lib.ListN.{length, get_or, drop, length-drop, drop_of_length-le}
use lib.Seq.{drop-drop, get_or-drop}
use borrow.Author.Tests.{eq-eqb, ne_eqb, lt-ltb, le-ltb}
use Rattle.text.proofs.Cases.{by_eq, by_test, both_left, both_right}
use Rattle.packed.specs.Packed.{trim}
use Rattle.packed.proofs.Scan.{next, trim_space, trim-other, trim_end}
use Rattle.field.specs.Decimal.{is_digit, all_digits, value, value_from}
use Rattle.sheet.specs.declared.Limits.{Limits}
use Rattle.sheet.specs.declared.Found.{Found}
use Rattle.sheet.specs.Number.{digits_read, signed_read, number_read}
use Rattle.sheet.specs.Inner.{digit_count, FoundIn}
use Rattle.std.specs.Prelude.{Err}
use Rattle.text.specs.declared.Code.TheVariants.{NotAllowed}

-- ---- the spaces: n of the first i bytes, and where n is less, no more of them count

abbrev pub Behind : List ℕ → ℕ → ℕ → Type 0
Behind f i n = (n ≤ i) × ((n ≡ i → trim f ≡ trim (drop i f)) × (n < i → drop n f ≡ trim f))

pub spaces_turn : (f : List ℕ) (i n : ℕ) → i < length f → Behind f i n → Behind f (i + 1) (n + cond (eqb n i && eqb (get_or f i 0) 32) 1 0)
spaces_turn f i n h (few, (all, some)) =
    by_eq n i
    (λ (e : n ≡ i).
    by_eq (get_or f i 0) 32
    (λ (b : get_or f i 0 ≡ 32).
    rw (eq-eqb n i e, eq-eqb (get_or f i 0) 32 b) (omega arith, (λ (q : n + 1 ≡ i + 1). all e ∙ trim_space f i h b, λ (q : n + 1 < i + 1). absurd (omega arith))))
    (λ (b : get_or f i 0 ≡ 32 → ⊥).
    rw (eq-eqb n i e, ne_eqb (get_or f i 0) 32 b)
    (omega arith, (λ (q : n + 0 ≡ i + 1). absurd (omega arith), λ (q : n + 0 < i + 1). rw (add-zero n, e) (sym (all e ∙ trim-other f i h b))))))
    (λ (e : n ≡ i → ⊥).
    rw (ne_eqb n i e)
    (omega arith, (λ (q : n + 0 ≡ i + 1). absurd (omega arith), λ (q : n + 0 < i + 1). rw (add-zero n) (some (omega arith)))))

pub spaces_end : (f : List ℕ) (i n : ℕ) → length f ≤ i → i ≤ length f → Behind f i n → (n ≤ length f) × (drop n f ≡ trim f)
spaces_end f i n h l (few, (all, some)) =
    by_eq n i
    (λ (e : n ≡ i). (omega arith, rw e (sym (all e ∙ trim_end f i h))))
    (λ (e : n ≡ i → ⊥). (omega arith, some (omega arith)))

-- ---- the digits

pub count_turn : (f : List ℕ) (i n : ℕ) → i < length f → n + digit_count (drop i f) ≡ n + cond (is_digit (get_or f i 0)) 1 0 + digit_count (drop (i + 1) f)
unfolding digit_count
count_turn f i n h = rw (next f i h) (omega arith)

pub count_end : (f : List ℕ) (i n : ℕ) → length f ≤ i → n + digit_count (drop i f) ≡ n
unfolding digit_count
count_end f i n h = rw (drop_of_length-le f {i = i} h) (omega arith)

count-few : (ds : List ℕ) → digit_count ds ≤ length ds
unfolding digit_count
count-few [] = omega arith
count-few (b ∷ ds) = by (is_digit b) (count-few ds)
  where
    by : (t : Bool) → digit_count ds ≤ length ds → cond t 1 0 + digit_count ds ≤ suc (length ds)
    by true h = omega arith
    by false h = omega arith

-- as many as there are bytes: all of them
count-all : (ds : List ℕ) → digit_count ds ≡ length ds → all_digits ds ≡ true
unfolding digit_count all_digits
count-all [] e = refl
count-all (b ∷ ds) e =
    by_test (is_digit b)
    (λ (h : is_digit b ≡ true).
    let rest : digit_count ds ≡ length ds = omega (arith, rw h at e) in
    rw (h, count-all ds rest))
    (λ (h : is_digit b ≡ false).
    let rest : 0 + digit_count ds ≡ suc (length ds) = rw h at e in
    absurd (omega (arith, count-few ds)))

all-count : (ds : List ℕ) → all_digits ds ≡ true → digit_count ds ≡ length ds
unfolding digit_count all_digits
all-count [] e = refl
all-count (b ∷ ds) e =
    let rest = all-count ds (both_right (is_digit b) (all_digits ds) e) in
    rw (both_left (is_digit b) (all_digits ds) e) (omega arith)

-- ---- what stands behind the spaces and the sign

-- 45 is `-`
abbrev is_minus : List ℕ → Bool
is_minus t = eqb (get_or t 0 0) 45

abbrev unsigned : List ℕ → List ℕ
unsigned t = cond (is_minus t) (drop 1 t) t

signed_is : (l : Limits) (t : List ℕ) → signed_read l t ≡ digits_read l (is_minus t) (unsigned t)
unfolding signed_read
signed_is l t = by (is_minus t)
  where
    by : (m : Bool) → cond m (digits_read l true (drop 1 t)) (digits_read l false t) ≡ digits_read l m (cond m (drop 1 t) t)
    by true = refl
    by false = refl

-- spaces are no digits, and spell nothing; nor does the sign
count_trimmed : (f : List ℕ) → digit_count f ≡ digit_count (trim f)
unfolding digit_count trim
count_trimmed [] = refl
count_trimmed (b ∷ f) =
    by_eq b 32
    (λ (e : b ≡ 32). rw (e, zero-add (digit_count f)) (count_trimmed f))
    (λ (e : b ≡ 32 → ⊥). rw (ne_eqb b 32 e))

count-unsigned : (t : List ℕ) → digit_count t ≡ digit_count (unsigned t)
unfolding digit_count
count-unsigned [] = refl
count-unsigned (b ∷ t) =
    by_eq b 45
    (λ (e : b ≡ 45). rw (e, zero-add (digit_count t)))
    (λ (e : b ≡ 45 → ⊥). rw (ne_eqb b 45 e))

value_trimmed : (f : List ℕ) → value f ≡ value (trim f)
unfolding value_from trim
value_trimmed [] = refl
value_trimmed (b ∷ f) =
    by_eq b 32
    (λ (e : b ≡ 32). rw e (value_trimmed f))
    (λ (e : b ≡ 32 → ⊥). rw (ne_eqb b 32 e))

value-unsigned : (t : List ℕ) → value t ≡ value (unsigned t)
unfolding value_from
value-unsigned [] = refl
value-unsigned (b ∷ t) =
    by_eq b 45
    (λ (e : b ≡ 45). rw e)
    (λ (e : b ≡ 45 → ⊥). rw (ne_eqb b 45 e))

count-behind : (f : List ℕ) → digit_count f ≡ digit_count (unsigned (trim f))
count-behind f = count_trimmed f ∙ count-unsigned (trim f)

value-behind : (f : List ℕ) → value f ≡ value (unsigned (trim f))
value-behind f = value_trimmed f ∙ value-unsigned (trim f)

-- ---- by the count of its digits

-- none, or not all: 4
digits_wrong : (l : Limits) (below : Bool) (ds : List ℕ) → (0 < digit_count ds → digit_count ds ≡ length ds → ⊥) → digits_read l below ds ≡ Err NotAllowed
unfolding digits_read
digits_wrong l below ds wrong = rw fails
  where
    fails : (ltb 0 (length ds) && all_digits ds) ≡ false
    fails =
        by_eq (length ds) 0
        (λ (e : length ds ≡ 0). rw (le-ltb 0 (length ds) (omega arith)))
        (λ (e : length ds ≡ 0 → ⊥).
        rw (lt-ltb 0 (length ds) (omega arith))
        (by_test (all_digits ds)
        (λ (h : all_digits ds ≡ true). absurd (wrong (omega (arith, all-count ds h)) (all-count ds h)))
        (λ (h : all_digits ds ≡ false). h)))

-- all
digits_right : (ds : List ℕ) → 0 < digit_count ds → digit_count ds ≡ length ds → (ltb 0 (length ds) ≡ true) × (all_digits ds ≡ true)
digits_right ds h e = (lt-ltb 0 (length ds) (omega arith), count-all ds e)

-- ---- what was found

module _ (f : List ℕ) (r : Found) (found : FoundIn f r) where
  -- whether `-` is there, where the digits begin, and they
  abbrev pub minus : Bool
  minus = eqb (get_or f r.spaces 0) 45

  abbrev pub from : ℕ
  from = r.spaces + cond minus 1 0

  abbrev pub tail : List ℕ
  tail = drop from f

  tail-is : (is_minus (trim f) ≡ minus) × (unsigned (trim f) ≡ tail)
  tail-is = rw (← found.0.1, byte-there) (refl, by minus)
    where
      byte-there : get_or (drop r.spaces f) 0 0 ≡ get_or f r.spaces 0
      byte-there = get_or-drop r.spaces f 0 0 ∙ ap (λ (i : ℕ). get_or f i 0) (add-zero r.spaces)

      by : (m : Bool) → cond m (drop 1 (drop r.spaces f)) (drop r.spaces f) ≡ drop (r.spaces + cond m 1 0) f
      by true = drop-drop 1 r.spaces f
      by false = ap (λ (i : ℕ). drop i f) (sym (add-zero r.spaces))

  pub tail-read : (l : Limits) → number_read l f ≡ digits_read l minus tail
  unfolding number_read
  tail-read l =
      signed_is l (trim f) ∙ ap (λ (m : Bool). digits_read l m (unsigned (trim f))) tail-is.0 ∙ ap (digits_read l minus) tail-is.1

  pub tail-count : r.digits ≡ digit_count tail
  tail-count = found.1.0 ∙ count-behind f ∙ ap digit_count tail-is.1

  pub tail-value : r.value ≡ value tail
  tail-value = found.1.1 ∙ value-behind f ∙ ap value tail-is.1

  pub tail-first : get_or tail 0 0 ≡ get_or f from 0
  tail-first = get_or-drop from f 0 0 ∙ ap (λ (i : ℕ). get_or f i 0) (add-zero from)

  pub tail_near : 0 < r.digits → from + r.digits ≤ length f
  tail_near h = omega (arith, tail-count, count-few tail, length-drop from f)

  -- as many digits as there are bytes left
  pub tail_all : 0 < r.digits → from + r.digits ≡ length f → (ltb 0 (length tail) ≡ true) × (all_digits tail ≡ true)
  tail_all h e = digits_right tail (omega (arith, tail-count)) (omega (arith, tail-count, length-drop from f))

  pub tail-long : 0 < r.digits → from + r.digits ≡ length f → length tail ≡ r.digits
  tail-long h e = omega (arith, length-drop from f)

  pub tail_none : (l : Limits) → r.digits ≡ 0 → number_read l f ≡ Err NotAllowed
  tail_none l e = tail-read l ∙ digits_wrong l minus tail (λ (h : 0 < digit_count tail) (q : digit_count tail ≡ length tail). omega (arith, tail-count))

  pub tail_wrong : (l : Limits) → 0 < r.digits → (from + r.digits ≡ length f → ⊥) → number_read l f ≡ Err NotAllowed
  tail_wrong l some e =
      tail-read l ∙ digits_wrong l minus tail (λ (h : 0 < digit_count tail) (q : digit_count tail ≡ length tail). e (omega (arith, tail-count, length-drop from f, tail_near some)))
