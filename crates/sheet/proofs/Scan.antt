-- Steps of the loops over a number's bytes.
use mathlib.Core.Path.{◌≡◌, refl, ap, ◌∙◌}
use mathlib.Core.Bool.{Bool, true, false, cond, ◌&&◌}
use mathlib.Core.List.{List, [], ◌∷◌, ◌++◌, append_assoc}
use Prim.Native.Nat.{ℕ, ◌+◌, ◌-◌, ◌*◌, ◌≤◌, ◌<◌}
use native.Mathlib.Omega.{arith}
use native.Mathlib.Numerals.{add-one}
use lib.Dec.{leb, ltb, eqb}
use lib.ListN.{length, get_or, set, take, drop, length-drop, drop_of_length-le, take-append-drop}
use lib.Seq.{drop-set-lt, take-suc, take-suc-set, set_split}
use borrow.Author.Tests.{eq-eqb, ne_eqb, eqb-false, leb-true}
use Rattle.field.proofs.Decimal.{digit_low}
use Rattle.text.proofs.Cases.{both_left, both_right}
use Rattle.packed.proofs.Scan.{next}
use Rattle.field.specs.Decimal.{is_digit, all_digits, value, value_from}
use Rattle.sheet.specs.declared.Limits.{Limits}
use Rattle.sheet.specs.Number.{within, zero_first, blanked, marked}

-- ---- what digits spell

pub value_turn : (s : List ℕ) (i n : ℕ) → i < length s → value_from n (drop i s) ≡ value_from (n * 10 + (get_or s i 0 - 48)) (drop (i + 1) s)
unfolding value_from
value_turn s i n h = rw (next s i h)

pub value_end : (s : List ℕ) (i n : ℕ) → length s ≤ i → value_from n (drop i s) ≡ n
unfolding value_from
value_end s i n h = rw (drop_of_length-le s {i = i} h)

-- ---- spaces for zeros, and the sign

two-more : (l : List ℕ) (i : ℕ) → i + 1 < length l → drop i l ≡ get_or l i 0 ∷ get_or l (i + 1) 0 ∷ drop (i + 1 + 1) l
two-more l i h = next l i (omega arith) ∙ ap (λ (r : List ℕ). get_or l i 0 ∷ r) (next l (i + 1) h)

-- a zero before other digits becomes a space
pub blank_turn : (l : List ℕ) (i : ℕ) → i + 1 < length l → get_or l i 0 ≡ 48
    → take i l ++ blanked (drop i l) ≡ take (i + 1) (set l i 32) ++ blanked (drop (i + 1) (set l i 32))
unfolding blanked
blank_turn l i h e =
    let front : take (i + 1) (set l i 32) ≡ take i l ++ (32 ∷ []) = rw add-one (take-suc-set l i 32 (omega arith)) in
    let rest : drop (i + 1) (set l i 32) ≡ drop (i + 1) l = drop-set-lt (i + 1) l i 32 (omega arith) in
    rw (front, rest, two-more l i h, eq-eqb (get_or l i 0) 48 e, append_assoc (take i l) (32 ∷ []) (blanked (drop (i + 1) l)), next l (i + 1) h)

-- any other byte ends them
pub blank_stop : (l : List ℕ) (i : ℕ) → i + 1 < length l → (get_or l i 0 ≡ 48 → ⊥) → take i l ++ blanked (drop i l) ≡ l
unfolding blanked
blank_stop l i h e =
    let same : blanked (drop i l) ≡ drop i l = rw (two-more l i h, ne_eqb (get_or l i 0) 48 e) in
    rw same (take-append-drop i l)

short-blanked : (l : List ℕ) → length l ≤ 1 → blanked l ≡ l
unfolding blanked
short-blanked [] h = refl
short-blanked (b ∷ []) h = refl
short-blanked (b ∷ c ∷ l) h = absurd (omega arith)

pub blank_end : (l : List ℕ) (i : ℕ) → length l ≤ i + 1 → take i l ++ blanked (drop i l) ≡ l
blank_end l i h = rw (short-blanked (drop i l) (omega (arith, length-drop i l))) (take-append-drop i l)

-- a space before another is passed
pub mark_turn : (l : List ℕ) (i : ℕ) → i + 1 < length l → get_or l (i + 1) 0 ≡ 32
    → take i l ++ marked (drop i l) ≡ take (i + 1) l ++ marked (drop (i + 1) l)
unfolding marked
mark_turn l i h e =
    let front : take (i + 1) l ≡ take i l ++ (get_or l i 0 ∷ []) = rw add-one (take-suc l i 0 (omega arith)) in
    rw (front, two-more l i h, eq-eqb (get_or l (i + 1) 0) 32 e, append_assoc (take i l) (get_or l i 0 ∷ []) (marked (drop (i + 1) l)), next l (i + 1) h)

-- the last of them becomes the sign
pub mark_stop : (l : List ℕ) (i : ℕ) → i + 1 < length l → (get_or l (i + 1) 0 ≡ 32 → ⊥) → take i l ++ marked (drop i l) ≡ set l i 45
unfolding marked
mark_stop l i h e =
    let seam : set l i 45 ≡ take i l ++ 45 ∷ drop (i + 1) l = rw add-one (set_split l i 45 (omega arith)) in
    rw (seam, two-more l i h, ne_eqb (get_or l (i + 1) 0) 32 e, next l (i + 1) h)

short-marked : (l : List ℕ) → length l ≤ 1 → marked l ≡ l
unfolding marked
short-marked [] h = refl
short-marked (b ∷ []) h = refl
short-marked (b ∷ c ∷ l) h = absurd (omega arith)

pub mark_end : (l : List ℕ) (i : ℕ) → length l ≤ i + 1 → take i l ++ marked (drop i l) ≡ l
mark_end l i h = rw (short-marked (drop i l) (omega (arith, length-drop i l))) (take-append-drop i l)

-- ---- numbers that fit

value-least : (ds : List ℕ) (n : ℕ) → n ≤ value_from n ds
unfolding value_from
value-least [] n = omega arith
value-least (b ∷ ds) n = omega (arith, value-least ds (n * 10 + (b - 48)))

-- digits that begin with none are worth more than nothing
pub value_positive : (ds : List ℕ) → ltb 0 (length ds) ≡ true → all_digits ds ≡ true → zero_first true ds ≡ false → 0 < value ds
unfolding all_digits value_from
value_positive [] some all e = let z : ◌≡◌ {A = ℕ} 0 1 = ap (λ (t : Bool). cond t 1 0) some in absurd (omega arith)
value_positive (b ∷ ds) some all e =
    let low : 48 ≤ b = digit_low b (both_left (is_digit b) (all_digits ds) all) in
    let other : b ≡ 48 → ⊥ = eqb-false b 48 (one_left (eqb b 48) e) in
    omega (arith, value-least ds (0 * 10 + (b - 48)))
  where
    one_left : (t : Bool) → (t && true) ≡ false → t ≡ false
    one_left true e = e
    one_left false e = refl

-- within limits of 16 bits it is held in 16 bits
pub within-small : (l : Limits) (below : Bool) (v : ℕ) → (l.below ≤ 32768) × (l.most ≤ 32767) → within l below v ≡ true → v ≤ 32768
unfolding within
within-small l true v h e = omega (arith, leb-true v l.below e)
within-small l false v h e = omega (arith, leb-true v l.most (both_right (leb l.least v) (leb v l.most) e))
