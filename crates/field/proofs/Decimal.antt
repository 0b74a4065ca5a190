-- Decimal numbers: what digits are worth and how a number is spelt, by one law over the width each.
use mathlib.Core.Path.{◌≡◌, refl, ap, ◌∙◌}
use mathlib.Core.Bool.{true, false, ◌&&◌}
use mathlib.Core.List.{List, [], ◌∷◌}
use Prim.Native.Nat.{ℕ, zero, suc, ◌+◌, ◌-◌, ◌*◌, ◌/◌, ◌%◌, ◌^◌, ◌≤◌, ◌<◌}
use native.Mathlib.Omega.{arith}
use native.Mathlib.Nat.{add-zero, zero-add, pow-suc, pow-zero, pow-le-pow_right, mul_assoc}
use native.Mathlib.Numerals.{add-one}
use lib.Arith.{digits_lt}
use lib.Dec.{leb, lit<}
use lib.ListN.{length, get_or, set, take, drop, length-drop, drop_of_length-le}
use lib.Seq.{drop-cons, drop-set-lt, get_or-set_same, lt-length-set, length-take-le}
use borrow.Author.Tests.{le-leb, lt-leb, leb-true}
use Rattle.text.proofs.Cases.{both_left, both_right}
use Rattle.text.specs.Parts.{part}
use Rattle.field.specs.Decimal.{is_digit, all_digits, value_from, value, digits_before, decimal}

-- ---- A byte

pub digit-is : (b : ℕ) → 48 ≤ b → b ≤ 57 → is_digit b ≡ true
digit-is b h k = rw (le-leb 48 b h, le-leb b 57 k)

pub digit-below : (b : ℕ) → b < 48 → is_digit b ≡ false
digit-below b h = rw (lt-leb 48 b h)

pub digit-above : (b : ℕ) → 57 < b → is_digit b ≡ false
digit-above b h = rw (le-leb 48 b (omega arith), lt-leb b 57 h)

pub digit_low : (b : ℕ) → is_digit b ≡ true → 48 ≤ b
digit_low b e = leb-true 48 b (both_left (leb 48 b) (leb b 57) e)

pub digit-high : (b : ℕ) → is_digit b ≡ true → b ≤ 57
digit-high b e = leb-true b 57 (both_right (leb 48 b) (leb b 57) e)

-- ---- A part of a text, digit by digit

-- a part that lies in its text is as long as it says
pub part-long : (s : List ℕ) (at w : ℕ) → at + w ≤ length s → length (part at w s) ≡ w
part-long s at w h = length-take-le w (drop at s) (omega (arith, length-drop at s))

-- the range from at up to at + w is that part
pub part_cut : (s : List ℕ) (at w : ℕ) → take (at + w - at) (drop at s) ≡ part at w s
part_cut s at w = let e : at + w - at ≡ w = omega arith in ap (λ (n : ℕ). take n (drop at s)) e

-- ---- A text, digit by digit

module _ (ds : List ℕ) (i : ℕ) (h : i < length ds) where
  next : drop i ds ≡ get_or ds i 0 ∷ drop (i + 1) ds
  next = rw (add-one, drop-cons ds i 0)

  -- one digit is passed
  pub digits_step : is_digit (get_or ds i 0) ≡ true → all_digits (drop i ds) ≡ all_digits (drop (i + 1) ds)
  unfolding all_digits
  digits_step e = rw (next, e)

  -- where all that is left are digits, the next byte is one, and so are those behind it
  pub digits-next : all_digits (drop i ds) ≡ true → (is_digit (get_or ds i 0) ≡ true) × (all_digits (drop (i + 1) ds) ≡ true)
  unfolding all_digits
  digits-next e =
      let split : (is_digit (get_or ds i 0) && all_digits (drop (i + 1) ds)) ≡ true = rw next at e in
      (both_left (is_digit (get_or ds i 0)) _ split, both_right (is_digit (get_or ds i 0)) _ split)

  -- a byte that is no digit
  pub digits_stop : is_digit (get_or ds i 0) ≡ false → all_digits (drop i ds) ≡ false
  unfolding all_digits
  digits_stop e = rw (next, e)

  -- the digit's worth
  pub value-step : (n : ℕ) → value_from n (drop i ds) ≡ value_from (n * 10 + (get_or ds i 0 - 48)) (drop (i + 1) ds)
  unfolding value_from
  value-step n = rw next

-- nothing is left
module _ (ds : List ℕ) (i : ℕ) (h : length ds ≤ i) where
  pub digits_end : all_digits (drop i ds) ≡ true
  unfolding all_digits
  digits_end = rw (drop_of_length-le ds {i = i})

  pub value_end : (n : ℕ) → value_from n (drop i ds) ≡ n
  unfolding value_from
  value_end n = rw (drop_of_length-le ds {i = i})

-- ---- What digits are worth

value-from-lt : (ds : List ℕ) (n j : ℕ) → n < 10 ^ j → all_digits ds ≡ true → value_from n ds < 10 ^ (j + length ds)
unfolding value_from all_digits
value-from-lt [] n j h e = rw (add-zero j) h
value-from-lt (b ∷ bs) n j h e =
    let p : is_digit b ≡ true = both_left (is_digit b) (all_digits bs) e in
    let low : 48 ≤ b = digit_low b p in
    let high : b ≤ 57 = digit-high b p in
    let d : b - 48 < 10 = omega arith in
    let k : j + suc (length bs) ≡ suc j + length bs = omega arith in
    rw k
    (value-from-lt bs (n * 10 + (b - 48)) (suc j) (rw (pow-suc 10 j) (digits_lt h d)) (both_right (is_digit b) (all_digits bs) e))

-- w digits are worth less than 10^w
pub value-lt : (s : List ℕ) → all_digits s ≡ true → value s < 10 ^ length s
value-lt s e = rw (zero-add (length s)) at (value-from-lt s 0 0 (lit< tt) e)

-- three digits at the most are worth less than 1000
pub value-small : (s : List ℕ) → length s ≤ 3 → all_digits s ≡ true → value s < 1000
value-small s h e = omega (arith, value-lt s e, pow-le-pow_right {n = 10} (lit< tt) {i = length s} {j = 3} h)

-- ---- How a number is spelt

before-length : (w v : ℕ) (ds : List ℕ) → length (digits_before w v ds) ≡ w + length ds
unfolding digits_before
before-length zero v ds = omega arith
before-length (suc w) v ds = before-length w (v / 10) ((48 + v % 10) ∷ ds) ∙ omega arith

-- the digits of a number are as many as they are to be
pub decimal-length : (w v : ℕ) → length (decimal w v) ≡ w
decimal-length w v = before-length w v [] ∙ omega arith

digits-none : all_digits [] ≡ true
unfolding all_digits
digits-none = refl

before-digits : (w v : ℕ) (ds : List ℕ) → all_digits ds ≡ true → all_digits (digits_before w v ds) ≡ true
unfolding digits_before all_digits
before-digits zero v ds e = e
before-digits (suc w) v ds e =
    before-digits w (v / 10) ((48 + v % 10) ∷ ds) (rw (digit-is (48 + v % 10) (omega arith) (omega arith)) e)

-- and are digits
pub decimal-digits : (w v : ℕ) → all_digits (decimal w v) ≡ true
decimal-digits w v = before-digits w v [] digits-none

value_before : (w m v : ℕ) (ds : List ℕ) → v < 10 ^ w → value_from m (digits_before w v ds) ≡ value_from (m * 10 ^ w + v) ds
unfolding digits_before value_from
value_before zero m v ds h =
    let e : m ≡ m * 10 ^ zero + v = rw (pow-zero 10) (omega (arith, rw (pow-zero 10) at h)) in
    ap (λ (n : ℕ). value_from n ds) e
value_before (suc w) m v ds h =
    let p : v < 10 ^ w * 10 = rw (pow-suc 10 w) at h in
    let d : 48 + v % 10 - 48 ≡ v % 10 = omega arith in
    let e : (m * 10 ^ w + v / 10) * 10 + v % 10 ≡ m * 10 ^ suc w + v =
    rw (pow-suc 10 w, ← mul_assoc m (10 ^ w) 10) (omega arith) in
    value_before w m (v / 10) ((48 + v % 10) ∷ ds) (omega arith) ∙ rw d (ap (λ (n : ℕ). value_from n ds) e)

value_none : (n : ℕ) → value_from n [] ≡ n
unfolding value_from
value_none n = refl

-- a number that w digits hold is what its digits are worth
pub value-decimal : (w v : ℕ) → v < 10 ^ w → value (decimal w v) ≡ v
value-decimal w v h = value_before w 0 v [] h ∙ value_none (0 * 10 ^ w + v) ∙ omega arith

-- digits of one worth and of one length are the same
value_same : (ds es : List ℕ) (m n : ℕ) → length ds ≡ length es → all_digits ds ≡ true → all_digits es ≡ true
    → value_from m ds ≡ value_from n es → (m ≡ n) × (ds ≡ es)
unfolding value_from all_digits
value_same [] [] m n l a b e = (e, refl)
value_same [] (y ∷ es) m n l a b e = absurd (omega arith)
value_same (x ∷ ds) [] m n l a b e = absurd (omega arith)
value_same (x ∷ ds) (y ∷ es) m n l a b e =
    let p = both_left (is_digit x) (all_digits ds) a in
    let q = both_left (is_digit y) (all_digits es) b in
    let x-low : 48 ≤ x = digit_low x p in
    let x-high : x ≤ 57 = digit-high x p in
    let y-low : 48 ≤ y = digit_low y q in
    let y-high : y ≤ 57 = digit-high y q in
    let r =
    value_same ds es (m * 10 + (x - 48)) (n * 10 + (y - 48)) (omega arith) (both_right (is_digit x) (all_digits ds) a) (both_right (is_digit y) (all_digits es) b) e in
    let s : m * 10 + (x - 48) ≡ n * 10 + (y - 48) = r.0 in
    let z : x ≡ y = omega arith in
    (omega arith, rw (z, r.1))

-- digits are the one spelling of what they are worth
pub decimal-value : (s : List ℕ) → all_digits s ≡ true → decimal (length s) (value s) ≡ s
decimal-value s e =
    let w = length s in
    (value_same (decimal w (value s)) s 0 0 (decimal-length w (value s)) (decimal-digits w (value s)) e
    (value-decimal w (value s) (value-lt s e))).1

-- ---- Digits, written from the right

-- one digit is stored before those that stand
pub digits_turn : (l : List ℕ) (i v : ℕ) → 0 < i → i ≤ length l
    → digits_before i v (drop i l) ≡ digits_before (i - 1) (v / 10) (drop (i - 1) (set l (i - 1) (48 + v % 10)))
unfolding digits_before
digits_turn l zero v p h = absurd (omega arith)
digits_turn l (suc j) v p h =
    let e : suc j - 1 ≡ j = omega arith in
    let byte : ℕ = 48 + v % 10 in
    let stored : drop j (set l j byte) ≡ byte ∷ drop (suc j) l =
    drop-cons (set l j byte) j 0 (lt-length-set l j byte h) ∙ rw (get_or-set_same l j byte 0 h, drop-set-lt (suc j) l j byte (omega arith)) in
    rw (e, stored)

-- all are stored
pub digits_done : (l : List ℕ) (i v : ℕ) → i ≤ 0 → digits_before i v (drop i l) ≡ l
unfolding digits_before
digits_done l zero v h = refl
digits_done l (suc i) v h = absurd (omega arith)
