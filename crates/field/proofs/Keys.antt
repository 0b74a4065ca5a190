-- A box by the keys of its edges: a key grows as its digits' number does, so its tests are those of the edges.
use mathlib.Core.Path.{◌≡◌, refl, sym, ap, ◌∙◌}
use mathlib.Core.Bool.{Bool, true, false, ◌&&◌, ◌||◌}
use mathlib.Core.List.{List, [], ◌∷◌}
use Prim.Native.Nat.{ℕ, ◌+◌, ◌-◌, ◌*◌, ◌≤◌, ◌<◌}
use native.Mathlib.Omega.{arith}
use lib.Dec.{leb, eqb, lit≤}
use lib.ListN.{length, get_or}
use borrow.Author.Tests.{le-leb, leb-true, ne_eqb}
use Rattle.text.proofs.Cases.{by_test, by_lt, both_left, both_right}
use Rattle.field.specs.declared.Circle.{Circle}
use Rattle.field.specs.declared.Edge.{Edge}
use Rattle.field.specs.Decimal.{is_digit}
use Rattle.field.specs.Boxes.{latitude, longitude, line_of, north_first, check_pair}
use Rattle.field.specs.Steps.{number_or, line_or, in_order, key_of, least_key, key_line, edge_fine, latitudes_fine, longitude_fine, longitudes_fine}
use Rattle.field.proofs.Decimal.{digit-is, digit_low, digit-high}
use Rattle.field.proofs.Number.{two_digits, three_digits}
use Rattle.field.proofs.Edges.{latitude-bytes, longitude-bytes, latitude-lines, longitude-lines}
use Rattle.std.specs.Prelude.{Option, Some, Ok}

-- three digits
record Digits (a b c : ℕ) : Type 0 where
  pub a_low : 48 ≤ a
  pub a_high : a ≤ 57
  pub b-low : 48 ≤ b
  pub b-high : b ≤ 57
  pub c-low : 48 ≤ c
  pub c-high : c ≤ 57

digits_of_lem : (a b c : ℕ) → 48 ≤ a → a ≤ 57 → 48 ≤ b → b ≤ 57 → 48 ≤ c → c ≤ 57 → Digits a b c
digits_of_lem a b c i j k l m n = record { a_low = i; a_high = j; b-low = k; b-high = l; c-low = m; c-high = n }

-- what they spell
abbrev spelt : ℕ → ℕ → ℕ → ℕ
spelt a b c = (a - 48) * 100 + (b - 48) * 10 + (c - 48)

or-true : (t : Bool) → (t || true) ≡ true
or-true true = refl
or-true false = refl

and-false : (t : Bool) → (t && false) ≡ false
and-false true = refl
and-false false = refl

-- the greater key spells the greater number
key-order : (a b c x y z : ℕ) → Digits a b c → Digits x y z → key_of a b c ≤ key_of x y z → spelt a b c ≤ spelt x y z
key-order a b c x y z d e h =
    let i = d.a_low in
    let j = d.a_high in
    let k = d.b-low in
    let l = d.b-high in
    let m = d.c-low in
    let n = d.c-high in
    let i' = e.a_low in
    let j' = e.a_high in
    let k' = e.b-low in
    let l' = e.b-high in
    let m' = e.c-low in
    let n' = e.c-high in
    by_lt a x
    (λ (p : a < x). omega arith)
    (λ (p : x ≤ a).
    by_lt b y (λ (q : b < y). omega arith) (λ (q : y ≤ b). omega arith))

-- ---- One edge

module _ (c : Circle) (a b z l : ℕ) (d : Digits a b z) where
  -- where the least key is reached, the letter is one of the two and zero is not below zero
  lies : (p q r : ℕ) → Digits p q r → spelt p q r ≡ c.most → c.most ≤ 999 → least_key c l ≤ key_of a b z → key_of a b z ≤ key_of p q r
      → line_or c (Some (spelt a b z)) l ≡ Ok (line_of c (record { degrees = spelt a b z; letter = l }))
  unfolding least_key line_or
  lies p q r e m w h k =
      let n = spelt a b z in
      let t : n ≤ c.most = rw m at (key-order a b z p q r d e k) in
      by_test (eqb l c.below)
      (λ (x : eqb l c.below ≡ true).
      let one : 1 ≤ n = key-order 48 48 49 a b z (digits_of_lem 48 48 49 (lit≤ tt) (lit≤ tt) (lit≤ tt) (lit≤ tt) (lit≤ tt) (lit≤ tt)) d (rw x at h) in
      rw (x, or-true (eqb l c.above), ne_eqb n 0 (λ y. absurd (omega arith)), le-leb n c.most t))
      (λ (x : eqb l c.below ≡ false).
      by_test (eqb l c.above)
      (λ (y : eqb l c.above ≡ true). rw (x, y, and-false (eqb n 0), le-leb n c.most t))
      (λ (y : eqb l c.above ≡ false). absurd (omega (arith, rw (x, y) at h, d.a_high, d.b-high, d.c-high))))

least-low : (c : Circle) (l : ℕ) → key_of 48 48 48 ≤ least_key c l
unfolding least_key
least-low c l =
    by_test (eqb l c.below)
    (λ (x : eqb l c.below ≡ true). rw x (lit≤ tt))
    (λ (x : eqb l c.below ≡ false).
    by_test (eqb l c.above)
    (λ (y : eqb l c.above ≡ true). rw (x, y) (lit≤ tt))
    (λ (y : eqb l c.above ≡ false). rw (x, y) (lit≤ tt)))

module _ (c : Circle) (most k digit l : ℕ) (e : edge_fine c most k digit l ≡ true) where
  front : (is_digit digit && leb (least_key c l) k) ≡ true
  front = both_left (is_digit digit && leb (least_key c l) k) (leb k most) e

  fine-digit : is_digit digit ≡ true
  fine-digit = both_left (is_digit digit) (leb (least_key c l) k) front

  fine-least : least_key c l ≤ k
  fine-least = leb-true (least_key c l) k (both_right (is_digit digit) (leb (least_key c l) k) front)

  fine-most : k ≤ most
  fine-most = leb-true k most (both_right (is_digit digit && leb (least_key c l) k) (leb k most) e)

-- the edge that three digits and a letter spell
abbrev edge : ℕ → ℕ → ℕ → ℕ → Edge
edge a b z l = record { degrees = spelt a b z; letter = l }

record Lying (c : Circle) (n : Option ℕ) (a b z l : ℕ) : Type 0 where
  pub digits : Digits a b z
  pub there : line_or c n l ≡ Ok (line_of c (edge a b z l))

-- a latitude
north : (a b l : ℕ) → edge_fine latitude (key_of 48 57 48) (key_of 48 a b) b l ≡ true → Lying latitude (number_or (a ∷ b ∷ [])) 48 a b l
north a b l e =
    let z = fine-digit latitude (key_of 48 57 48) (key_of 48 a b) b l e in
    let low : 48 ≤ b = digit_low b z in
    let high : b ≤ 57 = digit-high b z in
    let h = fine-least latitude (key_of 48 57 48) (key_of 48 a b) b l e in
    let k = fine-most latitude (key_of 48 57 48) (key_of 48 a b) b l e in
    let g = least-low latitude l in
    let a_low : 48 ≤ a = omega arith in
    let a_high : a ≤ 57 = omega arith in
    let d = digits_of_lem 48 a b (lit≤ tt) (lit≤ tt) a_low a_high low high in
    let s : (a - 48) * 10 + (b - 48) ≡ spelt 48 a b = omega arith in
    let n : number_or (a ∷ b ∷ []) ≡ Some (spelt 48 a b) = two_digits a b (digit-is a a_low a_high) z ∙ ap Some s in
    record {
      digits = d;
      there = rw n (lies latitude 48 a b l d 48 57 48 (digits_of_lem 48 57 48 (lit≤ tt) (lit≤ tt) (lit≤ tt) (lit≤ tt) (lit≤ tt) (lit≤ tt)) refl (lit≤ tt) h k);
    }

-- a longitude
west : (a b z l : ℕ) → longitude_fine (key_of a b z) b z l ≡ true → Lying longitude (number_or (a ∷ b ∷ z ∷ [])) a b z l
west a b z l e =
    let y = both_left (is_digit b) (edge_fine longitude (key_of 49 56 48) (key_of a b z) z l) e in
    let f = both_right (is_digit b) (edge_fine longitude (key_of 49 56 48) (key_of a b z) z l) e in
    let x = fine-digit longitude (key_of 49 56 48) (key_of a b z) z l f in
    let b-low : 48 ≤ b = digit_low b y in
    let b-high : b ≤ 57 = digit-high b y in
    let z-low : 48 ≤ z = digit_low z x in
    let z-high : z ≤ 57 = digit-high z x in
    let h = fine-least longitude (key_of 49 56 48) (key_of a b z) z l f in
    let k = fine-most longitude (key_of 49 56 48) (key_of a b z) z l f in
    let g = least-low longitude l in
    let a_low : 48 ≤ a = omega arith in
    let a_high : a ≤ 57 = omega arith in
    let d = digits_of_lem a b z a_low a_high b-low b-high z-low z-high in
    let n : number_or (a ∷ b ∷ z ∷ []) ≡ Some (spelt a b z) = three_digits a b z (digit-is a a_low a_high) y x in
    record {
      digits = d;
      there = rw n (lies longitude a b z l d 49 56 48 (digits_of_lem 49 56 48 (lit≤ tt) (lit≤ tt) (lit≤ tt) (lit≤ tt) (lit≤ tt) (lit≤ tt)) refl (lit≤ tt) h k);
    }

-- ---- Two edges

key-small : (a b c : ℕ) → Digits a b c → key_of a b c ≤ 16777216
key-small a b c d = omega (arith, d.a_high, d.b-high, d.c-high)

key-some : (a b c : ℕ) → Digits a b c → 1 ≤ key_of a b c
key-some a b c d = omega (arith, d.a_low)

mirrored : (k m : ℕ) → k ≤ 16777216 → m ≤ 16777216 → 16777216 - k ≤ 16777216 - m → m ≤ k
mirrored k m i j h = omega arith

below : (m n : ℕ) → m ≤ n → leb (1000 - n) (1000 - m) ≡ true
below m n h = le-leb (1000 - n) (1000 - m) (omega arith)

across : (m n : ℕ) → leb (1000 - m) (1000 + n) ≡ true
across m n = le-leb (1000 - m) (1000 + n) (omega arith)

above : (m n : ℕ) → m ≤ n → leb (1000 + m) (1000 + n) ≡ true
above m n h = le-leb (1000 + m) (1000 + n) (omega arith)

apart {ℓ} : {P : Type ℓ} (k m : ℕ) → 1 ≤ k → 16777216 + k ≤ 16777216 - m → P
apart k m i h = absurd (omega arith)

-- the order of their keys is the order of where they lie
ordered : (c : Circle) (a b z l x y w m : ℕ) → Digits a b z → Digits x y w
    → leb (key_line c l (key_of a b z)) (key_line c m (key_of x y w)) ≡ true
    → leb (line_of c (edge a b z l)) (line_of c (edge x y w m)) ≡ true
unfolding key_line line_of
ordered c a b z l x y w m d e o =
    let k : ℕ = key_of a b z in
    let j : ℕ = key_of x y w in
    by_test (eqb l c.below)
    (λ (p : eqb l c.below ≡ true).
    by_test (eqb m c.below)
    (λ (q : eqb m c.below ≡ true).
    let h = mirrored k j (key-small a b z d) (key-small x y w e) (leb-true (16777216 - k) (16777216 - j) (rw (p, q) at o)) in
    rw (p, q) (below (spelt x y w) (spelt a b z) (key-order x y w a b z e d h)))
    (λ (q : eqb m c.below ≡ false). rw (p, q) (across (spelt a b z) (spelt x y w))))
    (λ (p : eqb l c.below ≡ false).
    by_test (eqb m c.below)
    (λ (q : eqb m c.below ≡ true). apart k j (key-some a b z d) (leb-true (16777216 + k) (16777216 - j) (rw (p, q) at o)))
    (λ (q : eqb m c.below ≡ false).
    let h : 16777216 + k ≤ 16777216 + j = leb-true (16777216 + k) (16777216 + j) (rw (p, q) at o) in
    rw (p, q) (above (spelt a b z) (spelt x y w) (key-order a b z x y w d e (omega (h, arith))))))

-- north not below south
pub latitudes : (s : List ℕ) (at : ℕ) → at + 6 ≤ length s
    → latitudes_fine (get_or s at 0) (get_or s (at + 1) 0) (get_or s (at + 2) 0) (get_or s (at + 3) 0) (get_or s (at + 3 + 1) 0) (get_or s (at + 3 + 2) 0) ≡ true
    → check_pair latitude north_first s at ≡ Ok (at + 6)
latitudes s at room e =
    let a = get_or s at 0 in
    let b = get_or s (at + 1) 0 in
    let l = get_or s (at + 2) 0 in
    let x = get_or s (at + 3) 0 in
    let y = get_or s (at + 3 + 1) 0 in
    let m = get_or s (at + 3 + 2) 0 in
    let first = edge_fine latitude (key_of 48 57 48) (key_of 48 a b) b l in
    let second = edge_fine latitude (key_of 48 57 48) (key_of 48 x y) y m in
    let o = leb (key_line latitude m (key_of 48 x y)) (key_line latitude l (key_of 48 a b)) in
    let both = both_left (first && second) o e in
    let n = north a b l (both_left first second both) in
    let t = north x y m (both_right first second both) in
    latitude-lines s at
    ∙ rw (
      sym (latitude-bytes s at (omega arith)) ∙ n.there,
      sym (latitude-bytes s (at + 3) (omega arith)) ∙ t.there,
      ordered latitude 48 x y m 48 a b l t.digits n.digits (both_right (first && second) o e),
    )

-- longitudes in any order
pub longitudes : (s : List ℕ) (at : ℕ) → at + 8 ≤ length s
    → longitudes_fine (get_or s at 0) (get_or s (at + 1) 0) (get_or s (at + 2) 0) (get_or s (at + 3) 0) (get_or s (at + 4) 0) (get_or s (at + 4 + 1) 0) (get_or s (at + 4 + 2) 0) (get_or s (at + 4 + 3) 0) ≡ true
    → check_pair longitude (in_order false longitude) s at ≡ Ok (at + 8)
longitudes s at room e =
    let a = get_or s at 0 in
    let b = get_or s (at + 1) 0 in
    let z = get_or s (at + 2) 0 in
    let l = get_or s (at + 3) 0 in
    let x = get_or s (at + 4) 0 in
    let y = get_or s (at + 4 + 1) 0 in
    let w = get_or s (at + 4 + 2) 0 in
    let m = get_or s (at + 4 + 3) 0 in
    let first = longitude_fine (key_of a b z) b z l in
    let second = longitude_fine (key_of x y w) y w m in
    let n = west a b z l (both_left first second e) in
    let t = west x y w m (both_right first second e) in
    longitude-lines s at
    ∙ rw (
      sym (longitude-bytes s at (omega arith)) ∙ n.there,
      sym (longitude-bytes s (at + 4) (omega arith)) ∙ t.there,
    )
