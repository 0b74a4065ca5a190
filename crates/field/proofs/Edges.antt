-- Edges and pairs of edges by where they lie.
use mathlib.Core.Path.{◌≡◌, refl, ap, ◌∙◌}
use mathlib.Core.Bool.{Bool, true, false, cond}
use mathlib.Core.List.{List, [], ◌∷◌}
use Prim.Native.Nat.{ℕ, ◌+◌, ◌≤◌, ◌<◌}
use native.Mathlib.Omega.{arith}
use native.Mathlib.Nat.{add-zero}
use lib.Dec.{leb, lit≤}
use lib.ListN.{length, get_or}
use borrow.Author.Tests.{le-leb, lt-leb}
use Rattle.text.specs.Parts.{part}
use Rattle.text.proofs.Cases.{by_test, by_le}
use Rattle.text.proofs.Parts.{part_bytes}
use Rattle.field.specs.declared.Circle.{Circle}
use Rattle.field.specs.Decimal.{all_digits, value}
use Rattle.field.specs.Boxes.{latitude, longitude, is_letter, below_zero, line_of, north_first, edge_at, check_edge, check_pair, check_box}
use Rattle.text.specs.Checks.{after, refuse}
use Rattle.field.specs.Steps.{number_or, line_or, edge_line, in_order, two_lines}
use Rattle.field.proofs.Decimal.{part-long, value-small}
use Rattle.std.specs.Prelude.{Result, Ok, Err}
use Rattle.text.specs.declared.Refusal.{Refusal}
use Rattle.text.specs.declared.Code.TheVariants.{NotAllowed, OtherSpelling, OutOfRange, WrongEnd}
use Rattle.text.specs.declared.Code.{Code}

-- the step that an edge's line makes
abbrev step_of : Result ℕ Code → ℕ → ℕ → Result ℕ Refusal
step_of (Ok x) at end = Ok end
step_of (Err code) at end = refuse code at

pushed : (a b d : Bool) (x at end : ℕ)
    → cond a (cond b (refuse OtherSpelling at) (cond d (Ok end) (refuse OutOfRange at))) (refuse NotAllowed at)
    ≡ step_of (cond a (cond b (Err OtherSpelling) (cond d (Ok x) (Err OutOfRange))) (Err NotAllowed)) at end
pushed true true d x at end = refl
pushed true false true x at end = refl
pushed true false false x at end = refl
pushed false b d x at end = refl

wrong_lies {ℓ} : {P : Type ℓ} (code : Code) (x : ℕ) → Err code ≡ Ok x → P
wrong_lies code x e = let z : ◌≡◌ {A = ℕ} 0 1 = cc in absurd (omega arith)

lies_is : (a b d : Bool) (y x : ℕ) → cond a (cond b (Err OtherSpelling) (cond d (Ok y) (Err OutOfRange))) (Err NotAllowed) ≡ Ok x → y ≡ x
lies_is true true d y x e = wrong_lies OtherSpelling x e
lies_is true false true y x e = cc
lies_is true false false y x e = wrong_lies OutOfRange x e
lies_is false b d y x e = wrong_lies NotAllowed x e

module _ (c : Circle) (s : List ℕ) (narrow : c.width ≤ 3) where
  -- where the text has the whole edge, and its digits are digits
  small : (at : ℕ) → at + (c.width + 1) ≤ length s → all_digits (part at c.width s) ≡ true → value (part at c.width s) < 1000
  small at h d = value-small (part at c.width s) (omega (arith, part-long s at c.width (omega arith))) d

  -- an edge's check goes by its line
  edge-step : (at : ℕ) → check_edge c s at ≡ step_of (edge_line c s at) at (at + (c.width + 1))
  unfolding check_edge edge_line line_or number_or
  edge-step at =
      let p = part at c.width s in
      let l = get_or s (at + c.width) 0 in
      by_le (at + (c.width + 1)) (length s)
      (λ (h : at + (c.width + 1) ≤ length s).
      rw (le-leb (at + (c.width + 1)) (length s) h)
      (by_test (all_digits p)
      (λ (d : all_digits p ≡ true).
      rw d
      (pushed (is_letter c l) (below_zero c (value p) l) (leb (value p) c.most) (line_of c (record { degrees = value p; letter = l })) at (at + (c.width + 1))))
      (λ (d : all_digits p ≡ false). rw d)))
      (λ h. rw (lt-leb (at + (c.width + 1)) (length s) h))

  -- and its line is that of the edge which the text says
  edge-line : (at x : ℕ) → edge_line c s at ≡ Ok x → line_of c (edge_at c s at) ≡ x
  unfolding edge_line line_or number_or edge_at
  edge-line at x e =
      let p = part at c.width s in
      let l = get_or s (at + c.width) 0 in
      by_le (at + (c.width + 1)) (length s)
      (λ (h : at + (c.width + 1) ≤ length s).
      let f = rw (le-leb (at + (c.width + 1)) (length s) h) at e in
      by_test (all_digits p)
      (λ (d : all_digits p ≡ true).
      lies_is (is_letter c l) (below_zero c (value p) l) (leb (value p) c.most) (line_of c (record { degrees = value p; letter = l })) x
      (rw d at f))
      (λ (d : all_digits p ≡ false). wrong_lies NotAllowed x (rw d at f)))
      (λ h. wrong_lies WrongEnd x (rw (lt-leb (at + (c.width + 1)) (length s) h) at e))

  -- a pair's check goes by its two lines
  pub pair_lines : (falling : Bool) (at : ℕ)
      → let mid = at + (c.width + 1) in
      check_pair c (in_order falling c) s at ≡ two_lines falling (edge_line c s at) (edge_line c s mid) at mid (mid + (c.width + 1))
  unfolding check_pair
  pair_lines falling at = first (edge_line c s at) refl
    where
      mid : ℕ
      mid = at + (c.width + 1)

      second : (x : ℕ) → edge_line c s at ≡ Ok x → (r : Result ℕ Code) → edge_line c s mid ≡ r
          → check_pair c (in_order falling c) s at ≡ two_lines falling (edge_line c s at) (edge_line c s mid) at mid (mid + (c.width + 1))
      second x e (Err code) f = rw (edge-step at, e, edge-step mid, f)
      second x e (Ok y) f = rw (edge-step at, e, edge-step mid, f, edge-line at x e, edge-line mid y f)

      first : (r : Result ℕ Code) → edge_line c s at ≡ r
          → check_pair c (in_order falling c) s at ≡ two_lines falling (edge_line c s at) (edge_line c s mid) at mid (mid + (c.width + 1))
      first (Err code) e = rw (edge-step at, e)
      first (Ok x) e = second x e (edge_line c s mid) refl

-- a latitude, byte by byte
pub latitude-bytes : (s : List ℕ) (at : ℕ) → at + 3 ≤ length s
    → line_or latitude (number_or (get_or s at 0 ∷ get_or s (at + 1) 0 ∷ [])) (get_or s (at + 2) 0) ≡ edge_line latitude s at
unfolding edge_line
latitude-bytes s at h = rw (le-leb (at + 3) (length s) h, part_bytes 2 at s (omega arith), add-zero at)

-- and a longitude
pub longitude-bytes : (s : List ℕ) (at : ℕ) → at + 4 ≤ length s
    → line_or longitude (number_or (get_or s at 0 ∷ get_or s (at + 1) 0 ∷ get_or s (at + 2) 0 ∷ [])) (get_or s (at + 3) 0) ≡ edge_line longitude s at
unfolding edge_line
longitude-bytes s at h = rw (le-leb (at + 4) (length s) h, part_bytes 3 at s (omega arith), add-zero at)

-- two edges in any order are a pair that nothing is asked of
plain : (x : Result ℕ Refusal) → x ≡ after x Ok
plain (Ok p) = refl
plain (Err r) = refl

either_way : (x : Result ℕ Refusal) (f : ℕ → Result ℕ Refusal) → after x f ≡ after x (λ p. after (f p) Ok)
either_way (Ok p) f = plain (f p)
either_way (Err r) f = refl

pub any_order : (c : Circle) (s : List ℕ) (at : ℕ)
    → after (check_edge c s at) (check_edge c s) ≡ check_pair c (in_order false c) s at
unfolding check_pair
any_order c s at = either_way (check_edge c s at) (check_edge c s)

-- a box is its two pairs
pub box_pairs : (s : List ℕ) (at : ℕ)
    → check_box s at ≡ after (check_pair latitude north_first s at) (check_pair longitude (in_order false longitude) s)
unfolding check_box
box_pairs s at = each (check_pair latitude north_first s at)
  where
    each : (x : Result ℕ Refusal)
        → after x (λ west. after (check_edge longitude s west) (check_edge longitude s))
        ≡ after x (check_pair longitude (in_order false longitude) s)
    each (Ok west) = any_order longitude s west
    each (Err r) = refl

-- the two pairs of a box
pub latitude-lines : (s : List ℕ) (at : ℕ)
    → check_pair latitude north_first s at ≡ two_lines true (edge_line latitude s at) (edge_line latitude s (at + 3)) at (at + 3) (at + 6)
latitude-lines s at =
    let end : at + 3 + 3 ≡ at + 6 = omega arith in
    pair_lines latitude s (lit≤ tt) true at
    ∙ ap (λ (n : ℕ). two_lines true (edge_line latitude s at) (edge_line latitude s (at + 3)) at (at + 3) n) end

pub longitude-lines : (s : List ℕ) (at : ℕ)
    → check_pair longitude (in_order false longitude) s at ≡ two_lines false (edge_line longitude s at) (edge_line longitude s (at + 4)) at (at + 4) (at + 8)
longitude-lines s at =
    let end : at + 4 + 4 ≡ at + 8 = omega arith in
    pair_lines longitude s (lit≤ tt) false at
    ∙ ap (λ (n : ℕ). two_lines false (edge_line longitude s at) (edge_line longitude s (at + 4)) at (at + 4) n) end
