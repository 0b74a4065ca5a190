-- Every check stays in its text: it goes on to a place between where it began and the text's end, or stops at a place that is not past the end.
use mathlib.Core.Path.{◌≡◌, refl}
use mathlib.Core.Bool.{Bool, true, false, cond, ◌&&◌}
use mathlib.Core.List.{List}
use Prim.Native.Nat.{ℕ, zero, suc, ◌+◌, ◌≤◌}
use native.Mathlib.Omega.{arith}
use lib.Dec.{leb, eqb}
use lib.ListN.{length, get_or}
use Rattle.text.specs.Names.{all_allowed}
use Rattle.text.specs.Parts.{part}
use Rattle.text.proofs.Cases.{by_le}
use borrow.Author.Tests.{le-leb, lt-leb}
use Rattle.field.specs.declared.Circle.{Circle}
use Rattle.field.specs.declared.Edge.{Edge}
use Rattle.field.specs.Decimal.{all_digits, value}
use Rattle.field.specs.Fields.{room, check_digits, check_delimiter, check_airfield, repeat}
use Rattle.text.specs.Checks.{after, refuse}
use Rattle.field.specs.Boxes.{latitude, longitude, is_letter, below_zero, edge_at, check_edge, check_pair, check_box, north_first}
use Rattle.std.specs.Prelude.{Result, Ok, Err, IfOk}
use Rattle.text.specs.declared.Refusal.{Refusal}
use Rattle.text.specs.declared.Code.{Code}
use Rattle.text.specs.declared.Code.TheVariants.{Disagree, NotAllowed, OtherSpelling, OutOfRange, WrongFixed}

abbrev pub Within : List ℕ → ℕ → Result ℕ Refusal → Type 0
Within s at (Ok p) = (at ≤ p) × (p ≤ length s)
Within s at (Err r) = r.place ≤ length s

module _ (s : List ℕ) where
  either : (at : ℕ) (t : Bool) (x y : Result ℕ Refusal) → Within s at x → Within s at y → Within s at (cond t x y)
  either at true x y h k = h
  either at false x y h k = k

  further : (at p : ℕ) (x : Result ℕ Refusal) → at ≤ p → Within s p x → Within s at x
  further at p (Ok q) h k = (omega arith, k.1)
  further at p (Err r) h k = k

  -- a field of n bytes
  room_within : (n at : ℕ) (seen : Result ℕ Refusal) → at ≤ length s → (at + n ≤ length s → Within s at seen) → Within s at (room n s at seen)
  room_within n at seen h k =
      by_le (at + n) (length s)
      (λ (l : at + n ≤ length s). rw (le-leb (at + n) (length s) l) (k l))
      (λ l. rw (lt-leb (at + n) (length s) l) h)

  -- one check and then another
  pub after-within : (at : ℕ) (x : Result ℕ Refusal) (more : ℕ → Result ℕ Refusal) → Within s at x
      → ((p : ℕ) → x ≡ Ok p → p ≤ length s → Within s p (more p)) → Within s at (after x more)
  after-within at (Ok p) more h k = further at p (more p) h.0 (k p refl h.1)
  after-within at (Err r) more h k = h

  pub digits-within : (code : Code) (w least most at : ℕ) → at ≤ length s → Within s at (check_digits code w least most s at)
  unfolding check_digits
  digits-within code w least most at h =
      let p = part at w s in
      let fits = leb least (value p) && leb (value p) most in
      room_within w at (cond (all_digits p) (cond fits (Ok (at + w)) (refuse code at)) (refuse NotAllowed at)) h
      (λ l.
      either at (all_digits p) (cond fits (Ok (at + w)) (refuse code at)) (refuse NotAllowed at)
      (either at fits (Ok (at + w)) (refuse code at) (omega arith, l) h) h)

  pub delimiter-within : (at : ℕ) → at ≤ length s → Within s at (check_delimiter s at)
  unfolding check_delimiter
  delimiter-within at h =
      let t = eqb (get_or s at 0) 47 in
      room_within 1 at (cond t (Ok (at + 1)) (refuse WrongFixed at)) h
      (λ l. either at t (Ok (at + 1)) (refuse WrongFixed at) (omega arith, l) h)

  pub airfield-within : (at : ℕ) → at ≤ length s → Within s at (check_airfield s at)
  unfolding check_airfield
  airfield-within at h =
      let t = all_allowed (part at 4 s) in
      room_within 4 at (cond t (Ok (at + 4)) (refuse NotAllowed at)) h
      (λ l. either at t (Ok (at + 4)) (refuse NotAllowed at) (omega arith, l) h)

  pub edge-within : (c : Circle) (at : ℕ) → at ≤ length s → Within s at (check_edge c s at)
  unfolding check_edge
  edge-within c at h =
      let d = value (part at c.width s) in
      let l = get_or s (at + c.width) 0 in
      let end = Ok (at + (c.width + 1)) in
      let most = cond (leb d c.most) end (refuse OutOfRange at) in
      let zero-last = cond (below_zero c d l) (refuse OtherSpelling at) most in
      let fine = all_digits (part at c.width s) && is_letter c l in
      room_within (c.width + 1) at (cond fine zero-last (refuse NotAllowed at)) h
      (λ k.
      either at fine zero-last (refuse NotAllowed at)
      (either at (below_zero c d l) (refuse OtherSpelling at) most h (either at (leb d c.most) end (refuse OutOfRange at) (omega arith, k) h)) h)

  pub pair-within : (c : Circle) (o : Edge → Edge → Bool) (at : ℕ) → at ≤ length s → Within s at (check_pair c o s at)
  unfolding check_pair
  pair-within c o at h =
      after-within at (check_edge c s at) (λ second. after (check_edge c s second) (last second)) (edge-within c at h)
      (λ second e k.
      after-within second (check_edge c s second) (last second) (edge-within c second k)
      (λ end f l. either end (o (edge_at c s at) (edge_at c s second)) (Ok end) (refuse Disagree second) (omega arith, l) k))
    where
      last : ℕ → ℕ → Result ℕ Refusal
      last second end = cond (o (edge_at c s at) (edge_at c s second)) (Ok end) (refuse Disagree second)

  pub box-within : (at : ℕ) → at ≤ length s → Within s at (check_box s at)
  unfolding check_box
  box-within at h =
      after-within at (check_pair latitude north_first s at) (λ west. after (check_edge longitude s west) (check_edge longitude s)) (pair-within latitude north_first at h)
      (λ west e k.
      after-within west (check_edge longitude s west) (check_edge longitude s) (edge-within longitude west k)
      (λ east f l. edge-within longitude east l))

  -- where a check goes on is in the text
  pub inside : (at : ℕ) (x : Result ℕ Refusal) → Within s at x → IfOk x (λ p. p ≤ length s)
  inside at (Ok p) h = h.1
  inside at (Err r) h = tt

  pub airfield_inside : (at : ℕ) → at ≤ length s → IfOk (check_airfield s at) (λ p. p ≤ length s)
  airfield_inside at h = inside at (check_airfield s at) (airfield-within at h)

  pub box_inside : (at : ℕ) → at ≤ length s → IfOk (check_box s at) (λ p. p ≤ length s)
  box_inside at h = inside at (check_box s at) (box-within at h)

  -- n fields of one kind, where each stays in the text
  pub repeat-within : (check : ℕ → Result ℕ Refusal) → ((p : ℕ) → p ≤ length s → Within s p (check p))
      → (n at : ℕ) → at ≤ length s → Within s at (repeat check n at)
  unfolding repeat
  repeat-within check each zero at h = (omega arith, h)
  repeat-within check each (suc n) at h =
      after-within at (check at) (repeat check n) (each at h) (λ p e k. repeat-within check each n p k)
