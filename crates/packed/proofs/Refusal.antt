-- Where a refusal points.
use mathlib.Core.Path.{◌≡◌, refl}
use mathlib.Core.Bool.{true, false, ◌&&◌}
use mathlib.Core.List.{List}
use Prim.Native.Nat.{ℕ, ◌-◌, ◌≤◌}
use native.Mathlib.Omega.{arith}
use lib.Dec.{leb, ltb}
use borrow.Author.Tests.{leb-true}
use lib.ListN.{length}
use Rattle.text.proofs.Cases.{by_test, both_right}
use Rattle.packed.specs.Packed.{Figure, read_packed, spelt, width_ok, all_solidi, all_digits, trim, fault, number, holds, figure_of, place_of}
use Rattle.packed.proofs.Fault.{fault-le}
use Rattle.std.specs.Prelude.{Result, Ok, Err}
use Rattle.text.specs.declared.Refusal.{Refusal}

same_place : {r s : Refusal} → ◌≡◌ {A = Result Figure Refusal} (Err r) (Err s) → r.place ≡ s.place
same_place e = cc

no-refusal {ℓ} : {P : Type ℓ} {x : Figure} {r : Refusal} → ◌≡◌ {A = Result Figure Refusal} (Ok x) (Err r) → P
no-refusal e = let z : ◌≡◌ {A = ℕ} 0 1 = cc in absurd (omega arith)

spelt_near : (n k : ℕ) (r : Refusal) → spelt n k ≡ Err r → r.place ≤ 5
unfolding spelt
spelt_near n k r e =
    by_test (holds (k - 1) (figure_of n k))
    (λ (t : holds (k - 1) (figure_of n k) ≡ true). let p = same_place (rw t at e) in omega arith)
    (λ (t : holds (k - 1) (figure_of n k) ≡ false). no-refusal (rw t at e))

-- a refusal's place lies within the widest field
pub refused_near : (f : List ℕ) (r : Refusal) → read_packed f ≡ Err r → r.place ≤ 5
unfolding read_packed
refused_near f r e =
    by_test (width_ok (length f))
    (λ (w : width_ok (length f) ≡ true).
    by_test (all_solidi f)
    (λ (s : all_solidi f ≡ true). no-refusal (rw (w, s) at e))
    (λ (s : all_solidi f ≡ false).
    by_test (ltb 0 (length (trim f)) && all_digits (trim f))
    (λ (t : (ltb 0 (length (trim f)) && all_digits (trim f)) ≡ true).
    spelt_near (number 0 (trim f)) (length (trim f)) r (rw (w, s, t) at e))
    (λ (t : (ltb 0 (length (trim f)) && all_digits (trim f)) ≡ false).
    let p : fault f ≡ r.place = same_place (rw (w, s, t) at e) in
    let b : length f ≤ 5 = leb-true (length f) 5 (both_right (leb 1 (length f)) (leb (length f) 5) w) in
    omega (arith, fault-le f))))
    (λ (w : width_ok (length f) ≡ false). let p = same_place (rw w at e) in omega arith)

-- the same of an answer's place, which is 0 where there is no refusal
pub refusal-place : (f : List ℕ) → place_of (read_packed f) ≤ 5
refusal-place f = go (read_packed f) refl
  where
    go : (p : Result Figure Refusal) → read_packed f ≡ p → place_of p ≤ 5
    go (Ok x) e = omega arith
    go (Err r) e = refused_near f r e
