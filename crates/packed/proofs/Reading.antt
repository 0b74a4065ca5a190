-- The reader's answer, from a decoded field, and from a second look at one that is refused.
use mathlib.Core.Path.{◌≡◌, sym, ◌∙◌}
use mathlib.Core.Bool.{true, false}
use mathlib.Core.List.{List}
use Prim.Native.Nat.{ℕ, ◌-◌, ◌≤◌, ◌<◌}
use native.Mathlib.Omega.{arith}
use lib.ListN.{length}
use Rattle.text.proofs.Cases.{by_test}
use Rattle.packed.specs.Packed.{Figure, read_packed, spelt, width_ok, all_solidi, trim, number, holds, figure_of, is_solidus, ahead, fault_behind}
use Rattle.packed.specs.Decoding.{uncoded, meant, decoded}
use Rattle.packed.specs.Inner.{refused_field}
use Rattle.packed.proofs.Decoding.{decoded-read}
use Rattle.packed.proofs.Fault.{run, solidus_run, behind-inside, behind-whole, fault-solidi, fault-behind}
use Rattle.std.specs.Prelude.{Option, Some, None, Result, Ok, Err}
use Rattle.text.specs.declared.Code.TheVariants.{NotAllowed, OtherSpelling}
use Rattle.text.specs.declared.Refusal.{Refusal}

no-refusal : {P : Type 0} {x : Figure} → ◌≡◌ {A = Option Figure} (Some x) None → P
no-refusal e = let z : ◌≡◌ {A = ℕ} 0 1 = cc in absurd (omega arith)

-- ---- what is not refused is what it is decoded as

uncoded-is : (p : Result Figure Refusal) (x : Figure) → uncoded p ≡ Some x → p ≡ Ok x
uncoded-is (Ok y) x e = let same : y ≡ x = cc in rw same
uncoded-is (Err r) x e = no-refusal (sym e)

pub read_is : (f : List ℕ) (x : Figure) → meant (decoded f) ≡ Some x → read_packed f ≡ Ok x
read_is f x e = uncoded-is (read_packed f) x (decoded-read f ∙ e)

-- ---- and any other field of a width is refused with 4, or with 6 where it has more digits than hold the figure

pub read-refused : (f : List ℕ) → width_ok (length f) ≡ true → meant (decoded f) ≡ None → read_packed f ≡ Err (refused_field f)
unfolding read_packed refused_field spelt
read-refused f w e =
    let n = number 0 (trim f) in
    let k = length (trim f) in
    let r : uncoded (read_packed f) ≡ None = decoded-read f ∙ e in
    by_test (all_solidi f)
    (λ (s : all_solidi f ≡ true). no-refusal (rw (w, s) at r))
    (λ (s : all_solidi f ≡ false).
    by_test (run f)
    (λ (t : run f ≡ true).
    by_test (holds (k - 1) (figure_of n k))
    (λ (h : holds (k - 1) (figure_of n k) ≡ true). rw (w, s, t, h))
    (λ (h : holds (k - 1) (figure_of n k) ≡ false). no-refusal (rw (w, s, t, h) at r)))
    (λ (t : run f ≡ false). rw (w, s, t)))

-- ---- the second look

pub refused-solidi : (f : List ℕ) → 0 < ahead is_solidus f → record { code = NotAllowed; place = ahead is_solidus f } ≡ refused_field f
unfolding refused_field
refused-solidi f h = rw (solidus_run f h, fault-solidi f h)

pub refused-place : (f : List ℕ) → ahead is_solidus f ≤ 0 → fault_behind f < length f → record { code = NotAllowed; place = fault_behind f } ≡ refused_field f
unfolding refused_field
refused-place f s h =
    by_test (run f)
    (λ (t : run f ≡ true). absurd (omega (arith, behind-whole f t)))
    (λ (t : run f ≡ false). rw (t, fault-behind f s))

pub refused-more : (f : List ℕ) → 1 ≤ length f → length f ≤ fault_behind f → record { code = OtherSpelling; place = 0 } ≡ refused_field f
unfolding refused_field
refused-more f s h =
    by_test (run f)
    (λ (t : run f ≡ true). rw t)
    (λ (t : run f ≡ false). absurd (omega (arith, behind-inside f s t)))
