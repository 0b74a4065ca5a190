use native.Mathlib.Omega.{arith}
use mathlib.Core.Path.{◌≡◌, refl, sym, ap, ◌∙◌}
use mathlib.Core.Bool.{cond}
use Prim.Native.Nat.{ℕ, ◌+◌, ◌-◌, ◌*◌, ◌<◌}
use lib.ListN.{drop, length-drop}
use Rattle.section.specs.Layout.{numbers}
use Rattle.commute.specs.Commute.{section_apart, bits_of}
use Rattle.commute.proofs.Bits.{byte_is, bit-most, bits_under}
use Rattle.commute.proofs.Turns.{section_turn}
use Rattle.commute.proofs.sections_apart.Goals as goal
use Rattle.commute.proofs.sections_apart.Goals.{In-loop-k}

-- the bits so far leave room for one more
small : (c : In-loop-k) → c.loop-k.bits < 128
small c =
    let l = c.loop-k in
    let a = c.args in
    omega
    (arith, l.invariant, bits_under (section_apart a.a.now.text.now a.b.now.text.now) (drop (l.k - 2) numbers) 7 (omega (arith, length-drop (l.k - 2) numbers)))

pub loop-k-init : goal.loop-k-init
unfolding bits_of
loop-k-init c = refl

pub overflow_mul-bits : goal.overflow_mul-bits
overflow_mul-bits c = omega (arith, small (goal.at.overflow_mul-bits c).In-loop-k)

pub overflow_add-bits : goal.overflow_add-bits
overflow_add-bits c =
    omega
    (arith, small (goal.at.overflow_add-bits c).In-loop-k, c.from.ensures ∙ byte_is c.is_section_apart.result, bit-most c.is_section_apart.result)

pub loop-k-preserved : goal.loop-k-preserved
loop-k-preserved c =
    let l = c.loop-k in
    let a = c.args in
    let test = section_apart a.a.now.text.now a.b.now.text.now in
    let e : l.k - 1 + 1 ≡ l.k = omega arith in
    rw (l.invariant, c.from.ensures ∙ byte_is c.is_section_apart.result, c.is_section_apart.ensures)
    (sym
    (section_turn test (l.k - 1) (omega arith) (omega arith)
    ∙ ap (λ (n : ℕ). 2 * bits_of test (drop (n - 2) numbers) + cond (test (l.k - 1)) 1 0) e))
