use native.Mathlib.Omega.{arith}
use mathlib.Core.Path.{◌≡◌, refl, sym, ap, ◌∙◌}
use mathlib.Core.Bool.{cond}
use Prim.Native.Nat.{ℕ, ◌+◌, ◌-◌, ◌*◌, ◌<◌}
use lib.ListN.{drop, length-drop}
use Rattle.commute.specs.Commute.{flag_apart, flag_numbers, bits_of}
use Rattle.commute.proofs.Bits.{byte_is, bit-most, bits_under}
use Rattle.commute.proofs.Turns.{flag_turn}
use Rattle.commute.proofs.flags_apart.Goals as goal
use Rattle.commute.proofs.flags_apart.Goals.{In-loop-i}

-- the bits so far leave room for one more
small : (c : In-loop-i) → c.loop-i.bits < 128
small c =
    let l = c.loop-i in
    let a = c.args in
    omega (arith, l.invariant, bits_under (flag_apart a.a.now a.b.now) (drop l.i flag_numbers) 7 (omega (arith, length-drop l.i flag_numbers)))

pub loop-i-init : goal.loop-i-init
unfolding bits_of
loop-i-init c = refl

pub overflow_mul-bits : goal.overflow_mul-bits
overflow_mul-bits c = omega (arith, small (goal.at.overflow_mul-bits c).In-loop-i)

pub overflow_add-bits : goal.overflow_add-bits
overflow_add-bits c =
    omega (arith, small (goal.at.overflow_add-bits c).In-loop-i, c.from.ensures ∙ byte_is c.is_apart.result, bit-most c.is_apart.result)

pub loop-i-preserved : goal.loop-i-preserved
loop-i-preserved c =
    let l = c.loop-i in
    let a = c.args in
    let test = flag_apart a.a.now a.b.now in
    let e : l.i - 1 + 1 ≡ l.i = omega arith in
    rw (l.invariant, c.from.ensures ∙ byte_is c.is_apart.result, c.is_apart.ensures)
    (sym
    (flag_turn test (l.i - 1) (omega arith)
    ∙ ap (λ (n : ℕ). 2 * bits_of test (drop n flag_numbers) + cond (test (l.i - 1)) 1 0) e))
