use native.Mathlib.Omega.{arith}
use Prim.Native.Nat.{ℕ, ◌<◌, ◌+◌, ◌-◌}
use lib.ListN.{take, drop, get_or}
use lib.Arith.{digits_lt}
use mathlib.Core.Path.{◌≡◌, sym, ◌∙◌}
use mathlib.Core.Bool.{true}
use native.Mathlib.Nat.{pow-suc}
use native.Mathlib.Numerals.{add-one}
use Rattle.field.specs.Decimal.{is_digit}
use Rattle.field.specs.Steps.{number_or}
use Rattle.field.proofs.Decimal.{digit_low, digit-high, digits_step, digits_stop, digits_end, value-step, value_end, part_cut}
use Rattle.field.proofs.digits.number_at.Goals as goal

pub returns-then-not-is_digit : goal.returns-then-not-is_digit
unfolding number_or
returns-then-not-is_digit c =
    let a = c.args in
    let l = c.loop-b in
    rw (← part_cut a.s.now a.at a.w, l.invariant.1 ∙ digits_stop _ l.b-index c.loop-b-test.true (sym c.is_digit.ensures ∙ c.if-not-is_digit.true))

pub loop-b-preserved : goal.loop-b-preserved
loop-b-preserved c =
    let a = c.args in
    let l = c.loop-b in
    let t = c.loop-b-test.true in
    let ds = take (a.at + a.w - a.at) (drop a.at a.s.now) in
    let byte : ℕ = get_or ds l.b-index 0 in
    let digit : is_digit byte ≡ true = sym c.is_digit.ensures ∙ c.if-not-is_digit.false in
    let d : byte - 48 < 10 = omega (arith, digit_low byte digit, digit-high byte digit) in (
      rw (add-one, pow-suc, c.worth.ensures) (digits_lt l.invariant.0 d),
      l.invariant.1 ∙ digits_step ds l.b-index t digit,
      rw c.worth.ensures (l.invariant.2 ∙ value-step ds l.b-index t l.n),
    )

pub returns : goal.returns
unfolding number_or
returns c =
    let a = c.args in
    let l = c.loop-b in
    let t = c.loop-b-test.false in
    rw (← part_cut a.s.now a.at a.w, l.invariant.1 ∙ digits_end _ l.b-index t, l.invariant.2 ∙ value_end _ l.b-index t l.n)
