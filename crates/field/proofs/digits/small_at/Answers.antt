use native.Mathlib.Omega.{arith}
use Prim.Native.Nat.{ℕ, ◌≤◌, ◌<◌, ◌+◌, ◌-◌, ◌*◌}
use lib.ListN.{take, drop, get_or}
use lib.Dec.{lit<, lit≤}
use lib.Arith.{digits_lt}
use mathlib.Core.Path.{◌≡◌, refl, sym, ◌∙◌}
use native.Mathlib.Nat.{pow-suc}
use native.Mathlib.Numerals.{add-one}
use Rattle.text.specs.Parts.{part}
use Rattle.field.specs.Decimal.{value}
use Rattle.field.proofs.Decimal.{digit_low, digit-high, digits-next, value-step, value_end, part_cut}
use Rattle.field.proofs.digits.small_at.Goals as goal
use Rattle.field.proofs.digits.small_at.Goals.{After-loop-b}

-- one byte and one zero more: the digit behind what was read
one_more : (n z b : ℕ) → z ≤ n → 48 ≤ b → n * 10 + b - (z * 10 + 48) ≡ (n - z) * 10 + (b - 48)
one_more n z b h l = omega arith

pub loop-b-init : goal.loop-b-init
loop-b-init c = (lit≤ tt, lit< tt, lit≤ tt, rw (part_cut c.args.s.now c.args.at c.args.w) c.requires.s_value, refl)

pub loop-b-preserved : goal.loop-b-preserved
loop-b-preserved c =
    let a = c.args in
    let l = c.loop-b in
    let ds = take (a.at + a.w - a.at) (drop a.at a.s.now) in
    let byte : ℕ = get_or ds l.b-index 0 in
    let next = digits-next ds l.b-index c.loop-b-test.true l.invariant.3 in
    let low : 48 ≤ byte = digit_low byte next.0 in
    let high : byte ≤ 57 = digit-high byte next.0 in
    let d : byte - 48 < 10 = omega arith in
    let m = one_more l.bytes l.zeros byte l.invariant.0 low in (
      omega (arith, l.invariant.0),
      rw (m, add-one, pow-suc) (digits_lt l.invariant.1 d),
      rw (add-one, pow-suc) (omega (arith, l.invariant.2)),
      next.1,
      rw m (l.invariant.4 ∙ value-step ds l.b-index c.loop-b-test.true (l.bytes - l.zeros)),
    )

-- what was read is the whole
whole : (c : After-loop-b)
    → let a = c.args in
    value (part a.at a.w a.s.now) ≡ c.loop-b.bytes - c.loop-b.zeros
whole c =
    let a = c.args in
    let l = c.loop-b in
    rw (← part_cut a.s.now a.at a.w) (l.invariant.4 ∙ value_end _ l.b-index c.loop-b-test.false (l.bytes - l.zeros))

pub overflow_cast-result : goal.overflow_cast-result
overflow_cast-result c = rw (← whole (goal.at.overflow_cast-result c).After-loop-b) (omega (arith, c.requires.s_bound))

pub returns : goal.returns
returns c = sym (whole (goal.at.returns c).After-loop-b)
