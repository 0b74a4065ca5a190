use native.Mathlib.Omega.{arith}
use Prim.Native.Nat.{ℕ, ◌<◌, ◌+◌, ◌-◌}
use lib.ListN.{take, drop, get_or}
use lib.Arith.{digits_lt}
use lib.Dec.{lit<}
use mathlib.Core.Path.{refl, ◌∙◌}
use native.Mathlib.Nat.{pow-suc}
use native.Mathlib.Numerals.{add-one}
use Rattle.field.proofs.Decimal.{digit_low, digit-high, digits-next, value-step, value_end, part_cut}
use Rattle.field.proofs.digits.value_at.Goals as goal

pub loop-b-init : goal.loop-b-init
loop-b-init c = (lit< tt, rw (part_cut c.args.s.now c.args.at c.args.w) c.requires.s_value, refl)

pub worth-requires : goal.worth-requires
worth-requires c = let l = c.loop-b in digit_low _ (digits-next _ l.b-index c.loop-b-test.true l.invariant.1).0

pub loop-b-preserved : goal.loop-b-preserved
loop-b-preserved c =
    let a = c.args in
    let l = c.loop-b in
    let ds = take (a.at + a.w - a.at) (drop a.at a.s.now) in
    let byte : ℕ = get_or ds l.b-index 0 in
    let next = digits-next ds l.b-index c.loop-b-test.true l.invariant.1 in
    let d : byte - 48 < 10 = omega (arith, digit-high byte next.0) in (
      rw (add-one, pow-suc, c.worth.ensures) (digits_lt l.invariant.0 d),
      next.1,
      rw c.worth.ensures (l.invariant.2 ∙ value-step ds l.b-index c.loop-b-test.true l.n),
    )

pub returns : goal.returns
returns c =
    let a = c.args in
    let l = c.loop-b in
    rw (← part_cut a.s.now a.at a.w, l.invariant.2 ∙ value_end _ l.b-index c.loop-b-test.false l.n)
