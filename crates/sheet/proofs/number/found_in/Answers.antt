use native.Mathlib.Omega.{arith}
use native.Mathlib.Nat.{pow-le-pow_right, pow-suc}
use native.Mathlib.Numerals.{add-one}
use Prim.Native.Nat.{◌+◌, ◌*◌, ◌^◌, ◌≤◌, ◌<◌}
use mathlib.Core.Path.{◌≡◌, sym, ◌∙◌}
use lib.Dec.{lit<}
use Rattle.sheet.proofs.Scan.{value_turn, value_end}
use Rattle.sheet.proofs.Counted.{spaces_turn, spaces_end, count_turn, count_end}
use Rattle.sheet.proofs.number.found_in.Goals as goal
use Rattle.sheet.proofs.number.found_in.Goals.{In-loop-i}

room : (c : In-loop-i) → c.loop-i.n * 10 + 207 < 2 ^ 31
room c =
    let h : c.loop-i.i ≤ 5 = omega (arith, c.requires) in
    omega (arith, c.loop-i.invariant.1, pow-le-pow_right {n = 10} (lit< tt) {i = c.loop-i.i} {j = 5} h)

pub loop-i-preserved : goal.loop-i-preserved
loop-i-preserved c =
    let f = c.args.f.now in
    let l = c.loop-i in
    let t = c.loop-i-test.true in
    let power : 10 ^ (l.i + 1) ≡ 10 * 10 ^ l.i = rw (add-one, pow-suc) (omega arith) in (
      omega arith,
      omega (arith, l.invariant.1, power, c.worth.ensures.1),
      omega (arith, l.invariant.2, c.one_if-digits.ensures.1),
      rw c.one_if-spaces.ensures.0 (spaces_turn f l.i l.spaces t l.invariant.3),
      rw (c.one_if-digits.ensures.0, c.is_digit.ensures) (l.invariant.4 ∙ count_turn f l.i l.digits t),
      rw c.worth.ensures.0 (l.invariant.5 ∙ value_turn f l.i l.n t),
    )

pub returns : goal.returns
returns c =
    let l = c.loop-i in
    let f = c.args.f.now in
    let end = c.loop-i-test.false in
    (spaces_end f l.i l.spaces end l.invariant.0 l.invariant.3, (sym (l.invariant.4 ∙ count_end f l.i l.digits end), sym (l.invariant.5 ∙ value_end f l.i l.n end)))
