use borrow.Author.Rules.{rules, sfits_of}
use mathlib.Core.Path.{◌≡◌, sym, ◌∙◌}
use mathlib.Core.Bool.{◌&&◌}
use Prim.Native.Nat.{◌-◌, ◌/◌, ◌^◌, ◌≤◌, ◌<◌}
use native.Mathlib.Omega.{arith}
use native.Mathlib.Nat.{mul-le-mul_right, pow-le-pow_right}
use mir.Facts.{to_z-of_z}
use mir.Syntax.{w32}
use lib.Dec.{eqb, lit<}
use lib.ListN.{length, get_or}
use Rattle.packed.specs.Decoding.{step_of, finish_of, decoded}
use Rattle.packed.proofs.Bounds.{cond-le}
use Rattle.packed.proofs.Decoding.{seen, unit-at, in_width, too_short, too_long, turn, ended}
use Rattle.packed.proofs.decode.decode.Goals as goal
use Rattle.packed.proofs.decode.decode.Goals.{After-either-v, then-w-lt1-via-then-w-lt1, then-w-lt1-via-else-w-lt1+then-w-gt5}

-- what a byte adds is a byte
adds : (c : After-either-v) → c.either-v.result ≤ 255
adds c =
    let l = c.loop-i in
    let x : c.worth.result < 256 = search rules in
    let e = cond-le (l.leading && eqb (get_or c.args.f.now l.i 0) 32) 0 c.wide.result 255 (omega arith) (omega (arith, c.wide.ensures)) in
    omega (arith, c.either-v.ensures, e)

pub returns-then-w-lt1 : goal.returns-then-w-lt1
returns-then-w-lt1 c =
    elim c.then-w-lt1.branch [
      | then-w-lt1-via-then-w-lt1 w ↦ c.none.ensures ∙ too_short _ w.if-w-lt1.true
      | then-w-lt1-via-else-w-lt1+then-w-gt5 w ↦ c.none.ensures ∙ too_long _ w.if-w-lt1.false w.if-w-gt5.true
    ]

pub loop-i-init : goal.loop-i-init
loop-i-init c =
    let f = c.args.f.now in
    let w = length f in
    let a : 1 ≤ w = c.if-w-lt1.false in
    let m : w ≤ 5 = c.if-w-gt5.false in
    let u : c.half-first.result / 20 ≡ 40 ^ (w - 1) = rw c.half-first.ensures (unit-at w a) in
    let p = pow-le-pow_right {n = 40} (lit< tt) {i = w - 1} {j = 4} (omega arith) in
    (omega arith, omega (arith, u, p), omega (arith, u, p), omega (arith, u, p), rw u (in_width f a m))

pub overflow_mul-sum : goal.overflow_mul-sum
overflow_mul-sum c =
    let l = c.loop-i in
    record { fits = omega (arith, l.invariant, mul-le-mul_right l.unit (adds (goal.at.overflow_mul-sum c).After-either-v)) }

pub overflow_add-sum : goal.overflow_add-sum
overflow_add-sum c =
    let l = c.loop-i in
    record { fits = omega (arith, l.invariant, mul-le-mul_right l.unit (adds (goal.at.overflow_add-sum c).After-either-v)) }

pub loop-i-preserved : goal.loop-i-preserved
unfolding step_of
loop-i-preserved c =
    let l = c.loop-i in
    let f = c.args.f.now in
    let m = mul-le-mul_right l.unit (adds (goal.at.loop-i-preserved c).After-either-v) in
    let g = cond-le (l.leading && eqb (get_or f l.i 0) 32) (l.unit / 40) l.first 2560000 (omega (arith, l.invariant)) l.invariant.3 in (
      omega arith,
      omega (arith, l.invariant, m),
      omega (arith, l.invariant),
      omega (arith, c.either-first.ensures, g),
      rw (c.either-first.ensures, c.either-v.ensures, c.wide.ensures, c.worth.ensures)
          (l.invariant.4 ∙ turn (seen l.leading l.fine l.solidi l.sum l.first l.unit) f l.i (omega arith)),
    )

pub less-figure-requires : goal.less-figure-requires
less-figure-requires c =
    let x : c.worth-d.result < 256 = search rules in
    let l = c.loop-i in
    record { n_bound = omega (arith, l.invariant, c.wide-2.ensures); h_bound = omega (arith, l.invariant) }

pub overflow_add-sum-2 : goal.overflow_add-sum-2
overflow_add-sum-2 c = record { fits = omega (arith, (less-figure-requires c).n_bound) }

pub overflow_mul-first : goal.overflow_mul-first
overflow_mul-first c = record { fits = omega (arith, c.loop-i.invariant) }

pub returns : goal.returns
unfolding finish_of
returns c =
    let s = c.loop-i in
    let f = c.args.f.now in
    let st = seen s.leading s.fine s.solidi s.sum s.first s.unit in
    let k : s.i ≡ length f - 1 = omega (arith, s.invariant, c.if-w-lt1.false) in
    let d : decoded f ≡ finish_of st (get_or f (length f - 1) 0) = s.invariant.4 ∙ rw k (ended st f (length f - 1) (omega (arith, c.if-w-lt1.false))) in
    rw (
      c.size.ensures,
      to_z-of_z {w = w32} (sfits_of c.less-figure.type_inv),
      c.less-figure.ensures,
      c.wide-2.ensures,
      c.worth-d.ensures,
    )
    (sym d)
