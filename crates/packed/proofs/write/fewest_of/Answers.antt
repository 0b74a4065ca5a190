use native.Mathlib.Omega.{arith}
use Rattle.packed.proofs.Put.{fewest_stop, fewest-step, fewest_end}
use mathlib.Core.Path.{◌≡◌, sym, ◌∙◌}
use Prim.Native.Nat.{◌+◌, ◌-◌}
use Rattle.packed.proofs.write.fewest_of.Goals as goal

pub half-requires : goal.half-requires
half-requires c = omega (arith, c.requires)

pub returns-then-half-m : goal.returns-then-half-m
returns-then-half-m c =
    let h = rw c.half.ensures at c.if-half-m.true in
    let k : c.loop-j.j - 1 + 1 ≡ c.loop-j.j = omega arith in
    k ∙ sym (c.loop-j.invariant ∙ fewest_stop _ _ c.loop-j-test.true h)

pub loop-j-preserved : goal.loop-j-preserved
loop-j-preserved c =
    let h = rw c.half.ensures at c.if-half-m.false in
    c.loop-j.invariant ∙ fewest-step _ _ c.loop-j-test.true h

pub returns : goal.returns
returns c =
    let e = c.loop-j.invariant ∙ fewest_end _ _ c.loop-j-test.false in
    omega (arith, e)
