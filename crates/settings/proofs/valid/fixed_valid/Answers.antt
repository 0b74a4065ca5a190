use native.Mathlib.Omega.{arith}
use mathlib.Core.Path.{◌≡◌, sym, ◌∙◌}
use mathlib.Core.Bool.{and_assoc, and-true}
use Prim.Native.Nat.{suc, ◌+◌, ◌-◌}
use Rattle.settings.specs.Inner.{fixed_valid}
use Rattle.settings.proofs.ByNumber.{pass_eight}
use Rattle.settings.proofs.Pieces.{ok-fine}
use Rattle.settings.proofs.valid.fixed_valid.Goals as goal

pub loop-k-preserved : goal.loop-k-preserved
unfolding fixed_valid
loop-k-preserved c =
    let l = c.loop-k in
    let x = c.args.x in
    let k = c.loop-k.k in
    let one : 10 - k ≡ suc (10 - (k + 1)) = omega (arith, c.loop-k-test.true) in
    let next : k + 1 ≡ suc k = omega arith in
    let p = rw c.numbers_of.ensures.0 at c.pass_numbers.ensures.0 in
    l.invariant ∙ rw (one, c.is_ok-fine.ensures.value, ok-fine, p ∙ pass_eight x 0 k l.auto.k, next) (sym (and_assoc l.fine _ _))

pub returns : goal.returns
unfolding fixed_valid
returns c =
    let l = c.loop-k in
    let none : 10 - l.k ≡ 0 = omega (arith, c.loop-k-test.false) in
    sym (l.invariant ∙ rw none (and-true l.fine))
