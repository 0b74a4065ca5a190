use native.Mathlib.Omega.{arith}
use mathlib.Core.Path.{sym, ◌∙◌}
use Rattle.std.proofs.lemmas.Result.{err_from_is_err_and}
use Rattle.section.proofs.Short.{reached}
use Rattle.command_write.proofs.Writing.{numbered_stop, numbered_on, numbered_end}
use Rattle.command_write.proofs.record.pass_numbered.Goals as goal

pub returns-in_err-at : goal.returns-in_err-at
returns-in_err-at c =
    let a = c.args in
    let e = rw c.wide.ensures at c.pass_fixed.ensures.0 in
    let p = err_from_is_err_and c.from_residual.result c.from_residual.ensures.1 in
    rw (p.1, p.2)
    (sym (c.loop-k.invariant.1 ∙ numbered_stop a.x a.named c.loop-k.k (omega arith) c.loop-k-test.true c.loop-k.at _ (sym e ∙ c.in_err-at.was)))

pub loop-k-preserved : goal.loop-k-preserved
loop-k-preserved c =
    let a = c.args in
    let e = rw c.wide.ensures at c.pass_fixed.ensures.0 in
    let far = reached _ _ _ c.pass_fixed.ensures.1 c.in_ok-at.was in (
      omega (arith, far),
      c.loop-k.invariant.1 ∙ numbered_on a.x a.named c.loop-k.k (omega arith) c.loop-k-test.true c.loop-k.at _ (sym e ∙ c.in_ok-at.was),
    )

pub returns : goal.returns
returns c =
    let l = c.loop-k in
    sym (l.invariant.1 ∙ numbered_end c.args.x c.args.named l.k l.at c.loop-k-test.false)
