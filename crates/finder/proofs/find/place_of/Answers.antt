use native.Mathlib.Omega.{arith}
use mathlib.Core.Path.{sym, ◌∙◌}
use Rattle.std.proofs.lemmas.Result.{err_from_is_err_and}
use Rattle.finder.proofs.Reaching.{reach_stop, reach-on, reach_here, passed-inside}
use Rattle.finder.proofs.find.place_of.Goals as goal

pub returns-in_err-at : goal.returns-in_err-at
returns-in_err-at c =
    let p = err_from_is_err_and c.from_residual.result c.from_residual.ensures.1 in
    rw (p.1, p.2)
    (sym
    (c.loop-k.invariant.1
    ∙ reach_stop _ c.loop-k.k c.loop-k.at _ (omega arith) c.loop-k-test.true c.requires.1 _ (sym c.passed.ensures ∙ c.in_err-at.was)))

pub loop-k-preserved : goal.loop-k-preserved
loop-k-preserved c =
    let e = sym c.passed.ensures ∙ c.in_ok-at.was in (
      passed-inside c.args.s.now c.loop-k.k c.loop-k.at _ c.loop-k.invariant.0 e,
      c.loop-k.invariant.1 ∙ reach-on _ c.loop-k.k c.loop-k.at _ (omega arith) c.loop-k-test.true c.requires.1 _ e,
    )

pub returns : goal.returns
returns c =
    sym (c.loop-k.invariant.1 ∙ reach_here _ c.loop-k.k c.loop-k.at _ (omega arith) (omega arith) c.loop-k-test.false c.requires.1)
