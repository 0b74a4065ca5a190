use borrow.Author.Rules.{rules}
use Prim.Native.Nat.{◌-◌}
use mathlib.Core.Path.{refl, sym, ◌∙◌}
use lib.ListN.{length-set}
use lib.Seq.{drop-length}
use Rattle.packed.proofs.Put.{spell-step, spell_end}
use native.Mathlib.Omega.{arith}
use Rattle.packed.proofs.write.spell_into.Goals as goal

pub loop-i-init : goal.loop-i-init
loop-i-init c = (search rules, refl, rw (drop-length c.args.out.now))

pub loop-i-preserved : goal.loop-i-preserved
loop-i-preserved c = (
  rw (length-set c.loop-i.out (c.loop-i.i - 1) c.digit.result) (omega arith),
  rw (length-set c.loop-i.out (c.loop-i.i - 1) c.digit.result) c.loop-i.invariant.1,
  c.loop-i.invariant.2 ∙ rw (c.digit.ensures, c.low.ensures) (spell-step _ _ _ c.loop-i-test.true c.loop-i.invariant.0),
)

pub returns : goal.returns
returns c = sym (c.loop-i.invariant.2 ∙ spell_end _ _ _ c.loop-i-test.false)
