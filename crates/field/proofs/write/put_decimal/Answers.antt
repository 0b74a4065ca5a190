use borrow.Author.Rules.{rules}
use native.Mathlib.Omega.{arith}
use Prim.Native.Nat.{◌-◌}
use mathlib.Core.Path.{refl, sym, ◌∙◌}
use lib.ListN.{length-set}
use lib.Seq.{drop-length}
use Rattle.field.proofs.Decimal.{digits_turn, digits_done}
use Rattle.field.proofs.write.put_decimal.Goals as goal

pub loop-i-init : goal.loop-i-init
loop-i-init c = (search rules, refl, rw (drop-length c.args.d.now))

pub loop-i-preserved : goal.loop-i-preserved
loop-i-preserved c = (
  rw (length-set c.loop-i.d (c.loop-i.i - 1) c.figure.result) (omega arith),
  rw (length-set c.loop-i.d (c.loop-i.i - 1) c.figure.result) c.loop-i.invariant.1,
  c.loop-i.invariant.2 ∙ rw c.figure.ensures (digits_turn _ _ _ c.loop-i-test.true c.loop-i.invariant.0),
)

pub returns : goal.returns
returns c = sym (c.loop-i.invariant.2 ∙ digits_done _ _ _ c.loop-i-test.false)
