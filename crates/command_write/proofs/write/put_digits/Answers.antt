use native.Mathlib.Omega.{arith}
use mathlib.Core.Path.{refl, ap, ◌∙◌}
use mathlib.Core.List.{List}
use Prim.Native.Nat.{ℕ, ◌+◌}
use lib.ListN.{get_or, set, length-set}
use Rattle.text.proofs.Over.{over_none}
use Rattle.command_write.proofs.Writing.{digits_turn}
use Rattle.command_write.proofs.write.put_digits.Goals as goal

pub loop-i-init : goal.loop-i-init
loop-i-init c = (refl, over_none c.args.d.now 0)

pub loop-i-preserved : goal.loop-i-preserved
loop-i-preserved c =
    let l = c.loop-i in
    let vs = c.args.values.now in (
      length-set l.d l.i (48 + get_or vs l.i 0) ∙ l.invariant.0,
      ap (λ (d : List ℕ). set d l.i (48 + get_or vs l.i 0)) l.invariant.1
          ∙ digits_turn c.args.d.now vs l.i c.loop-i-test.true (omega (arith, c.requires.0)),
    )
