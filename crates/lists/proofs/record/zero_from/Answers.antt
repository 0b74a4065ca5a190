use native.Mathlib.Omega.{arith}
use lib.ListN.{length}
use mathlib.Core.Path.{sym, ◌∙◌}
use Rattle.lists.proofs.Turns.{to_end, zero_end}
use Rattle.lists.proofs.record.zero_from.Goals as goal

pub returns : goal.returns
returns c =
    let s = c.args.s.now in
    rw (← to_end s (length s) c.args.from (omega arith)) (sym (c.loop-b.invariant ∙ zero_end c.loop-b.zero _ c.loop-b.b-index c.loop-b-test.false))
