use native.Mathlib.Omega.{arith}
use borrow.Author.Rules.{rules}
use mathlib.Core.Path.{◌≡◌, sym, ◌∙◌}
use Prim.Native.Nat.{◌+◌, ◌<◌}
use lib.ListN.{length}
use Rattle.command_write.proofs.Writing.{named-on, named_stop, named_end}
use Rattle.command_write.proofs.record.named_allowed.Goals as goal
use Rattle.command_write.proofs.record.named_allowed.Goals.{Start}

-- the array has its 8 entries
full : (c : Start) → length c.args.named ≡ 8
full c = search rules

pub returns-then-not-is_indicator_value : goal.returns-then-not-is_indicator_value
returns-then-not-is_indicator_value c =
    let vs = c.args.named in
    let room : c.loop-i.i < length vs = omega (arith, full (goal.at.returns-then-not-is_indicator_value c).Start) in
    rw c.at.ensures
    (sym (c.loop-i.invariant ∙ named_stop vs c.loop-i.i c.loop-i-test.true room (sym c.if-not-is_indicator_value.ensures)))

pub loop-i-preserved : goal.loop-i-preserved
loop-i-preserved c =
    let vs = c.args.named in
    let room : c.loop-i.i < length vs = omega (arith, full (goal.at.loop-i-preserved c).Start) in
    c.loop-i.invariant ∙ named-on vs c.loop-i.i c.loop-i-test.true room (sym c.if-not-is_indicator_value.ensures)

pub returns : goal.returns
returns c = sym (c.loop-i.invariant ∙ named_end c.args.named c.loop-i.i (13 + c.loop-i.i) c.loop-i-test.false)
