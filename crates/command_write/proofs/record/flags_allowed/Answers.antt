use native.Mathlib.Omega.{arith}
use borrow.Author.Rules.{rules}
use mathlib.Core.Path.{◌≡◌, sym, ◌∙◌}
use Prim.Native.Nat.{◌+◌, ◌≤◌, ◌<◌}
use lib.ListN.{length}
use Rattle.command_write.proofs.Writing.{flags-on, flags_stop, flags_end}
use Rattle.command_write.proofs.record.flags_allowed.Goals as goal
use Rattle.command_write.proofs.record.flags_allowed.Goals.{Start}

-- the array has its 7 entries
full : (c : Start) → length c.args.flags ≡ 7
full c = search rules

pub returns-then-not-is_flag_value : goal.returns-then-not-is_flag_value
returns-then-not-is_flag_value c =
    let fs = c.args.flags in
    let room : c.loop-i.i < length fs = omega (arith, full (goal.at.returns-then-not-is_flag_value c).Start) in
    rw c.at.ensures (sym (c.loop-i.invariant ∙ flags_stop fs c.loop-i.i room (sym c.if-not-is_flag_value.ensures)))

pub loop-i-preserved : goal.loop-i-preserved
loop-i-preserved c =
    let fs = c.args.flags in
    let room : c.loop-i.i < length fs = omega (arith, full (goal.at.loop-i-preserved c).Start) in
    c.loop-i.invariant ∙ flags-on fs c.loop-i.i room (sym c.if-not-is_flag_value.ensures)

pub returns : goal.returns
returns c =
    let fs = c.args.flags in
    let past : length fs ≤ c.loop-i.i = omega (arith, full (goal.at.returns c).Start) in
    sym (c.loop-i.invariant ∙ flags_end fs c.loop-i.i (5 + c.loop-i.i) past)
