-- `command_write::record::pass_numbered` meets its contract. The loop's invariant: the sections that are left decide.
use mathlib.Core.Path.{◌≡◌}
use Prim.Native.Nat.{◌+◌, ◌-◌, ◌*◌, ◌≤◌}
use lib.ListN.{drop}
use Rattle.section.specs.Layout.{numbers}
use Rattle.command_write.specs.Inner.{pass_numbered}
use Rattle.command_write.proofs.record.pass_numbered.Given as goal

abbrev pub invariant-loop-k : goal.invariant-loop-k
invariant-loop-k l =
    (l.at + 100 ≤ l.from + 25 * l.k) × (pass_numbered (drop 2 numbers) l.from l.x l.named ≡ pass_numbered (drop (l.k - 2) numbers) l.at l.x l.named)
