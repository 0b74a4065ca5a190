use mathlib.Core.Path.{◌≡◌}
use Prim.Native.Nat.{◌+◌}
use lib.ListN.{drop}
use Rattle.command.specs.Record.{flags_allowed}
use Rattle.command_write.proofs.record.flags_allowed.Given as goal

abbrev pub invariant-loop-i : goal.invariant-loop-i
invariant-loop-i l = flags_allowed 5 l.fn.flags ≡ flags_allowed (5 + l.i) (drop l.i l.fn.flags)
