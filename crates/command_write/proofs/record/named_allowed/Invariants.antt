use mathlib.Core.Path.{◌≡◌}
use Prim.Native.Nat.{◌+◌}
use lib.ListN.{drop}
use Rattle.section.specs.Layout.{numbers}
use Rattle.command.specs.Record.{named_allowed}
use Rattle.command_write.proofs.record.named_allowed.Given as goal

abbrev pub invariant-loop-i : goal.invariant-loop-i
invariant-loop-i l = named_allowed numbers 13 l.fn.named ≡ named_allowed (drop l.i numbers) (13 + l.i) (drop l.i l.fn.named)
