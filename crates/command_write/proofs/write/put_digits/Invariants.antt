use mathlib.Core.Path.{◌≡◌}
use lib.ListN.{length, take}
use Rattle.text.specs.Over.{over}
use Rattle.command.specs.Record.{digit_bytes}
use Rattle.command_write.proofs.write.put_digits.Given as goal

abbrev pub invariant-loop-i : goal.invariant-loop-i
invariant-loop-i l = (length l.d ≡ length l.initial.d) × (l.d ≡ over l.initial.d 0 (take l.i (digit_bytes l.values)))
