-- `command::check::bytes_fine` meets its contract. The loop's invariant: where all so far are allowed, those that are left decide.
use mathlib.Core.Path.{◌≡◌}
use mathlib.Core.Bool.{true}
use Prim.Native.Nat.{◌+◌}
use lib.ListN.{drop}
use Rattle.command.specs.Text.{head_bytes, check_each}
use Rattle.command.proofs.check.bytes_fine.Given as goal

abbrev pub invariant-loop-i : goal.invariant-loop-i
invariant-loop-i l = l.fine ≡ true → check_each head_bytes l.s 5 ≡ check_each (drop l.i head_bytes) l.s (5 + l.i)
