-- `command::check::check_bytes` meets its contract. The loop's invariant: the bytes that are left decide.
use mathlib.Core.Path.{◌≡◌}
use Prim.Native.Nat.{◌+◌, ◌≤◌}
use lib.ListN.{length, drop}
use Rattle.command.specs.Text.{head_bytes, check_each}
use Rattle.command.proofs.check.check_bytes.Given as goal

abbrev pub invariant-loop-i : goal.invariant-loop-i
invariant-loop-i l = (5 + l.i ≤ length l.s) × (check_each head_bytes l.s 5 ≡ check_each (drop l.i head_bytes) l.s (5 + l.i))
