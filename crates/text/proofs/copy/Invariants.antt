-- `text::copy` meets its contract. The loop's invariant: d is what it was with the first i bytes of s over its start.
use mathlib.Core.Path.{◌≡◌}
use Prim.Native.Nat.{◌≤◌}
use lib.ListN.{length, take}
use Rattle.text.specs.Over.{over}
use Rattle.text.proofs.copy.Given as goal

abbrev pub invariant-loop-i : goal.invariant-loop-i
invariant-loop-i l = (l.i ≤ length l.s) × (length l.d ≡ length l.initial.d) × (l.d ≡ over l.initial.d 0 (take l.i l.s))
