-- `field::write::put_decimal` meets its contract. The loop's invariant: the digits that are still to come, before those that stand, are all of them.
use Prim.Native.Nat.{◌≤◌}
use mathlib.Core.Path.{◌≡◌}
use lib.ListN.{length, drop}
use Rattle.field.specs.Decimal.{decimal, digits_before}
use Rattle.field.proofs.write.put_decimal.Given as goal

abbrev pub invariant-loop-i : goal.invariant-loop-i
invariant-loop-i l = (l.i ≤ length l.d) × (length l.d ≡ length l.initial.d) × (decimal (length l.initial.d) l.v ≡ digits_before l.i l.n (drop l.i l.d))

abbrev pub decreases-loop-i : goal.decreases-loop-i
decreases-loop-i l = l.i
