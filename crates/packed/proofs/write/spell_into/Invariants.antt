use Prim.Native.Nat.{◌≤◌}
use mathlib.Core.Path.{◌≡◌}
use lib.ListN.{length, drop}
use mathlib.Core.List.{[]}
use Rattle.packed.specs.Packed.{spell}
use Rattle.packed.proofs.write.spell_into.Given as goal

abbrev pub invariant-loop-i : goal.invariant-loop-i
invariant-loop-i l = (l.i ≤ length l.out) × (length l.out ≡ length l.initial.out) × (spell (length l.initial.out) l.n [] ≡ spell l.i l.v (drop l.i l.out))

abbrev pub decreases-loop-i : goal.decreases-loop-i
decreases-loop-i l = l.i
