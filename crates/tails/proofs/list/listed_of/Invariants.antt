use mathlib.Core.Path.{◌≡◌}
use Prim.Native.Nat.{◌+◌}
use lib.ListN.{length, drop}
use Rattle.tails.specs.Tails.{listed}
use Rattle.tails.proofs.list.listed_of.Given as goal

abbrev pub invariant-loop-i : goal.invariant-loop-i
invariant-loop-i l = length (listed l.tails) ≡ l.i + length (listed (drop l.i l.tails))
