-- `difference::same::same_regions` meets its contract. The loop's invariant: what was compared so far, and what is left, are together the
-- test of all.
use mathlib.Core.Path.{◌≡◌}
use mathlib.Core.Bool.{◌&&◌}
use Prim.Native.Nat.{◌≤◌}
use lib.ListN.{drop}
use Rattle.difference.specs.Same.{same_regions}
use Rattle.difference.proofs.same.same_regions.Given as goal

abbrev pub invariant-loop-i : goal.invariant-loop-i
invariant-loop-i l = (l.i ≤ 16) × (same_regions l.a l.b ≡ (l.same && same_regions (drop l.i l.a) (drop l.i l.b)))
