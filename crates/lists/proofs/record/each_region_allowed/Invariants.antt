-- `lists::record::each_region_allowed` meets its contract. The loop's invariant: from here on the boxes that are left decide.
use Prim.Native.Nat.{◌+◌, ◌-◌, ◌*◌}
use lib.ListN.{drop}
use mathlib.Core.Path.{◌≡◌}
use Rattle.lists.specs.Lists.{regions_allowed}
use Rattle.lists.proofs.record.each_region_allowed.Given as goal

abbrev pub invariant-loop-i : goal.invariant-loop-i
invariant-loop-i l = regions_allowed l.n l.at l.regions ≡ regions_allowed (l.n - l.i) (l.at + 14 * l.i) (drop l.i l.regions)
