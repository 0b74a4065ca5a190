-- `lists::record::regions_zero` meets its contract. The loop's invariant: what was gathered so far, and the boxes that are left, decide together.
use mathlib.Core.Path.{◌≡◌}
use mathlib.Core.Bool.{◌&&◌}
use lib.ListN.{drop}
use Rattle.lists.specs.Lists.{regions_zero}
use Rattle.lists.proofs.record.regions_zero.Given as goal

abbrev pub invariant-loop-b : goal.invariant-loop-b
invariant-loop-b l = regions_zero l.b-items ≡ (l.zero && regions_zero (drop l.b-index l.b-items))
