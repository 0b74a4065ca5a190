-- `lists::record::zero_from` meets its contract. The loop's invariant: what was gathered so far, and the bytes that are left, decide together.
use mathlib.Core.Path.{◌≡◌}
use mathlib.Core.Bool.{◌&&◌}
use lib.ListN.{drop}
use Rattle.lists.specs.Lists.{all_zero}
use Rattle.lists.proofs.record.zero_from.Given as goal

abbrev pub invariant-loop-b : goal.invariant-loop-b
invariant-loop-b l = all_zero l.b-items ≡ (l.zero && all_zero (drop l.b-index l.b-items))
