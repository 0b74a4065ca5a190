-- `section::numbers::are_zero` meets its contract. The loop's invariant: what was gathered so far, and the numbers that are left, decide
-- together.
use mathlib.Core.Path.{◌≡◌}
use mathlib.Core.Bool.{◌&&◌}
use lib.ListN.{drop}
use Rattle.lists.specs.Lists.{all_zero}
use Rattle.section.proofs.numbers.are_zero.Given as goal

abbrev pub invariant-loop-x : goal.invariant-loop-x
invariant-loop-x l = all_zero l.fn.v ≡ (l.zero && all_zero (drop l.x-index l.x-items))
