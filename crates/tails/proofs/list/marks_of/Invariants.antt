use mathlib.Core.Path.{◌≡◌}
use lib.ListN.{drop, replicate}
use Rattle.tails.specs.Inner.{marked}
use Rattle.tails.proofs.list.marks_of.Given as goal

abbrev pub invariant-loop-b : goal.invariant-loop-b
invariant-loop-b l = marked (replicate 64 0) l.list ≡ marked l.marks (drop l.b-index l.list)
