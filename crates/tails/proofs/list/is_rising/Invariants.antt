use mathlib.Core.Path.{◌≡◌}
use lib.ListN.{drop}
use Rattle.tails.specs.Tails.{rises}
use Rattle.tails.proofs.list.is_rising.Given as goal

abbrev pub invariant-loop-b : goal.invariant-loop-b
invariant-loop-b l = rises l.keys 0 l.list ≡ rises l.keys l.last (drop l.b-index l.list)
