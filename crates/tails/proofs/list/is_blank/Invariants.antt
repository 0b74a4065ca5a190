use mathlib.Core.Path.{◌≡◌}
use lib.ListN.{drop}
use Rattle.tails.specs.Tails.{all_blank}
use Rattle.tails.proofs.list.is_blank.Given as goal

abbrev pub invariant-loop-b : goal.invariant-loop-b
invariant-loop-b l = all_blank l.rest ≡ all_blank (drop l.b-index l.rest)
