use mathlib.Core.Path.{◌≡◌}
use Rattle.join.specs.Join.{choose}
use mathlib.Core.List.{◌++◌}
use lib.ListN.{length, take, drop}
use Rattle.join.proofs.head.put_chosen.Given as goal

abbrev pub invariant-loop-i : goal.invariant-loop-i
invariant-loop-i l = (length l.d ≡ length l.initial.d) × (choose l.none l.first l.second ≡ take l.i l.d ++ choose l.none (drop l.i l.first) (drop l.i l.second))
