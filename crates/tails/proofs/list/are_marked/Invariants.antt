use mathlib.Core.Path.{◌≡◌}
use Rattle.tails.specs.Inner.{covered_by}
use Rattle.tails.proofs.list.are_marked.Given as goal

abbrev pub invariant-loop-i : goal.invariant-loop-i
invariant-loop-i l = l.fine ≡ covered_by l.keys l.marks l.i
