-- The loop's invariant: what was gathered so far, and the test of the bytes that are left, are together the test of all.
use mathlib.Core.Path.{◌≡◌}
use mathlib.Core.Bool.{◌&&◌}
use lib.ListN.{drop}
use Rattle.packed.specs.Packed.{all_solidi}
use Rattle.observation.proofs.byte.all_solidi.Given as goal

abbrev pub invariant-loop-b : goal.invariant-loop-b
invariant-loop-b l = all_solidi l.s ≡ (l.fine && all_solidi (drop l.b-index l.s))
