-- `text::all_allowed` meets its contract. The loop's invariant: what was gathered so far, and the test of the bytes that are left, are together the test of all.
use mathlib.Core.Path.{◌≡◌}
use mathlib.Core.Bool.{◌&&◌}
use lib.ListN.{drop}
use Rattle.text.specs.Names.{all_allowed}
use Rattle.text.proofs.all_allowed.Given as goal

abbrev pub invariant-loop-b : goal.invariant-loop-b
invariant-loop-b l = all_allowed l.s ≡ (l.fine && all_allowed (drop l.b-index l.s))
