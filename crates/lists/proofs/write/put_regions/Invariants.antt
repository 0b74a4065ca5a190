-- `lists::write::put_regions` meets its contract. The loop's invariant: d is what it was with the first i boxes over its start.
use lib.ListN.{length, take}
use mathlib.Core.Path.{◌≡◌}
use Rattle.text.specs.Over.{over}
use Rattle.lists.specs.Lists.{regions_text}
use Rattle.lists.proofs.write.put_regions.Given as goal

abbrev pub invariant-loop-i : goal.invariant-loop-i
invariant-loop-i l = (length l.d ≡ length l.initial.d) × (l.d ≡ over l.initial.d 0 (regions_text (take l.i l.regions)))
