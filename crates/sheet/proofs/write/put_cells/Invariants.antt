use mathlib.Core.Path.{◌≡◌}
use lib.ListN.{length}
use Rattle.sheet.proofs.Contents.{sizes}
use Rattle.text.specs.Over.{over}
use Rattle.sheet.specs.Sheet.{joined, held_text}
use Rattle.sheet.proofs.write.put_cells.Given as goal

abbrev pub invariant-loop-k : goal.invariant-loop-k
invariant-loop-k l =
    (length l.d ≡ length l.initial.d)
    × ((l.p ≡ sizes 0 l.k) × ((length (joined (held_text l.x) 0 l.k) ≡ l.p) × (l.d ≡ over l.initial.d 0 (joined (held_text l.x) 0 l.k))))
