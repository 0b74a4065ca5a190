-- `lists::record::regions_are` meets its contract. The loop's invariant: what was gathered so far, and the boxes that are left, decide together, wherever they stand.
use mathlib.Core.Path.{◌≡◌}
use mathlib.Core.Bool.{◌&&◌}
use Prim.Native.Nat.{ℕ, ◌+◌, ◌-◌, ◌*◌}
use lib.ListN.{drop}
use Rattle.text.specs.Checks.{is_fine}
use Rattle.lists.specs.Lists.{regions_allowed}
use Rattle.lists.proofs.record.regions_are.Given as goal

abbrev pub invariant-loop-i : goal.invariant-loop-i
invariant-loop-i l = (at : ℕ) → is_fine (regions_allowed l.n at l.regions) ≡ (l.fine && is_fine (regions_allowed (l.n - l.i) (at + 14 * l.i) (drop l.i l.regions)))
