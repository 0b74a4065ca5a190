-- `lists::read::regions_of` meets its contract. The loop's invariant: the boxes so far, and zeros; those that are left are accepted.
use Prim.Native.Nat.{◌+◌, ◌-◌, ◌*◌}
use lib.ListN.{replicate}
use mathlib.Core.Path.{◌≡◌}
use mathlib.Core.List.{◌++◌}
use Rattle.std.specs.Prelude.{Ok}
use Rattle.field.specs.Fields.{repeat}
use Rattle.field.specs.Boxes.{check_box, no_region}
use Rattle.lists.specs.Lists.{regions_at}
use Rattle.lists.proofs.read.regions_of.Given as goal

abbrev pub invariant-loop-i : goal.invariant-loop-i
invariant-loop-i l = (repeat (check_box l.s) (l.n - l.i) (l.from + 14 * l.i) ≡ Ok (l.from + 14 * l.n)) × (l.regions ≡ regions_at l.i l.s l.from ++ replicate (16 - l.i) no_region)
