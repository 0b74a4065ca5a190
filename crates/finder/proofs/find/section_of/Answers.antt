-- `finder::find::section_of` meets its contract.
use native.Mathlib.Omega.{arith}
use mathlib.Core.Path.{sym}
use Prim.Native.Nat.{◌+◌, ◌≤◌}
use lib.ListN.{length}
use Rattle.finder.proofs.Finds.{part-inside}
use Rattle.finder.proofs.find.section_of.Goals as goal
use Rattle.finder.proofs.find.section_of.Goals.{In-Ok}

-- the part lies in the text
inside : (c : In-Ok) → c.in-Ok.p.at + c.in-Ok.p.length ≤ length c.args.s.now
inside c = part-inside c.args.k c.args.s.now _ (sym c.in-Ok.ensures)

pub overflow_add-result : goal.overflow_add-result
overflow_add-result c = omega (arith, inside (goal.at.overflow_add-result c).In-Ok)

pub slice_bounds-result-end : goal.slice_bounds-result-end
slice_bounds-result-end c = inside (goal.at.slice_bounds-result-end c).In-Ok
