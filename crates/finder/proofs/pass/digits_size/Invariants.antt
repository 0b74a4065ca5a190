-- `finder::pass::digits_size` meets its contract. The loop's invariant: what is summed up and the rows that are left are all of them.
use mathlib.Core.Path.{◌≡◌}
use Prim.Native.Nat.{◌+◌, ◌*◌, ◌≤◌}
use lib.ListN.{drop}
use Rattle.section.specs.Layout.{table_of}
use Rattle.finder.specs.Inner.{width_of}
use Rattle.finder.proofs.pass.digits_size.Given as goal

abbrev pub invariant-loop-i : goal.invariant-loop-i
invariant-loop-i l = (l.size ≤ 3 * l.i) × (width_of (table_of l.k).rows ≡ l.size + width_of (drop l.i (table_of l.k).rows))
