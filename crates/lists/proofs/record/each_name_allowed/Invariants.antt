-- `lists::record::each_name_allowed` meets its contract. The loop's invariant: from here on the names that are left decide.
use Prim.Native.Nat.{◌+◌, ◌-◌, ◌*◌}
use lib.ListN.{drop}
use mathlib.Core.Path.{◌≡◌}
use Rattle.lists.specs.Lists.{names_allowed}
use Rattle.lists.proofs.record.each_name_allowed.Given as goal

abbrev pub invariant-loop-i : goal.invariant-loop-i
invariant-loop-i l = names_allowed l.n l.at l.names ≡ names_allowed (l.n - l.i) (l.at + 4 * l.i) (drop (4 * l.i) l.names)
