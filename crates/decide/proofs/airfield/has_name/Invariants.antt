-- `decide::airfield::has_name` meets its contract. The loop's invariant: from here on the names that are left decide.
use mathlib.Core.Path.{◌≡◌}
use Prim.Native.Nat.{◌-◌, ◌*◌, ◌≤◌}
use lib.ListN.{drop}
use Rattle.decide.specs.Tests.{has_airfield}
use Rattle.decide.proofs.airfield.has_name.Given as goal

abbrev pub invariant-loop-i : goal.invariant-loop-i
invariant-loop-i l = (l.i ≤ l.n) × (has_airfield l.n l.names l.name ≡ has_airfield (l.n - l.i) (drop (4 * l.i) l.names) l.name)
