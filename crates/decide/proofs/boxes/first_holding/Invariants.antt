-- `decide::boxes::first_holding` meets its contract. The loop's invariant: from here on the boxes that are left decide.
use mathlib.Core.Path.{◌≡◌}
use Prim.Native.Nat.{◌+◌, ◌-◌, ◌≤◌}
use lib.ListN.{take, drop}
use Rattle.decide.specs.Tests.{first_from}
use Rattle.decide.proofs.boxes.first_holding.Given as goal

abbrev pub invariant-loop-i : goal.invariant-loop-i
invariant-loop-i l =
    (l.i ≤ l.n) × (first_from 1 (take l.n l.regions) l.north l.east ≡ first_from (l.i + 1) (take (l.n - l.i) (drop l.i l.regions)) l.north l.east)
