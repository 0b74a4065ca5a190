-- `lists::record::names_fine` meets its contract. The loop's invariant: what was gathered so far, and the bytes that are left, decide together.
use mathlib.Core.Path.{◌≡◌}
use mathlib.Core.Bool.{◌&&◌}
use Prim.Native.Nat.{◌-◌}
use lib.ListN.{drop}
use Rattle.lists.proofs.Turns.{used_then}
use Rattle.lists.proofs.record.names_fine.Given as goal

abbrev pub invariant-loop-i : goal.invariant-loop-i
invariant-loop-i l = (l.k ≡ l.i) × (used_then l.used l.names ≡ (l.fine && used_then (l.used - l.i) (drop l.i l.names)))
