-- `field::kind::repeated` meets its contract. The loop's invariant: from here on the fields that are left decide.
use Prim.Native.Nat.{◌≤◌, ◌-◌}
use lib.ListN.{length}
use mathlib.Core.Path.{◌≡◌}
use Rattle.field.specs.Fields.{repeat}
use Rattle.field.proofs.kind.repeated.Given as goal

abbrev pub invariant-loop : goal.invariant-loop
invariant-loop g l =
    let check = g.F.Field.checked l.s in
    record { inside : l.p ≤ length l.s; left : repeat check l.n l.at ≡ repeat check (l.n - l.counter) l.p }
