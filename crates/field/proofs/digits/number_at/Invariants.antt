-- `field::digits::number_at` meets its contract. The loop's invariant: the digits that are left, after what was read, are the test and the worth of all.
use Prim.Native.Nat.{◌<◌, ◌^◌}
use lib.ListN.{drop}
use mathlib.Core.Path.{◌≡◌}
use Rattle.field.specs.Decimal.{all_digits, value, value_from}
use Rattle.field.proofs.digits.number_at.Given as goal

abbrev pub invariant-loop-b : goal.invariant-loop-b
invariant-loop-b l = (l.n < 10 ^ l.b-index) × (all_digits l.b-items ≡ all_digits (drop l.b-index l.b-items)) × (value l.b-items ≡ value_from l.n (drop l.b-index l.b-items))
