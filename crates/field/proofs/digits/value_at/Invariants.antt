-- `field::digits::value_at` meets its contract. The loop's invariant: what is left are digits, and after what was read they spell the whole.
use Prim.Native.Nat.{◌<◌, ◌^◌}
use lib.ListN.{drop}
use mathlib.Core.Path.{◌≡◌}
use mathlib.Core.Bool.{true}
use Rattle.field.specs.Decimal.{all_digits, value, value_from}
use Rattle.field.proofs.digits.value_at.Given as goal

abbrev pub invariant-loop-b : goal.invariant-loop-b
invariant-loop-b l = (l.n < 10 ^ l.b-index) × (all_digits (drop l.b-index l.b-items) ≡ true) × (value l.b-items ≡ value_from l.n (drop l.b-index l.b-items))
