-- `field::digits::small_at` meets its contract. The loop's invariant: the bytes less the zeros are what was read, and after it the digits
-- that are left spell the whole.
use Prim.Native.Nat.{◌≤◌, ◌<◌, ◌+◌, ◌-◌, ◌*◌, ◌^◌}
use lib.ListN.{drop}
use mathlib.Core.Path.{◌≡◌}
use mathlib.Core.Bool.{true}
use Rattle.field.specs.Decimal.{all_digits, value, value_from}
use Rattle.field.proofs.digits.small_at.Given as goal

abbrev pub invariant-loop-b : goal.invariant-loop-b
invariant-loop-b l =
    (l.zeros ≤ l.bytes)
    × (l.bytes - l.zeros < 10 ^ l.b-index)
    × (l.zeros + 6 ≤ 6 * 10 ^ l.b-index)
    × (all_digits (drop l.b-index l.b-items) ≡ true)
    × (value l.b-items ≡ value_from (l.bytes - l.zeros) (drop l.b-index l.b-items))
