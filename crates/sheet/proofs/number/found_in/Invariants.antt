use Prim.Native.Nat.{◌+◌, ◌-◌, ◌*◌, ◌^◌, ◌≤◌}
use mathlib.Core.Path.{◌≡◌}
use lib.ListN.{length, drop}
use Rattle.field.specs.Decimal.{value, value_from}
use Rattle.sheet.specs.Inner.{digit_count}
use Rattle.sheet.proofs.Counted.{Behind}
use Rattle.sheet.proofs.number.found_in.Given as goal

-- a byte is worth at most 207: 23 more than the number is at most 23 times a power of ten
abbrev pub invariant-loop-i : goal.invariant-loop-i
invariant-loop-i l =
    (l.i ≤ length l.f)
    × (l.n + 23 ≤ 23 * 10 ^ l.i)
    × (l.digits ≤ l.i)
    × Behind l.f l.i l.spaces
    × (digit_count l.f ≡ l.digits + digit_count (drop l.i l.f))
    × (value l.f ≡ value_from l.n (drop l.i l.f))

abbrev pub decreases-loop-i : goal.decreases-loop-i
decreases-loop-i l = length l.f - l.i
