use mathlib.Core.Path.{◌≡◌}
use Prim.Native.Nat.{◌+◌, ◌-◌, ◌*◌, ◌≤◌, ◌<◌}
use lib.ListN.{drop}
use Rattle.packed.specs.Decoding.{rest_of, decoded}
use Rattle.packed.proofs.Decoding.{seen}
use Rattle.packed.proofs.decode.decode.Given as goal

-- what is seen so far leads to the same as the whole, and no sum of five worths is large
abbrev pub invariant-loop-i : goal.invariant-loop-i
invariant-loop-i l =
    (l.i ≤ l.last)
    × (l.sum + 270 * l.unit < 2000000000) × (l.unit ≤ 2560000) × (l.first ≤ 2560000)
    × (decoded l.f ≡ rest_of (seen l.leading l.fine l.solidi l.sum l.first l.unit) (drop l.i l.f))

abbrev pub decreases-loop-i : goal.decreases-loop-i
decreases-loop-i l = l.last - l.i
