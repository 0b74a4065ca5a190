-- A question in range, and its position's size.
use mathlib.Core.Path.{◌≡◌}
use mathlib.Core.Bool.{true}
use Prim.Native.Nat.{ℕ, ◌<◌}
use native.Mathlib.Omega.{arith}
use lib.Dec.{leb→le, lit<}
use lib.IntN.{ℤ, pos, negsuc}
use lib.Signed.{mag, ◌≤ℤ◌}
use Rattle.decide.specs.Question.{Question}
use Rattle.decide.specs.Tests.{in_range}
use Rattle.decide.proofs.Words.{range-said}

-- from -(low + 1) up to high
span_mag : (x : ℤ) (low high h : ℕ) → negsuc low ≤ℤ x → x ≤ℤ pos high → low < h → high < h → mag x < h
span_mag (pos a) low high h p q l m = omega (arith, leb→le a high q.le)
span_mag (negsuc a) low high h p q l m = omega (arith, leb→le a low p.le)

-- a position in range lies far above 1000 degrees below zero
pub in_span : (q : Question) → in_range q ≡ true → (mag q.north < 60000) × (mag q.east < 60000)
in_span q e =
    let r = (range-said q).yes_so e in (
      span_mag q.north 5399 5400 60000 r.south r.north (lit< tt) (lit< tt),
      span_mag q.east 10799 10800 60000 r.west r.east (lit< tt) (lit< tt),
    )
