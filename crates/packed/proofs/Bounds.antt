-- The greater of the two that a choice is between.
use mathlib.Core.Bool.{Bool, true, false, cond}
use Prim.Native.Nat.{ℕ, ◌≤◌}

pub cond-le : (t : Bool) (a b m : ℕ) → a ≤ m → b ≤ m → cond t a b ≤ m
cond-le true a b m p q = p
cond-le false a b m p q = q
