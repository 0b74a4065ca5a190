-- `settings::valid::fixed_valid` meets its contract. The loop's invariant: what was gathered so far, and the sections that are left, decide
-- together.
use mathlib.Core.Path.{◌≡◌}
use mathlib.Core.Bool.{◌&&◌}
use Prim.Native.Nat.{◌-◌}
use Rattle.settings.specs.Inner.{fixed_valid}
use Rattle.settings.proofs.valid.fixed_valid.Given as goal

abbrev pub invariant-loop-k : goal.invariant-loop-k
invariant-loop-k l = fixed_valid 6 4 l.x ≡ (l.fine && fixed_valid (10 - l.k) l.k l.x)
