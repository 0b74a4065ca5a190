use Rattle.packed.specs.Packed.{fewest}
use mathlib.Core.Path.{◌≡◌}
use Rattle.packed.proofs.write.fewest_of.Given as goal

abbrev pub invariant-loop-j : goal.invariant-loop-j
invariant-loop-j l = fewest l.w l.m ≡ fewest l.j l.m
