-- `commute::flags_apart` meets its contract. The loop's invariant: the bits are those of the flags from i on.
use mathlib.Core.Path.{◌≡◌}
use lib.ListN.{drop}
use Rattle.commute.specs.Commute.{flag_apart, flag_numbers, bits_of}
use Rattle.commute.proofs.flags_apart.Given as goal

abbrev pub invariant-loop-i : goal.invariant-loop-i
invariant-loop-i l = l.bits ≡ bits_of (flag_apart l.a l.b) (drop l.i flag_numbers)
