-- `commute::sections_apart` meets its contract. The loop's invariant: the bits are those of the sections from k on.
use mathlib.Core.Path.{◌≡◌}
use Prim.Native.Nat.{◌-◌}
use lib.ListN.{drop}
use Rattle.section.specs.Layout.{numbers}
use Rattle.commute.specs.Commute.{section_apart, bits_of}
use Rattle.commute.proofs.sections_apart.Given as goal

abbrev pub invariant-loop-k : goal.invariant-loop-k
invariant-loop-k l = l.bits ≡ bits_of (section_apart l.a.text.now l.b.text.now) (drop (l.k - 2) numbers)
