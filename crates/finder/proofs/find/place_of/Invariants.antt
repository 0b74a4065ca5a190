-- `finder::find::place_of` meets its contract. The loop's invariant: the sections before this one are passed over.
use mathlib.Core.Path.{◌≡◌}
use Prim.Native.Nat.{◌-◌, ◌≤◌}
use lib.ListN.{length, drop}
use Rattle.section.specs.Layout.{numbers}
use Rattle.finder.specs.Finding.{reach}
use Rattle.finder.proofs.find.place_of.Given as goal

abbrev pub invariant-loop-k : goal.invariant-loop-k
invariant-loop-k l = (l.at ≤ length l.s) × (reach numbers l.s 22 l.j ≡ reach (drop (l.k - 2) numbers) l.s l.at l.j)
