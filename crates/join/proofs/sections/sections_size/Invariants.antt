-- `join::sections::sections_size` meets its contract. The loop's invariant: what was counted, and the sections that are left, are the whole.
use mathlib.Core.Path.{◌≡◌}
use Prim.Native.Nat.{◌+◌, ◌-◌}
use lib.ListN.{length, drop}
use Rattle.section.specs.Layout.{numbers}
use Rattle.join.specs.Join.{join_sections}
use Rattle.join.proofs.sections.sections_size.Given as goal

abbrev pub invariant-loop-k : goal.invariant-loop-k
invariant-loop-k l = l.total + length (join_sections (drop (l.k - 2) numbers) l.a.text.now l.b.text.now) ≡ length (join_sections numbers l.a.text.now l.b.text.now)
