-- `join::sections::put_sections` meets its contract. The loop's invariant: d is what it was with the sections so far over its start.
use mathlib.Core.Path.{◌≡◌}
use mathlib.Core.List.{List, ◌++◌}
use Prim.Native.Nat.{ℕ, ◌-◌}
use lib.ListN.{length, drop}
use Rattle.text.specs.Over.{over}
use Rattle.section.specs.Layout.{numbers}
use Rattle.join.specs.Join.{join_sections}
use Rattle.join.proofs.sections.put_sections.Given as goal

-- the sections before k are written, the others are left
pub record Written (a b d₀ d : List ℕ) (at k : ℕ) : Type 0 where
  pub text : List ℕ
  pub long : at ≡ length text
  pub is : d ≡ over d₀ 0 text
  pub rest : join_sections numbers a b ≡ text ++ join_sections (drop (k - 2) numbers) a b

abbrev pub invariant-loop-k : goal.invariant-loop-k
invariant-loop-k l = (length l.d ≡ length l.initial.d) × Written l.a.text.now l.b.text.now l.initial.d l.d l.at l.k
