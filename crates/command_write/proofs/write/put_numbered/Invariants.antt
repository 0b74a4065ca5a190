-- `command_write::write::put_numbered` meets its contract. The loop's invariant: d is what it was with the sections so far over its start.
use mathlib.Core.Path.{◌≡◌}
use mathlib.Core.List.{List, ◌++◌}
use Prim.Native.Nat.{ℕ, ◌-◌}
use lib.ListN.{length, drop}
use Rattle.text.specs.Over.{over}
use Rattle.section.specs.Layout.{numbers}
use Rattle.settings.specs.declared.Fixed.{Fixed}
use Rattle.command_write.specs.Inner.{numbered_text}
use Rattle.command_write.proofs.write.put_numbered.Given as goal

-- the sections before k are written, the others are left
pub record Written (x : Fixed) (named d₀ d : List ℕ) (at k : ℕ) : Type 0 where
  pub text : List ℕ
  pub long : at ≡ length text
  pub is : d ≡ over d₀ 0 text
  pub rest : numbered_text (drop 2 numbers) x named ≡ text ++ numbered_text (drop (k - 2) numbers) x named

abbrev pub invariant-loop-k : goal.invariant-loop-k
invariant-loop-k l = (length l.d ≡ length l.initial.d) × Written l.x l.named l.initial.d l.d l.at l.k
