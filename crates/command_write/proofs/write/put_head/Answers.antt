use borrow.Author.Rules.{rules}
use native.Mathlib.Omega.{arith}
use mathlib.Core.Path.{◌≡◌, refl}
use mathlib.Core.List.{[], ◌∷◌, ◌++◌}
use lib.ListN.{length, length-map, length-append}
use borrow.Rule.Slice.PartMut.{put_mid}
use Prim.Native.Nat.{ℕ, ◌+◌}
use Rattle.text.proofs.Over.{over_none, then_part}
use Rattle.command.specs.Text.{awr04}
use Rattle.command.specs.Record.{digit_bytes}
use Rattle.command_write.specs.Inner.{head_text}
use Rattle.command_write.proofs.write.put_head.Goals as goal
use Rattle.command_write.proofs.write.put_head.Goals.{Start}

-- the arrays have their entries
seven : (c : Start) → length c.args.c.settings.flags ≡ 7
seven c = search rules

eight : (c : Start) → length c.args.c.named ≡ 8
eight c = search rules

pub returns : goal.returns
unfolding head_text
returns c =
    let d = c.args.d.now in
    let x = c.args.c in
    let a = c.put_flags in
    let b = c.put_indicators in
    let fs = awr04 ++ digit_bytes x.settings.flags in
    let ns = (48 + x.downlink) ∷ (digit_bytes x.named ++ 47 ∷ []) in
    let fl : length fs ≡ 12 = omega (arith, length-map x.settings.flags (λ (v : ℕ). 48 + v), seven (goal.at.returns c).Start) in
    let nl : length ns ≡ 10 = omega (arith, length-append (digit_bytes x.named) (47 ∷ []), length-map x.named (λ (v : ℕ). 48 + v), eight (goal.at.returns c).Start) in
    let one = then_part d d a.new.d [] fs 0 0 12 (over_none d 0) refl (omega arith) (omega (arith, c.requires.0)) a.ensures in
    then_part d (put_mid 0 12 d a.new.d) b.new.d fs ns 0 12 22 one (omega arith) (omega arith) (omega (arith, c.requires.0)) b.ensures
