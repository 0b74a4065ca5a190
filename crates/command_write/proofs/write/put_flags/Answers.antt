use borrow.Author.Rules.{rules}
use native.Mathlib.Omega.{arith}
use mathlib.Core.Path.{◌≡◌, refl}
use mathlib.Core.List.{[]}
use lib.ListN.{length, length-map}
use borrow.Rule.Slice.PartMut.{put_mid}
use Prim.Native.Nat.{ℕ, ◌+◌}
use Rattle.text.proofs.Over.{over_none, then_part}
use Rattle.command.specs.Text.{awr04}
use Rattle.command.specs.Record.{digit_bytes}
use Rattle.command_write.proofs.write.put_flags.Goals as goal
use Rattle.command_write.proofs.write.put_flags.Goals.{Start}

-- the array has its seven flags
full : (c : Start) → length c.args.flags ≡ 7
full c = search rules

pub returns : goal.returns
returns c =
    let d = c.args.d.now in
    let a = c.put_awr04 in
    let fs = c.args.flags in
    let one = then_part d d a.new.d [] awr04 0 0 5 (over_none d 0) refl (omega arith) (omega (arith, c.requires.0)) a.ensures in
    then_part d (put_mid 0 5 d a.new.d) c.put_digits.new.d awr04 (digit_bytes fs) 0 5 12 one refl
    (omega (arith, length-map fs (λ (v : ℕ). 48 + v), full (goal.at.returns c).Start)) (omega (arith, c.requires.0)) c.put_digits.ensures
