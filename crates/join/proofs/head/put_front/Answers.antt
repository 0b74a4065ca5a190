use native.Mathlib.Omega.{arith}
use mathlib.Core.Path.{◌≡◌, refl, ◌∙◌, ap}
use mathlib.Core.List.{List, [], ◌++◌}
use Prim.Native.Nat.{ℕ}
use lib.ListN.{length}
use borrow.Rule.Slice.PartMut.{put_mid}
use Rattle.text.specs.Over.{over}
use Rattle.text.specs.Parts.{part}
use Rattle.text.proofs.Over.{over_none, then_copy, then_whole}
use Rattle.join.specs.Join.{choose}
use Rattle.join.specs.Inner.{join_front}
use Rattle.join.proofs.Side.{part-is, flags-length}
use Rattle.join.proofs.head.put_front.Goals as goal

pub returns : goal.returns
unfolding join_front
returns c = let x = c.args.a.now in
    let y = c.args.b.now in
    let d = c.args.d.now in
    let D = put_mid 0 5 d c.copy.new.d in
    let five : length (part 0 5 x) ≡ 5 = part-is 0 5 x (omega (arith, c.requires.in_bounds)) in
    let seven = flags-length x y c.requires.in_bounds.0 c.requires.in_bounds.1 in
    let one = then_copy d d c.copy.new.d [] (part 0 5 x) 0 0 5 (over_none d 0) refl (omega arith) (omega (arith, c.requires.in_bounds)) c.copy.ensures in
    then_whole d D c.put_chosen.new.d (part 0 5 x) (choose 57 (part 5 7 x) (part 5 7 y)) 0 5 12 one (omega arith) (omega arith) (omega (arith, c.requires.in_bounds)) c.put_chosen.ensures
    ∙ ap (λ (t : List ℕ). over d 0 (t ++ choose 57 (part 5 7 x) (part 5 7 y))) c.requires.a_value
