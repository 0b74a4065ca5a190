use native.Mathlib.Omega.{arith}
use mathlib.Core.Path.{refl}
use mathlib.Core.List.{[]}
use borrow.Rule.Slice.PartMut.{put_mid}
use Rattle.text.proofs.Over.{over_none, then_part}
use Rattle.join.specs.Inner.{join_front, join_back}
use Rattle.join.proofs.Side.{front_length, back-length}
use Rattle.join.proofs.head.put_head.Goals as goal

pub returns : goal.returns
returns c = let x = c.args.a.now in
    let y = c.args.b.now in
    let d = c.args.d.now in
    let D = put_mid 0 12 d c.put_front.new.d in
    let front = front_length x y c.requires.in_bounds.0 c.requires.in_bounds.1 in
    let back = back-length x y c.requires.in_bounds.0 c.requires.in_bounds.1 in
    let one = then_part d d c.put_front.new.d [] (join_front x y) 0 0 12 (over_none d 0) refl (omega arith) (omega (arith, c.requires.in_bounds)) c.put_front.ensures in
    then_part d D c.put_back.new.d (join_front x y) (join_back x y) 0 12 22 one (omega arith) (omega arith) c.requires.in_bounds.2 c.put_back.ensures
