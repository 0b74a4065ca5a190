use native.Mathlib.Omega.{arith}
use mathlib.Core.Path.{◌≡◌, refl, ◌∙◌}
use mathlib.Core.List.{[], ◌∷◌}
use lib.ListN.{length, set}
use borrow.Rule.Slice.PartMut.{put_mid}
use Rattle.text.specs.Over.{over}
use Rattle.text.specs.Parts.{part}
use Rattle.text.proofs.Over.{over_none, then_whole, then_byte, length_then}
use Rattle.join.specs.Join.{choose}
use Rattle.join.specs.Inner.{join_back}
use Rattle.join.proofs.Side.{indicators_length}
use Rattle.join.proofs.head.put_back.Goals as goal
use Rattle.join.proofs.head.put_back.Goals.{After-put_chosen}

-- the downlink digit and the indicators
wrote : (c : After-put_chosen)
    → let x = c.args.a.now in
    let y = c.args.b.now in
    let d = c.args.d.now in
    let m = c.larger.result in
    put_mid 1 8 (set d 0 m) c.put_chosen.new.d ≡ over d 0 (m ∷ choose 48 (part 13 8 x) (part 13 8 y))
wrote c =
    let x = c.args.a.now in
    let y = c.args.b.now in
    let d = c.args.d.now in
    let m = c.larger.result in
    let eight = indicators_length x y c.requires.0 c.requires.1 in
    let one = then_byte d d [] m 0 0 (over_none d 0) refl (omega (arith, c.requires)) in
    then_whole d (set d 0 m) c.put_chosen.new.d (m ∷ []) (choose 48 (part 13 8 x) (part 13 8 y)) 0 1 9 one refl (omega arith) (omega (arith, c.requires)) c.put_chosen.ensures

long : (c : After-put_chosen)
    → let d = c.args.d.now in
    length (put_mid 1 8 (set d 0 c.larger.result) c.put_chosen.new.d) ≡ length d
long c =
    let x = c.args.a.now in
    let y = c.args.b.now in
    let d = c.args.d.now in
    let m = c.larger.result in
    let eight = indicators_length x y c.requires.0 c.requires.1 in
    length_then d (put_mid 1 8 (set d 0 m) c.put_chosen.new.d) (m ∷ choose 48 (part 13 8 x) (part 13 8 y)) 0 (wrote c) (omega (arith, c.requires))

pub returns : goal.returns
unfolding join_back
returns c = let x = c.args.a.now in
    let y = c.args.b.now in
    let d = c.args.d.now in
    let m = c.larger.result in
    let eight = indicators_length x y c.requires.0 c.requires.1 in
    then_byte d (put_mid 1 8 (set d 0 m) c.put_chosen.new.d) (m ∷ choose 48 (part 13 8 x) (part 13 8 y)) 47 0 9 (wrote (goal.at.returns c).After-put_chosen) (omega arith) (omega (arith, c.requires))
    ∙ rw c.larger.ensures
