use native.Mathlib.Omega.{arith}
use mathlib.Core.Path.{◌≡◌, refl, sym, ◌∙◌, ap}
use mathlib.Core.List.{[]}
use Prim.Native.Nat.{◌≤◌}
use lib.ListN.{length}
use borrow.Rule.Slice.PartMut.{put_mid}
use Rattle.text.specs.Over.{over}
use Rattle.text.proofs.Over.{over_none, then_part, length_then}
use lib.Seq.{length-take-le}
use Rattle.command.proofs.Accepted.{accepted}
use Rattle.join.specs.Inner.{join_head}
use Rattle.join.specs.Join.{join_sections}
use Rattle.join.proofs.Side.{join_sides, head-length, sides_length}
use Rattle.text.proofs.Parts.{part_length}
use Rattle.section.specs.Layout.{numbers}
use Rattle.join.proofs.put_joined.Goals as goal
use Rattle.join.proofs.put_joined.Goals.{After-put_head, Start}

-- there is room for the 22 bytes
room : (s : Start) → 22 ≤ length s.args.d.now
room s =
    omega (arith, s.requires.b_in_bounds, sides_length s.args.a.now.text.now s.args.b.now.text.now s.requires.walked.0.fine s.requires.walked.1.fine)

-- and they are written
wrote : (c : After-put_head)
    → let d = c.args.d.now in
    put_mid 0 22 d c.put_head.new.d ≡ over d 0 (join_head c.args.a.now.text.now c.args.b.now.text.now)
wrote c =
    let room : 22 ≤ length c.args.d.now = omega (arith, c.requires.b_in_bounds, sides_length c.args.a.now.text.now c.args.b.now.text.now c.requires.walked.0.fine c.requires.walked.1.fine) in
    let d = c.args.d.now in
    let x = c.args.a.now.text.now in
    let y = c.args.b.now.text.now in
    let n = head-length x y (accepted x c.requires.walked.0.fine).head.inside (accepted y c.requires.walked.1.fine).head.inside in
    then_part d d c.put_head.new.d [] (join_head x y) 0 0 22 (over_none d 0) refl (omega (arith, n)) (room) c.put_head.ensures

long : (c : After-put_head)
    → let d = c.args.d.now in
    length (put_mid 0 22 d c.put_head.new.d) ≡ length d
long c =
    let room : 22 ≤ length c.args.d.now = omega (arith, c.requires.b_in_bounds, sides_length c.args.a.now.text.now c.args.b.now.text.now c.requires.walked.0.fine c.requires.walked.1.fine) in
    let d = c.args.d.now in
    let x = c.args.a.now.text.now in
    let y = c.args.b.now.text.now in
    let n = head-length x y (accepted x c.requires.walked.0.fine).head.inside (accepted y c.requires.walked.1.fine).head.inside in
    length_then d _ (join_head x y) 0 (wrote c) (omega (arith, n, room))

pub slice_bounds-put_head-end : goal.slice_bounds-put_head-end
slice_bounds-put_head-end c = omega (arith, room (goal.at.slice_bounds-put_head-end c).Start)

pub put_head-requires : goal.put_head-requires
put_head-requires c = let A = accepted c.args.a.now.text.now c.requires.walked.0.fine in
    let B = accepted c.args.b.now.text.now c.requires.walked.1.fine in
    record { in_bounds = (A.head.inside, B.head.inside, rw (length-take-le 22 c.args.d.now (room (goal.at.put_head-requires c).Start)) (omega arith)); a_value = A.head.begins }

pub put_sections-requires : goal.put_sections-requires
put_sections-requires c = let d = put_mid 0 22 c.args.d.now c.put_head.new.d in
    let n = sides_length c.args.a.now.text.now c.args.b.now.text.now c.requires.walked.0.fine c.requires.walked.1.fine in
    record { walked = c.requires.walked; b_in_bounds = rw (part_length d 22 (length d) (omega arith)) (omega (arith, n, c.requires.b_in_bounds, long (goal.at.put_sections-requires c).After-put_head)) }

pub returns : goal.returns
returns c = let x = c.args.a.now.text.now in
    let y = c.args.b.now.text.now in
    let d = c.args.d.now in
    let D = put_mid 0 22 d c.put_head.new.d in
    let n = sides_length x y c.requires.walked.0.fine c.requires.walked.1.fine in
    let m = head-length x y (accepted x c.requires.walked.0.fine).head.inside (accepted y c.requires.walked.1.fine).head.inside in
    then_part d D c.put_sections.new.d (join_head x y) (join_sections numbers x y) 0 22 (length D) (wrote (goal.at.returns c).After-put_head) (omega (arith, m)) (omega (arith, n, c.requires.b_in_bounds, long (goal.at.returns c).After-put_head)) (omega (arith, long (goal.at.returns c).After-put_head)) c.put_sections.ensures
    ∙ ap (over d 0) (sym (join_sides x y))
