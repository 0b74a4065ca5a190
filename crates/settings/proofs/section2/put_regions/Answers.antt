-- `settings::section2::put_regions` meets its contract.
use native.Mathlib.Omega.{arith}
use mathlib.Core.Path.{◌≡◌, ◌∙◌}
use mathlib.Core.List.{[], ◌∷◌, ◌++◌, append_assoc}
use Prim.Native.Nat.{◌+◌, ◌-◌, ◌≤◌}
use lib.ListN.{length, set, drop, length-append}
use borrow.Rule.Slice.PartMut.{put_mid}
use Rattle.text.specs.Over.{over}
use Rattle.lists.specs.Lists.{boxes_text}
use Rattle.text.proofs.Over.{then_part, then_byte}
use Rattle.section.specs.Layout.{layout_of, table_of}
use Rattle.section.specs.Contents.{contents_text}
use Rattle.settings.proofs.Pieces.{front_part}
use Rattle.settings.proofs.section2.put_regions.Goals as goal
use Rattle.settings.proofs.section2.put_regions.Goals.{After-put_boxes-2}

-- the text, list by list
written : (c : After-put_boxes-2)
    → let a = c.args in
    let d = c.args.d.now in
    let mid = c.boxes_size-mid.result in
    let end = mid + c.boxes_size.result in
    set (put_mid mid (end - mid) (c.put_boxes.new.d ++ drop mid d) c.put_boxes-2.new.d) end 47
    ≡ over d 0 (boxes_text a.x.reporting ++ (boxes_text a.x.inhibiting ++ (47 ∷ [])))
written c =
    let d = c.args.d.now in
    let t = boxes_text c.args.x.reporting in
    let u = boxes_text c.args.x.inhibiting in
    let mid = c.boxes_size-mid.result in
    let end = mid + c.boxes_size.result in
    let tl : mid ≡ length t = c.boxes_size-mid.ensures.0 in
    let ul : c.boxes_size.result ≡ length u = c.boxes_size.ensures.0 in
    let room : length t + length u + 1 ≤ length d = c.requires.inhibiting_in_bounds in
    let D = c.put_boxes.new.d ++ drop mid d in
    let one = front_part d c.put_boxes.new.d t mid tl (omega arith) c.put_boxes.ensures.1 in
    let two = then_part d D c.put_boxes-2.new.d t u 0 mid end one (omega arith) (omega arith) (omega arith) c.put_boxes-2.ensures.1 in
    let both : length (t ++ u) ≡ length t + length u = length-append t u in
    then_byte d (put_mid mid (end - mid) D c.put_boxes-2.new.d) (t ++ u) 47 0 end two (omega arith) (omega arith) ∙ rw append_assoc

pub returns : goal.returns
unfolding layout_of table_of contents_text
returns c =
    (simp length-append (omega (arith, c.boxes_size.ensures, c.boxes_size-mid.ensures)), written (goal.at.returns c).After-put_boxes-2)
