-- `lists::write::put_boxes` meets its contract: the count, then the boxes in use.
use native.Mathlib.Omega.{arith}
use Prim.Native.Nat.{◌+◌, ◌*◌}
use lib.ListN.{length, take, drop}
use lib.Seq.{length-take-le}
use mathlib.Core.Path.{◌≡◌, sym, ◌∙◌}
use mathlib.Core.List.{◌++◌}
use Rattle.text.proofs.Over.{then_part}
use Rattle.field.specs.Decimal.{decimal}
use Rattle.field.proofs.Decimal.{decimal-length}
use Rattle.lists.specs.Lists.{boxes_text, regions_text}
use Rattle.lists.proofs.Turns.{regions-text-length}
use Rattle.lists.proofs.Spelling.{boxes-length, count-written}
use borrow.Author.Rules.{rules}
use Rattle.lists.proofs.write.put_boxes.Goals as goal
use Rattle.lists.proofs.write.put_boxes.Goals.{Start}

-- the array has its 16 boxes, as owning the record tells
full : (c : Start) → length c.args.l.regions ≡ 16
full c = search rules

pub returns : goal.returns
unfolding boxes_text
returns c =
    let a = c.args in
    let n = c.wide-n.result in
    let e : n ≡ a.l.count = c.wide-n.ensures in
    let bs = take n a.l.regions in
    let long : length (regions_text bs) ≡ 14 * n = regions-text-length bs ∙ rw (length-take-le n a.l.regions (omega (arith, full (goal.at.returns c).Start, c.requires))) in
    let two : length (decimal 2 n) ≡ 2 = decimal-length 2 n in
    let first = count-written a.d.now c.put_decimal.new.d n (omega (arith, c.requires)) c.put_decimal.ensures in
    let both = then_part a.d.now (c.put_decimal.new.d ++ drop 2 a.d.now) c.put_regions.new.d (decimal 2 n) (regions_text bs) 0 2 (2 + 14 * n) first (omega arith) (omega arith) (omega (arith, c.requires)) c.put_regions.ensures in
    (rw e (sym (boxes-length a.l (omega (arith, full (goal.at.returns c).Start, c.requires)))), both ∙ rw e)
