-- `journal::add::put_entry` meets its contract: designator, text and trailer, each into the part behind the one before.
use mathlib.Core.Path.{◌≡◌}
use mathlib.Core.List.{List, [], ◌++◌}
use Prim.Native.Nat.{ℕ, ◌+◌, ◌-◌, ◌≤◌}
use native.Mathlib.Omega.{arith}
use lib.ListN.{length, length-append}
use borrow.Rule.Slice.PartMut.{put_mid}
use Rattle.text.specs.Over.{over}
use Rattle.text.proofs.Over.{over_none, then_copy, then_whole}
use Rattle.journal.specs.Journal.{trailer, entry_bytes}
use Rattle.journal.proofs.add.put_entry.Goals as goal

pub returns : goal.returns
unfolding entry_bytes
returns c =
    let a = c.args in
    let d = c.args.d.now in
    let who = c.args.designator.now in
    let text = c.args.text.now in
    let n = length text in
    let six : length who ≡ 6 = c.requires.0 in
    let room : 9 + n ≤ length d = c.requires.2 in
    let zs = c.copy.new.d in
    let D : List ℕ = put_mid 0 (6 - 0) d zs in
    let first : D ≡ over d 0 who =
    then_copy d d zs [] who 0 0 6 (over_none d 0) (omega arith) (omega arith) (omega arith) c.copy.ensures in
    let ys = c.copy-2.new.d in
    let E : List ℕ = put_mid 6 (6 + n - 6) D ys in
    let second : E ≡ over d 0 (who ++ text) =
    then_copy d D ys who text 0 6 (6 + n) first (omega arith) (omega arith) (omega arith) c.copy-2.ensures in
    then_whole d E c.put_trailer.new.d (who ++ text) (trailer n) 0 (6 + n) (6 + n + 3) second
    (omega (arith, length-append who text)) (omega arith) (omega arith) c.put_trailer.ensures
