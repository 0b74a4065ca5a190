-- `journal::print::put_word` meets its contract: a text copied, and one byte stored behind it.
use mathlib.Core.Path.{◌≡◌}
use mathlib.Core.List.{[]}
use Prim.Native.Nat.{◌+◌, ◌-◌, ◌≤◌}
use native.Mathlib.Omega.{arith}
use lib.ListN.{length}
use borrow.Rule.Slice.PartMut.{put_mid}
use Rattle.text.specs.Over.{over}
use Rattle.text.proofs.Over.{over_none, then_copy, then_byte}
use Rattle.journal.proofs.print.put_word.Goals as goal

pub returns : goal.returns
returns c =
    let a = c.args in
    let d = c.args.d.now in
    let s = c.args.s.now in
    let n = length s in
    let room : n + 1 ≤ length d = c.requires in
    let zs = c.copy.new.d in
    let first : put_mid 0 (n - 0) d zs ≡ over d 0 s =
    then_copy d d zs [] s 0 0 n (over_none d 0) (omega arith) (omega arith) (omega arith) c.copy.ensures in
    then_byte d (put_mid 0 (n - 0) d zs) s a.behind 0 n first (omega arith) (omega arith)
