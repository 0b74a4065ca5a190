-- `journal::print::put_offset` meets its contract: the digits fill their part, and one byte is stored behind them.
use mathlib.Core.Path.{◌≡◌, ap, ◌∙◌}
use mathlib.Core.List.{[]}
use Prim.Native.Nat.{ℕ, ◌+◌, ◌-◌, ◌≤◌}
use native.Mathlib.Omega.{arith}
use lib.ListN.{length}
use borrow.Rule.Slice.PartMut.{put_mid}
use Rattle.text.specs.Over.{over}
use Rattle.text.proofs.Over.{over_none, then_whole, then_byte}
use Rattle.text.proofs.Parts.{part_length}
use Rattle.field.specs.Decimal.{decimal}
use Rattle.field.proofs.Decimal.{decimal-length}
use Rattle.journal.specs.Printed.{digits_of, offset_text}
use Rattle.journal.proofs.print.put_offset.Goals as goal

pub returns : goal.returns
returns c =
    let a = c.args in
    let d = c.args.d.now in
    let w = c.digits_of-w.result in
    let is : w ≡ digits_of a.at = c.digits_of-w.ensures.0 in
    let room : w + 1 ≤ length d = omega (arith, c.requires) in
    let long : length (offset_text a.at) ≡ digits_of a.at = decimal-length (digits_of a.at) a.at in
    let zs = c.put_decimal.new.d in
    let digits : zs ≡ offset_text a.at =
    c.put_decimal.ensures ∙ ap (λ (k : ℕ). decimal k a.at) (part_length d 0 w (omega arith) ∙ omega (arith, is)) in
    let first : put_mid 0 (w - 0) d zs ≡ over d 0 (offset_text a.at) =
    then_whole d d zs [] (offset_text a.at) 0 0 w (over_none d 0) (omega arith) (omega arith) (omega arith) digits in
    (omega (arith, is), then_byte d (put_mid 0 (w - 0) d zs) (offset_text a.at) 32 0 w first (omega arith) (omega arith))
