-- `journal::print::put_line` meets its contract: three words, each into the part behind the one before.
use mathlib.Core.Path.{◌≡◌, sym, ap, ◌∙◌}
use mathlib.Core.List.{◌++◌}
use Prim.Native.Nat.{ℕ, ◌+◌, ◌-◌, ◌≤◌}
use native.Mathlib.Omega.{arith}
use lib.ListN.{length, take, drop, length-append}
use borrow.Rule.Slice.PartMut.{put_mid}
use Rattle.text.specs.Over.{over}
use Rattle.text.specs.Parts.{part}
use Rattle.text.proofs.Over.{rest-written}
use Rattle.field.proofs.Decimal.{part-long}
use Rattle.journal.specs.Printed.{digits_of, word, offset_word, line}
use Rattle.journal.proofs.Lines.{word-length, offset_length}
use Rattle.journal.proofs.print.put_line.Goals as goal

pub returns : goal.returns
unfolding line
returns c =
    let a = c.args in
    let d = c.args.d.now in
    let s = c.args.journal.now in
    let inside : a.at + 6 + a.n ≤ length s = c.requires.0 in
    let room : digits_of a.at + (9 + a.n) ≤ length d = c.requires.1 in
    let D = c.put_offset-who.new.d in
    let p = c.put_offset-who.result in
    let is : p ≡ digits_of a.at + 1 = c.put_offset-who.ensures.0 in
    let first : D ≡ over d 0 (offset_word a.at) = c.put_offset-who.ensures.1 in
    let who = word (part a.at 6 s) 32 in
    let text = word (part (a.at + 6) a.n s) 10 in
    let six : a.at + 6 - a.at ≡ 6 = omega arith in
    let many : a.at + 6 + a.n - (a.at + 6) ≡ a.n = omega arith in
    let seven : length who ≡ 7 = word-length (part a.at 6 s) 32 ∙ rw (part-long s a.at 6 (omega arith)) in
    let long : length text ≡ a.n + 1 = word-length (part (a.at + 6) a.n s) 10 ∙ rw (part-long s (a.at + 6) a.n inside) in
    let zs = c.put_word.new.d in
    let second : put_mid p (length D - p) D zs ≡ over d 0 (offset_word a.at ++ who) =
    rest-written d D (offset_word a.at) p first (is ∙ sym (offset_length a.at)) zs who (omega arith)
    (c.put_word.ensures ∙ ap (λ (k : ℕ). over (take (length D - p) (drop p D)) 0 (word (part a.at k s) 32)) six) in
    let E = put_mid p (length D - p) D zs in
    let q : p + 7 ≡ length (offset_word a.at ++ who) = omega (arith, is, length-append (offset_word a.at) who, offset_length a.at, seven) in (
      omega (arith, is),
      rest-written d E (offset_word a.at ++ who) (p + 7) second q c.put_word-2.new.d text (omega arith)
          (c.put_word-2.ensures ∙ ap (λ (k : ℕ). over (take (length E - (p + 7)) (drop (p + 7) E)) 0 (word (part (a.at + 6) k s) 10)) many),
    )
