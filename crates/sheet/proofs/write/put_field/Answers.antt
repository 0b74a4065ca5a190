use borrow.Author.Rules.{rules}
use native.Mathlib.Omega.{arith}
use Prim.Native.Nat.{ℕ, ◌-◌, ◌≤◌}
use mathlib.Core.Path.{◌≡◌, ap, ◌∙◌}
use lib.ListN.{length, take}
use borrow.Author.Tests.{leb-true}
use mathlib.Core.List.{[], ◌∷◌}
use Rattle.sheet.proofs.Contents.{one_byte}
use Rattle.sheet.proofs.Contents.{digit-held}
use lib.Seq.{length-take-le}
use Rattle.sheet.specs.Layout.{width_of}
use Rattle.sheet.specs.Inner.{held_is, held_form}
use Rattle.sheet.specs.Sheet.{field_text}
use Rattle.sheet.proofs.Filled.{copied}
use Rattle.sheet.proofs.write.put_field.Goals as goal

pub slice_bounds-copy-end : goal.slice_bounds-copy-end
unfolding held_form
slice_bounds-copy-end c =
    let six : length c.args.h.name ≡ 6 = search rules in
    let w = c.in-Name.w in
    omega (arith, six, leb-true w 6 (rw c.in-Name.is at c.requires.form_value))

pub digit_byte-requires : goal.digit_byte-requires
unfolding held_is
digit_byte-requires c =
    let e = c.in-Digit.is in
    digit-held _ (c.args.h.word ∷ []) (rw e at c.requires.form_value) (rw e at c.requires.h_value)

pub returns-in-Name : goal.returns-in-Name
unfolding field_text held_is held_form width_of
returns-in-Name c =
    let a = c.args in
    let w = c.in-Name.w in
    let e = c.in-Name.is in
    let six : length a.h.name ≡ 6 = search rules in
    let few : w ≤ 6 = leb-true w 6 (rw e at c.requires.form_value) in
    let wide : length a.d.now ≡ w = c.requires.d_len ∙ ap width_of e in
    let z : w - 0 ≡ w = omega arith in
    let long : length (take (w - 0) a.h.name) ≡ length a.d.now = length-take-le (w - 0) a.h.name (omega arith) ∙ omega (arith, wide) in
    rw e (c.copy.ensures ∙ copied a.d.now (take (w - 0) a.h.name) long ∙ ap (λ (n : ℕ). take n a.h.name) z)

pub returns-in-Switch : goal.returns-in-Switch
unfolding field_text held_is width_of
returns-in-Switch c = rw c.in-Switch.is (one_byte c.args.d.now _ (c.requires.d_len ∙ ap width_of c.in-Switch.is) ∙ ap (λ (b : ℕ). b ∷ []) c.switch_byte.ensures)

pub returns-in-Digit : goal.returns-in-Digit
unfolding field_text held_is width_of
returns-in-Digit c = rw c.in-Digit.is (one_byte c.args.d.now _ (c.requires.d_len ∙ ap width_of c.in-Digit.is) ∙ ap (λ (b : ℕ). b ∷ []) c.digit_byte.ensures)
