-- A cell with a short fixed group: its bytes one by one, and what makes it fine.
use mathlib.Core.Path.{◌≡◌, refl, sym, ap, ◌∙◌}
use mathlib.Core.Bool.{true, false}
use mathlib.Core.List.{List}
use Prim.Native.Nat.{ℕ, zero, suc, ◌+◌, ◌≤◌, ◌<◌}
use native.Mathlib.Omega.{arith}
use native.Mathlib.Nat.{add-zero}
use lib.ListN.{length, get_or, take, drop}
use lib.Seq.{length-take-le, get_or-take, get_or-drop, ext_get_or}
use borrow.Author.Tests.{le-leb}
use Rattle.text.specs.Parts.{part}
use Rattle.text.proofs.Equal.{equal-same}
use Rattle.field.proofs.Decimal.{part-long}
use Rattle.text.specs.Names.{all_allowed}
use Rattle.sheet.specs.declared.Limits.{Limits}
use Rattle.sheet.specs.declared.Form.{Form}
use Rattle.sheet.specs.declared.Form.TheVariants.{Name, Digit, Number}
use Rattle.sheet.specs.declared.Cell.{Cell}
use Rattle.sheet.specs.Number.{number_read}
use Rattle.sheet.specs.Layout.{width_of}
use Rattle.sheet.specs.Sheet.{field_at, cell_end, digit_read, bytes_read, field_read, fixed_code, check_cell}
use Rattle.sheet.specs.Inner.{Framed}
use Rattle.sheet.proofs.Contents.{ok-seen}
use Rattle.sheet.proofs.Small.{not-held}
use Rattle.std.specs.Prelude.{Result, Ok, Err, is_ok, is_err}
use Rattle.text.specs.declared.Refusal.{Refusal}

module _ (label s : List ℕ) (at n : ℕ) (long : n ≤ length label) (room : at + n ≤ length s) where
  size : length (take n label) ≡ n
  size = length-take-le n label long

  byte_in : (i : ℕ) → i < n → get_or (part at n s) i 0 ≡ get_or s (at + i) 0
  byte_in i h = get_or-take n (drop at s) i 0 h ∙ get_or-drop at s i 0

  -- no byte differs
  pub short-same : ((i : ℕ) → i < n → get_or s (at + i) 0 ≡ get_or label i 0) → fixed_code (take n label) s at ≡ Ok tt
  unfolding fixed_code
  short-same same =
      let wide = part-long s at n room in
      let equal : part at n s ≡ take n label =
      ext_get_or 0 (part at n s) (take n label) (wide ∙ sym size)
      (λ (i : ℕ) (h : i < length (part at n s)). let few : i < n = omega arith in byte_in i few ∙ same i few ∙ sym (get_or-take n label i 0 few)) in
      rw (size, le-leb (at + n) (length s) room, equal-same (part at n s) (take n label) equal)

-- what holds of the first four
pub four : (P : ℕ → Type 0) → P 0 → P 1 → P 2 → P 3 → (i : ℕ) → i < 4 → P i
four P a b c d zero h = a
four P a b c d (suc zero) h = b
four P a b c d (suc (suc zero)) h = c
four P a b c d (suc (suc (suc zero))) h = d
four P a b c d (suc (suc (suc (suc i)))) h = absurd (omega arith)

-- a check that found nothing wrong
pub err-not : (x : Result (Unit {0}) Refusal) → is_err x ≡ false → x ≡ Ok tt
err-not (Ok u) e = refl
err-not (Err r) e = not-held (sym e)

-- ---- the field, whose form is known

module _ (s : List ℕ) (c : Cell) (f : Form) (is : c.form ≡ f) (room : cell_end c ≤ length s) where
  pub field_room : field_at c + width_of f ≤ length s
  field_room = rw (← is) (omega arith)

  pub framed_fine : Framed s c → is_ok (bytes_read f (part (field_at c) (width_of f) s)) ≡ true → check_cell s c ≡ (Ok tt)
  unfolding check_cell field_read
  framed_fine frame field =
      rw (frame.0, le-leb (field_at c + width_of c.form) (length s) (omega arith), is, ok-seen (bytes_read f (part (field_at c) (width_of f) s)) (field_at c) field) (rw is at frame.1)

module _ (s : List ℕ) (p : ℕ) where
  pub name_fine : (w : ℕ) → all_allowed (part p w s) ≡ true → is_ok (bytes_read (Name w) (part p (width_of (Name w)) s)) ≡ true
  unfolding bytes_read width_of
  name_fine w e = rw e

  pub digit-fine : (most : ℕ) → is_ok (digit_read most (get_or s p 0)) ≡ true → is_ok (bytes_read (Digit most) (part p (width_of (Digit most)) s)) ≡ true
  unfolding bytes_read width_of
  digit-fine most e =
      let byte : get_or (part p 1 s) 0 0 ≡ get_or s p 0 = get_or-take 1 (drop p s) 0 0 (omega arith) ∙ get_or-drop p s 0 0 ∙ ap (λ (i : ℕ). get_or s i 0) (add-zero p) in
      rw (byte, e)

  pub number-fine : (w : ℕ) (l : Limits) → is_ok (number_read l (part p w s)) ≡ true → is_ok (bytes_read (Number w l) (part p (width_of (Number w l)) s)) ≡ true
  unfolding bytes_read width_of
  number-fine w l e = e
