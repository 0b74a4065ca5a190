use borrow.Author.Rules.{rules}
use native.Mathlib.Omega.{arith}
use Prim.Native.Nat.{ℕ, ◌+◌, ◌-◌}
use mathlib.Core.Path.{◌≡◌, refl, sym, ap, ◌∙◌}
use Rattle.sheet.specs.Layout.{width_of}
use Rattle.std.specs.Prelude.{Result, is_ok}
use Rattle.text.specs.declared.Code.{Code}
use Rattle.sheet.proofs.Small.{small-parts}
use Rattle.sheet.proofs.Short.{framed_fine}
use Rattle.sheet.proofs.fine.is_cell.Goals as goal

pub read_bytes-requires : goal.read_bytes-requires
read_bytes-requires c =
    record { form_value = (small-parts c.args.c c.requires.0).1.1; f_len = search rules }

pub returns : goal.returns
returns c =
    let a = c.args in
    let p : ℕ = a.c.at + a.c.labelled in
    let wide : p + c.width_of.result - p ≡ width_of a.c.form = omega (arith, c.width_of.ensures) in
    λ e.
    framed_fine a.s.now a.c a.c.form refl c.requires.1.1
    (c.is_framed.ensures c.if-not-is_framed.false)
    (rw wide at (ap (λ (x : Result ℕ Code). is_ok x) (sym c.read_bytes.ensures) ∙ sym c.is_ok.ensures.value ∙ e))
