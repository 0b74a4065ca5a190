use Prim.Native.Nat.{ℕ, ◌+◌, ◌≤◌}
use mathlib.Core.Path.{sym, ap, ◌∙◌}
use native.Mathlib.Omega.{arith}
use lib.ListN.{length}
use Rattle.sheet.specs.Layout.{width_of}
use Rattle.sheet.specs.declared.Form.TheVariants.{Digit}
use Rattle.std.specs.Prelude.{Result, is_ok}
use Rattle.text.specs.declared.Code.{Code}
use Rattle.sheet.proofs.Small.{small-parts, small-digit}
use Rattle.sheet.proofs.Short.{field_room, framed_fine, digit-fine}
use Rattle.sheet.proofs.fine.is_status.Goals as goal
use Rattle.sheet.proofs.fine.is_status.Goals.{In-Digit}

-- the field's bytes are there
room : (c : In-Digit)
    → let a = c.args in
    a.c.at + a.c.labelled + 1 ≤ length a.s.now
unfolding width_of
room c =
    field_room c.args.s.now c.args.c _ c.in-Digit.is c.requires.1.1

pub bounds-s-p : goal.bounds-s-p
bounds-s-p c = omega (arith, room (goal.at.bounds-s-p c).In-Digit)

pub read_digit-requires : goal.read_digit-requires
read_digit-requires c =
    small-digit _ (rw c.in-Digit.is at (small-parts c.args.c c.requires.0).1.1)

pub returns-in-Digit : goal.returns-in-Digit
returns-in-Digit c =
    let a = c.args in
    let most : ℕ = c.in-Digit.most in
    λ e.
    framed_fine a.s.now a.c (Digit most) c.in-Digit.is c.requires.1.1
    (c.is_framed.ensures c.if-not-is_framed.false)
    (digit-fine a.s.now (a.c.at + a.c.labelled) most (ap (λ (x : Result ℕ Code). is_ok x) (sym c.read_digit.ensures) ∙ sym c.is_ok.ensures.value ∙ e))
