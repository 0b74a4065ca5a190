use Prim.Native.Nat.{ℕ, ◌+◌, ◌-◌, ◌≤◌}
use mathlib.Core.Path.{◌≡◌, sym, ap, ◌∙◌}
use native.Mathlib.Omega.{arith}
use lib.ListN.{length}
use Rattle.sheet.specs.Layout.{width_of}
use Rattle.std.specs.Prelude.{Result, is_ok}
use Rattle.text.specs.declared.Code.{Code}
use Rattle.sheet.proofs.Small.{small-parts, small-number}
use Rattle.sheet.proofs.Short.{field_room, framed_fine, number-fine}
use Rattle.sheet.proofs.fine.is_number.Goals as goal
use Rattle.sheet.proofs.fine.is_number.Goals.{In-Number}

-- the field's bytes are there
room : (c : In-Number)
    → let a = c.args in
    a.c.at + a.c.labelled + c.in-Number.w ≤ length a.s.now
unfolding width_of
room c =
    field_room c.args.s.now c.args.c _ c.in-Number.is c.requires.1.1

pub overflow_add-end : goal.overflow_add-end
overflow_add-end c = omega (arith, room (goal.at.overflow_add-end c).In-Number)

pub slice_bounds-read_number-end : goal.slice_bounds-read_number-end
slice_bounds-read_number-end c = omega (arith, room (goal.at.slice_bounds-read_number-end c).In-Number)

pub read_number-requires : goal.read_number-requires
read_number-requires c =
    let s = small-number _ _ (rw c.in-Number.is at (small-parts c.args.c c.requires.0).1.1) in
    record { f_len_bound = omega (arith, s.0, room (goal.at.read_number-requires c).In-Number); below_bound = s.1 }

pub returns-in-Number : goal.returns-in-Number
returns-in-Number c =
    let a = c.args in
    let p : ℕ = a.c.at + a.c.labelled in
    let w : ℕ = c.in-Number.w in
    let wide : p + w - p ≡ w = omega arith in
    λ e.
    framed_fine a.s.now a.c _ c.in-Number.is c.requires.1.1
    (c.is_framed.ensures c.if-not-is_framed.false)
    (number-fine a.s.now p w _ (rw wide at (ap (λ (x : Result ℕ Code). is_ok x) (sym c.read_number.ensures) ∙ sym c.is_ok.ensures.value ∙ e)))
