use Prim.Native.Nat.{ℕ, ◌+◌, ◌-◌, ◌≤◌}
use mathlib.Core.Path.{◌≡◌, sym, ◌∙◌}
use native.Mathlib.Omega.{arith}
use lib.ListN.{length}
use Rattle.sheet.specs.Layout.{width_of}
use Rattle.sheet.specs.declared.Form.TheVariants.{Name}
use Rattle.sheet.proofs.Short.{field_room, framed_fine, name_fine}
use Rattle.sheet.proofs.fine.is_name.Goals as goal
use Rattle.sheet.proofs.fine.is_name.Goals.{In-Name}

-- the field's bytes are there
room : (c : In-Name)
    → let a = c.args in
    a.c.at + a.c.labelled + c.in-Name.w ≤ length a.s.now
unfolding width_of
room c =
    field_room c.args.s.now c.args.c _ c.in-Name.is c.requires.1.1

pub overflow_add-end : goal.overflow_add-end
overflow_add-end c = omega (arith, room (goal.at.overflow_add-end c).In-Name)

pub slice_bounds-all_allowed-end : goal.slice_bounds-all_allowed-end
slice_bounds-all_allowed-end c = omega (arith, room (goal.at.slice_bounds-all_allowed-end c).In-Name)

pub returns-in-Name : goal.returns-in-Name
returns-in-Name c =
    let a = c.args in
    let p : ℕ = a.c.at + a.c.labelled in
    let w : ℕ = c.in-Name.w in
    let wide : p + w - p ≡ w = omega arith in
    λ e.
    framed_fine a.s.now a.c (Name w) c.in-Name.is c.requires.1.1
    (c.is_framed.ensures c.if-not-is_framed.false)
    (name_fine a.s.now p w (rw wide at (sym c.all_allowed.ensures ∙ e)))
