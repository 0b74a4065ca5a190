use borrow.Author.Rules.{rules}
use native.Mathlib.Omega.{arith}
use Prim.Native.Nat.{◌-◌, ◌≤◌}
use mathlib.Core.Path.{◌≡◌}
use lib.ListN.{length}
use Rattle.sheet.proofs.Small.{small-parts}
use lib.Seq.{length-take-le}
use Rattle.sheet.specs.Inner.{small_form}
use mathlib.Core.Bool.{true}
use Rattle.sheet.proofs.check.check_cell.Goals as goal
use Rattle.sheet.proofs.check.check_cell.Goals.{Start}

-- its numbers are small
parts : (c : Start) → (c.args.c.at ≤ 2000) × ((c.args.c.labelled ≤ 16) × (small_form c.args.c.form ≡ true))
parts c = small-parts c.args.c c.requires

label-long : (c : Start) → length c.args.c.label ≡ 16
label-long c = search rules

bare : (c : Start) → c.args.c.labelled - 0 ≡ c.args.c.labelled
bare c = omega arith

pub slice_bounds-fixed_code-end : goal.slice_bounds-fixed_code-end
slice_bounds-fixed_code-end c = omega (arith, (parts (goal.at.slice_bounds-fixed_code-end c).Start).1.0, label-long (goal.at.slice_bounds-fixed_code-end c).Start)

pub fixed_code-requires : goal.fixed_code-requires
fixed_code-requires c = (omega (arith, (parts (goal.at.fixed_code-requires c).Start).0), rw (bare (goal.at.fixed_code-requires c).Start, length-take-le c.args.c.labelled c.args.c.label (omega (arith, (parts (goal.at.fixed_code-requires c).Start).1.0, label-long (goal.at.fixed_code-requires c).Start))) (omega (arith, (parts (goal.at.fixed_code-requires c).Start).1.0)))

pub overflow_add-at : goal.overflow_add-at
overflow_add-at c = omega (arith, (parts (goal.at.overflow_add-at c).Start).0, (parts (goal.at.overflow_add-at c).Start).1.0)

pub check_field-requires : goal.check_field-requires
check_field-requires c = record { form_value = (parts (goal.at.check_field-requires c).Start).1.1; p_bound = omega (arith, (parts (goal.at.check_field-requires c).Start).0, (parts (goal.at.check_field-requires c).Start).1.0) }
