use native.Mathlib.Omega.{arith}
use Prim.Native.Nat.{◌≤◌}
use mathlib.Core.Path.{◌≡◌}
use mathlib.Core.Bool.{true}
use Rattle.sheet.specs.Inner.{small_form}
use Rattle.sheet.proofs.Small.{small-parts, small_width}
use Rattle.sheet.proofs.fine.is_framed.Goals as goal
use Rattle.sheet.proofs.fine.is_framed.Goals.{Start}

parts : (c : Start) → (c.args.c.at ≤ 2000) × ((c.args.c.labelled ≤ 16) × (small_form c.args.c.form ≡ true))
parts c = small-parts c.args.c c.requires.0

pub is_labelled-requires : goal.is_labelled-requires
is_labelled-requires c = (omega (arith, (parts (goal.at.is_labelled-requires c).Start).0), (c.requires.1.0, omega (arith, c.requires.1.1)))

pub line_end-requires : goal.line_end-requires
line_end-requires c =
    omega (arith, (parts (goal.at.line_end-requires c).Start).0, c.requires.1.0, small_width _ (parts (goal.at.line_end-requires c).Start).1.1, c.width_of.ensures)
