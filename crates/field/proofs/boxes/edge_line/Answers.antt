-- `field::boxes::edge_line` meets its contract: its number has three digits at the most.
use native.Mathlib.Omega.{arith}
use Prim.Native.Nat.{◌<◌}
use mathlib.Core.Path.{◌≡◌, sym, ◌∙◌}
use Rattle.std.specs.Prelude.{Some}
use Rattle.text.specs.Parts.{part}
use Rattle.field.specs.Steps.{number_or}
use Rattle.field.proofs.Decimal.{part-long}
use Rattle.field.proofs.Number.{number_small}
use Rattle.field.proofs.boxes.edge_line.Goals as goal
use Rattle.field.proofs.boxes.edge_line.Goals.{In_ok-n}

small : (c : In_ok-n) → c.in_ok-n.n < 1000
small c =
    let a = c.args in
    let read : number_or (part a.at a.c.width a.s.now) ≡ Some c.in_ok-n.n =
    sym c.number_at.ensures ∙ c.ok_or.ensures.ok_part ∙ rw c.in_ok-n.was in
    number_small (part a.at a.c.width a.s.now) c.in_ok-n.n read (omega (arith, part-long a.s.now a.at a.c.width (omega arith)))

pub overflow_sub-result : goal.overflow_sub-result
overflow_sub-result c = omega (arith, small (goal.at.overflow_sub-result c).In_ok-n)

pub overflow_add-result : goal.overflow_add-result
overflow_add-result c = omega (arith, small (goal.at.overflow_add-result c).In_ok-n)
