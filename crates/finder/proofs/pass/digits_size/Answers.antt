use native.Mathlib.Omega.{arith}
use mathlib.Core.Path.{◌≡◌, ap, ◌∙◌}
use Prim.Native.Nat.{◌≤◌, ◌<◌}
use lib.ListN.{length, get_or}
use Rattle.section.specs.declared.Row.{Row}
use Rattle.section.specs.Layout.{no_row, table_of}
use Rattle.section.proofs.Rows.{small_row, table-small, laid_row}
use Rattle.finder.proofs.Sizes.{width_turn, width_end}
use Rattle.finder.proofs.pass.digits_size.Goals as goal

pub loop-i-preserved : goal.loop-i-preserved
loop-i-preserved c =
    let rows = (table_of c.args.k).rows in
    let i = c.loop-i.i in
    let there : i < length rows = omega (arith, c.layout_of-l.ensures.count) in
    let width : c.wide-size.result ≡ (get_or rows i no_row).width = c.wide-size.ensures ∙ ap (λ (r : Row). r.width) (laid_row c.layout_of-l.ensures i there) in
    let small : (get_or rows i no_row).width ≤ 3 = (small_row rows i no_row there (table-small c.args.k).1).0 in
    let turn = width_turn rows i there in
    (omega arith, omega arith)

pub returns : goal.returns
returns c =
    let rows = (table_of c.args.k).rows in
    let few = (table-small c.args.k).0 in
    let none = width_end rows c.loop-i.i (omega (arith, c.layout_of-l.ensures.count)) in
    (omega arith, omega (arith, c.layout_of-l.ensures.count))
