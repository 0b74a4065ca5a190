-- `observation::write::put_air` meets its contract: four figures, one after the other.
use borrow.Author.Rules.{rules}
use native.Mathlib.Omega.{arith}
use lib.Dec.{lit<}
use Rattle.observation.proofs.Text.{written-text, fits-at}
use Rattle.observation.specs.Rows.{air_rows}
use Rattle.observation.specs.Record.{air_figures}
use Rattle.observation.proofs.Figures.{total}
use Rattle.observation.proofs.write.put_air.Goals as goal

pub put_field-requires : goal.put_field-requires
put_field-requires c =
    let a = c.args in
    (search rules, search rules, fits-at air_rows (air_figures a.air) c.requires.1 0 (lit< tt) (lit< tt))

pub put_field-requires-2 : goal.put_field-requires-2
put_field-requires-2 c =
    let a = c.args in
    (search rules, search rules, fits-at air_rows (air_figures a.air) c.requires.1 1 (lit< tt) (lit< tt))

pub put_field-requires-3 : goal.put_field-requires-3
put_field-requires-3 c =
    let a = c.args in
    (search rules, search rules, fits-at air_rows (air_figures a.air) c.requires.1 2 (lit< tt) (lit< tt))

pub put_field-requires-4 : goal.put_field-requires-4
put_field-requires-4 c =
    let a = c.args in
    (search rules, search rules, fits-at air_rows (air_figures a.air) c.requires.1 3 (lit< tt) (lit< tt))

pub returns : goal.returns
unfolding total
returns c =
    let a = c.args in
    rw (c.put_field-4.ensures, c.put_field-3.ensures, c.put_field-2.ensures, c.put_field.ensures)
    (written-text air_rows (air_figures a.air) a.from a.d.now (omega (arith, c.requires.0)))
