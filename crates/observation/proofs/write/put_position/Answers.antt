-- `observation::write::put_position` meets its contract: three figures, one after the other.
use borrow.Author.Rules.{rules}
use native.Mathlib.Omega.{arith}
use lib.Dec.{lit<}
use mathlib.Core.List.{[], ◌∷◌}
use Rattle.observation.proofs.Text.{written-text, fits-at}
use Rattle.observation.specs.Record.{position_figures}
use Rattle.observation.proofs.Figures.{total}
use Rattle.observation.proofs.write.put_position.Goals as goal

pub put_field-requires : goal.put_field-requires
put_field-requires c =
    let a = c.args in
    (search rules, search rules, fits-at (a.a ∷ a.b ∷ a.c ∷ []) (position_figures a.p) c.requires.p_value 0 (lit< tt) (lit< tt))

pub put_field-requires-2 : goal.put_field-requires-2
put_field-requires-2 c =
    let a = c.args in
    (search rules, search rules, fits-at (a.a ∷ a.b ∷ a.c ∷ []) (position_figures a.p) c.requires.p_value 1 (lit< tt) (lit< tt))

pub put_field-requires-3 : goal.put_field-requires-3
put_field-requires-3 c =
    let a = c.args in
    (search rules, search rules, fits-at (a.a ∷ a.b ∷ a.c ∷ []) (position_figures a.p) c.requires.p_value 2 (lit< tt) (lit< tt))

pub returns : goal.returns
unfolding total
returns c =
    let a = c.args in
    rw (c.put_field-3.ensures, c.put_field-2.ensures, c.put_field.ensures)
    (written-text (a.a ∷ a.b ∷ a.c ∷ []) (position_figures a.p) 1 a.d.now (omega (arith, c.requires.width_bound)))
