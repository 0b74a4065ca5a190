-- `observation::write::put_water` meets its contract: two figures, and the quality behind them.
use borrow.Author.Rules.{rules}
use native.Mathlib.Omega.{arith}
use mathlib.Core.Path.{◌≡◌, refl, ap, ◌∙◌}
use lib.Dec.{lit<}
use Rattle.observation.proofs.Text.{written-text, fits-at, then_byte}
use Rattle.observation.specs.Rows.{water_rows}
use Rattle.observation.specs.Record.{water_figures}
use Prim.Native.Nat.{ℕ, ◌+◌}
use mathlib.Core.List.{List}
use lib.ListN.{length, set}
use Rattle.observation.proofs.RoundTrip.{figures-length}
use Rattle.observation.specs.Figures.{figures_text}
use Rattle.observation.proofs.Figures.{total}
use Rattle.observation.proofs.write.put_water.Goals as goal

pub put_field-requires : goal.put_field-requires
put_field-requires c =
    let a = c.args in
    (search rules, search rules, fits-at water_rows (water_figures a.water) c.requires.1 0 (lit< tt) (lit< tt))

pub put_field-requires-2 : goal.put_field-requires-2
put_field-requires-2 c =
    let a = c.args in
    (search rules, search rules, fits-at water_rows (water_figures a.water) c.requires.1 1 (lit< tt) (lit< tt))

pub returns : goal.returns
unfolding total
returns c =
    let a = c.args in
    rw (c.put_field-2.ensures, c.put_field.ensures)
    (let text = figures_text water_rows (water_figures a.water) in
    let n : length text ≡ 5 = figures-length water_rows (water_figures a.water) refl in
    ap (λ (l : List ℕ). set l (a.from + 2 + 3) a.water.quality) (written-text water_rows (water_figures a.water) a.from a.d.now (omega (arith, c.requires.0)))
    ∙ then_byte a.d.now text a.from (a.from + 2 + 3) a.water.quality (omega arith) (omega (arith, c.requires.0)))
