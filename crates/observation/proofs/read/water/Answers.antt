-- `observation::read::water` meets its contract: two figures and the quality.
use mathlib.Core.Path.{◌≡◌, sym, ◌∙◌}
use Prim.Native.Nat.{◌+◌}
use Rattle.std.specs.Prelude.{Ok}
use Rattle.text.specs.Parts.{part}
use native.Mathlib.Nat.{add_assoc}
use Rattle.std.proofs.lemmas.Result.{err_from_is_err_and}
use Rattle.observation.specs.Figures.{read_figure}
use Rattle.observation.specs.Rows.{speed_row, vapour_row}
use Rattle.observation.proofs.Offsets.{water-from}
use Rattle.observation.proofs.read.water.Goals as goal
use Rattle.observation.proofs.read.water.Goals.{In_ok-gust, In_ok-vapour}

-- each figure as it was read
gust : (c : In_ok-gust) → let a = c.args in read_figure speed_row (a.at + a.from) (part a.from 2 a.s.now) ≡ Ok c.in_ok-gust.gust
gust c = sym c.field.ensures ∙ c.in_ok-gust.was

vapour : (c : In_ok-vapour) → let a = c.args in read_figure vapour_row (a.at + (a.from + 2)) (part (a.from + 2) 3 a.s.now) ≡ Ok c.in_ok-vapour.vapour
vapour c = sym c.field-2.ensures ∙ c.in_ok-vapour.was

pub returns-in_err-gust : goal.returns-in_err-gust
returns-in_err-gust c =
    let a = c.args in
    let p = err_from_is_err_and c.from_residual.result c.from_residual.ensures.1 in
    rw (p.1, p.2, water-from a.at a.from a.s.now, sym c.field.ensures ∙ c.in_err-gust.was)

pub returns-in_err-vapour : goal.returns-in_err-vapour
returns-in_err-vapour c =
    let a = c.args in
    let p = err_from_is_err_and c.from_residual-in_err-vapour.result c.from_residual-in_err-vapour.ensures.1 in
    rw (p.1, p.2, water-from a.at a.from a.s.now, gust (goal.at.returns-in_err-vapour c).In_ok-gust, sym c.field-2.ensures ∙ c.in_err-vapour.was)

pub returns-then-is_quality : goal.returns-then-is_quality
returns-then-is_quality c =
    let a = c.args in
    rw (water-from a.at a.from a.s.now, gust (goal.at.returns-then-is_quality c).In_ok-gust, vapour (goal.at.returns-then-is_quality c).In_ok-vapour, sym c.is_quality.ensures ∙ c.if-is_quality.true)

pub returns-else-is_quality : goal.returns-else-is_quality
returns-else-is_quality c =
    let a = c.args in
    rw (c.at.ensures, ← add_assoc a.at a.from 5, water-from a.at a.from a.s.now, gust (goal.at.returns-else-is_quality c).In_ok-gust, vapour (goal.at.returns-else-is_quality c).In_ok-vapour, sym c.is_quality.ensures ∙ c.if-is_quality.false)
