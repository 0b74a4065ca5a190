-- `observation::read::position` meets its contract: three figures, the first refusal stays.
use mathlib.Core.Path.{◌≡◌, sym, ◌∙◌}
use Prim.Native.Nat.{◌+◌}
use Rattle.std.specs.Prelude.{Ok}
use Rattle.text.specs.Parts.{part}
use mathlib.Core.List.{[], ◌∷◌}
use Rattle.std.proofs.lemmas.Result.{err_from_is_err_and}
use Rattle.observation.specs.Figures.{read_figure}
use Rattle.observation.proofs.Offsets.{position_from_lem}
use Rattle.observation.proofs.read.position.Goals as goal
use Rattle.observation.proofs.read.position.Goals.{In_ok-latitude, In_ok-longitude, In_ok-time}

-- each figure as it was read
latitude : (c : In_ok-latitude) → let a = c.args in read_figure a.a (a.at + 1) (part 1 a.a.width a.s.now) ≡ Ok c.in_ok-latitude.latitude
latitude c = sym c.field.ensures ∙ c.in_ok-latitude.was

longitude : (c : In_ok-longitude) → let a = c.args in read_figure a.b (a.at + (1 + a.a.width)) (part (1 + a.a.width) a.b.width a.s.now) ≡ Ok c.in_ok-longitude.longitude
longitude c = sym c.field-2.ensures ∙ c.in_ok-longitude.was

time : (c : In_ok-time) → let a = c.args in read_figure a.c (a.at + (1 + a.a.width + a.b.width)) (part (1 + a.a.width + a.b.width) a.c.width a.s.now) ≡ Ok c.in_ok-time.time
time c = sym c.field-3.ensures ∙ c.in_ok-time.was

pub returns-in_err-latitude : goal.returns-in_err-latitude
returns-in_err-latitude c =
    let a = c.args in
    let p = err_from_is_err_and c.from_residual.result c.from_residual.ensures.1 in
    rw (p.1, p.2, position_from_lem a.at 1 a.s.now (a.a ∷ a.b ∷ a.c ∷ []), sym c.field.ensures ∙ c.in_err-latitude.was)

pub returns-in_err-longitude : goal.returns-in_err-longitude
returns-in_err-longitude c =
    let a = c.args in
    let p = err_from_is_err_and c.from_residual-in_err-longitude.result c.from_residual-in_err-longitude.ensures.1 in
    rw (p.1, p.2, position_from_lem a.at 1 a.s.now (a.a ∷ a.b ∷ a.c ∷ []), latitude (goal.at.returns-in_err-longitude c).In_ok-latitude, sym c.field-2.ensures ∙ c.in_err-longitude.was)

pub returns-in_err-time : goal.returns-in_err-time
returns-in_err-time c =
    let a = c.args in
    let p = err_from_is_err_and c.from_residual-in_err-time.result c.from_residual-in_err-time.ensures.1 in
    rw (p.1, p.2, position_from_lem a.at 1 a.s.now (a.a ∷ a.b ∷ a.c ∷ []), latitude (goal.at.returns-in_err-time c).In_ok-latitude, longitude (goal.at.returns-in_err-time c).In_ok-longitude, sym c.field-3.ensures ∙ c.in_err-time.was)

pub returns : goal.returns
returns c =
    let a = c.args in
    rw (position_from_lem a.at 1 a.s.now (a.a ∷ a.b ∷ a.c ∷ []), latitude (goal.at.returns c).In_ok-latitude, longitude (goal.at.returns c).In_ok-longitude, time (goal.at.returns c).In_ok-time)
