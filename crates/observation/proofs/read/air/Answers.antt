-- `observation::read::air` meets its contract: four figures, the first refusal stays.
use mathlib.Core.Path.{◌≡◌, sym, ◌∙◌}
use Prim.Native.Nat.{◌+◌}
use Rattle.std.specs.Prelude.{Ok}
use Rattle.text.specs.Parts.{part}
use Rattle.std.proofs.lemmas.Result.{err_from_is_err_and}
use Rattle.observation.specs.Figures.{read_figure}
use Rattle.observation.specs.Rows.{altitude_row, temperature_row, direction_row, speed_row}
use Rattle.observation.proofs.Offsets.{air-from}
use Rattle.observation.proofs.read.air.Goals as goal
use Rattle.observation.proofs.read.air.Goals.{In_ok-altitude, In_ok-temperature, In_ok-direction, In_ok-speed}

-- each figure as it was read
altitude : (c : In_ok-altitude) → let a = c.args in read_figure altitude_row (a.at + a.from) (part a.from 3 a.s.now) ≡ Ok c.in_ok-altitude.altitude
altitude c = sym c.field.ensures ∙ c.in_ok-altitude.was

temperature : (c : In_ok-temperature) → let a = c.args in read_figure temperature_row (a.at + (a.from + 3)) (part (a.from + 3) 2 a.s.now) ≡ Ok c.in_ok-temperature.temperature
temperature c = sym c.field-2.ensures ∙ c.in_ok-temperature.was

direction : (c : In_ok-direction) → let a = c.args in read_figure direction_row (a.at + (a.from + 3 + 2)) (part (a.from + 3 + 2) 2 a.s.now) ≡ Ok c.in_ok-direction.direction
direction c = sym c.field-3.ensures ∙ c.in_ok-direction.was

speed : (c : In_ok-speed) → let a = c.args in read_figure speed_row (a.at + (a.from + 3 + 2 + 2)) (part (a.from + 3 + 2 + 2) 2 a.s.now) ≡ Ok c.in_ok-speed.speed
speed c = sym c.field-4.ensures ∙ c.in_ok-speed.was

pub returns-in_err-altitude : goal.returns-in_err-altitude
returns-in_err-altitude c =
    let a = c.args in
    let p = err_from_is_err_and c.from_residual.result c.from_residual.ensures.1 in
    rw (p.1, p.2, air-from a.at a.from a.s.now, sym c.field.ensures ∙ c.in_err-altitude.was)

pub returns-in_err-temperature : goal.returns-in_err-temperature
returns-in_err-temperature c =
    let a = c.args in
    let p = err_from_is_err_and c.from_residual-in_err-temperature.result c.from_residual-in_err-temperature.ensures.1 in
    rw (p.1, p.2, air-from a.at a.from a.s.now, altitude (goal.at.returns-in_err-temperature c).In_ok-altitude, sym c.field-2.ensures ∙ c.in_err-temperature.was)

pub returns-in_err-direction : goal.returns-in_err-direction
returns-in_err-direction c =
    let a = c.args in
    let p = err_from_is_err_and c.from_residual-in_err-direction.result c.from_residual-in_err-direction.ensures.1 in
    rw (p.1, p.2, air-from a.at a.from a.s.now, altitude (goal.at.returns-in_err-direction c).In_ok-altitude, temperature (goal.at.returns-in_err-direction c).In_ok-temperature, sym c.field-3.ensures ∙ c.in_err-direction.was)

pub returns-in_err-speed : goal.returns-in_err-speed
returns-in_err-speed c =
    let a = c.args in
    let p = err_from_is_err_and c.from_residual-in_err-speed.result c.from_residual-in_err-speed.ensures.1 in
    rw (p.1, p.2, air-from a.at a.from a.s.now, altitude (goal.at.returns-in_err-speed c).In_ok-altitude, temperature (goal.at.returns-in_err-speed c).In_ok-temperature, direction (goal.at.returns-in_err-speed c).In_ok-direction, sym c.field-4.ensures ∙ c.in_err-speed.was)

pub returns : goal.returns
returns c =
    let a = c.args in
    rw (air-from a.at a.from a.s.now, altitude (goal.at.returns c).In_ok-altitude, temperature (goal.at.returns c).In_ok-temperature, direction (goal.at.returns c).In_ok-direction, speed (goal.at.returns c).In_ok-speed) c.air_of.ensures
