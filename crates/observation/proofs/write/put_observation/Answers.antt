-- `observation::write::put_observation` meets its contract: P and three groups, one after the other.
use native.Mathlib.Omega.{arith}
use mathlib.Core.Path.{◌≡◌, refl}
use Prim.Native.Nat.{◌+◌}
use mathlib.Core.List.{[], ◌∷◌, ◌++◌}
use lib.ListN.{length, length-set, length-append}
use Rattle.observation.specs.Figures.{figures_text}
use Rattle.observation.specs.Rows.{air_rows, water_rows}
use Rattle.observation.specs.Record.{position_figures, air_figures, water_figures, observation_text}
use Rattle.observation.proofs.Text.{whole-text}
use Rattle.observation.proofs.RoundTrip.{figures-length}
use Rattle.observation.proofs.Figures.{total}
use Rattle.observation.proofs.write.put_observation.Goals as goal
use Rattle.observation.proofs.write.put_observation.Goals.{After-put_air, After-put_position}

-- the buffer keeps its length
after-position : (c : After-put_position)
    → length c.put_position.new.d ≡ 16 + c.args.n
after-position c =
    omega (arith, c.put_position.auto.d, length-set c.args.d.now 0 c.args.o.kind, c.requires.n_bound)

after-air : (c : After-put_air)
    → length c.put_air.new.d ≡ 16 + c.args.n
after-air c =
    let after-position : length c.put_position.new.d ≡ 16 + c.args.n =
    omega (arith, c.put_position.auto.d, length-set c.args.d.now 0 c.args.o.kind, c.requires.n_bound) in
    omega (arith, c.put_air.auto.d, after-position)

pub put_position-requires : goal.put_position-requires
put_position-requires c =
    let w = c.requires.width_bound in
    record { width_bound = (w.0, w.1, w.2, rw (length-set c.args.d.now 0 c.args.o.kind) (omega (arith, c.requires.n_bound))); p_value = w.3.position }

pub put_air-requires : goal.put_air-requires
put_air-requires c =
    (omega (arith, after-position (goal.at.put_air-requires c).After-put_position), c.requires.width_bound.3.air)

pub put_water-requires : goal.put_water-requires
put_water-requires c =
    (omega (arith, after-air (goal.at.put_water-requires c).After-put_air), c.requires.width_bound.3.water)

pub returns : goal.returns
unfolding observation_text total
returns c =
    let a = c.args in
    let rows = a.a ∷ a.b ∷ a.c ∷ [] in
    let x = figures_text rows (position_figures a.o.position) in
    let y = figures_text air_rows (air_figures a.o.air) in
    let z = figures_text water_rows (water_figures a.o.water) in
    let i = figures-length rows (position_figures a.o.position) refl in
    let j = figures-length air_rows (air_figures a.o.air) refl in
    let k = length-append z (a.o.water.quality ∷ []) in
    let l = figures-length water_rows (water_figures a.o.water) refl in
    rw (c.put_water.ensures, c.put_air.ensures, c.put_position.ensures)
    (whole-text a.d.now a.o.kind x y (z ++ a.o.water.quality ∷ []) (1 + a.n) (10 + a.n) (omega (arith, c.requires.n_bound)) (omega arith) (omega (arith, c.requires.n_bound)) (omega (arith, c.requires.n_bound)))
