use Prim.Native.Nat.{◌<◌, ◌+◌, ◌-◌, ◌*◌}
use mathlib.Core.Path.{◌≡◌, sym, ap, ◌∙◌}
use native.Mathlib.Omega.{arith}
use Rattle.std.specs.Prelude.{Ok}
use Rattle.field.specs.Boxes.{check_box, no_region, region_at}
use Rattle.field.proofs.Repeat.{repeat-next}
use Rattle.field.proofs.Accepted.{box, box-room}
use Rattle.lists.specs.Lists.{regions_at}
use Rattle.lists.proofs.Fill.{fill_turn, regions-more, regions-length}
use Rattle.lists.proofs.read.regions_of.Goals as goal
use Rattle.lists.proofs.read.regions_of.Goals.{In-loop-i}

-- the next box is accepted
accepted : (c : In-loop-i)
    → let at = c.args.from + 14 * c.loop-i.i in
    check_box c.args.s.now at ≡ Ok (at + 14)
accepted c =
    let l = c.loop-i in
    let a = c.args in
    let at = a.from + 14 * l.i in
    let x = repeat-next (check_box a.s.now) a.n l.i at (a.from + 14 * a.n) c.loop-i-test.true l.invariant.0 in
    x.first ∙ ap Ok (sym (box a.s.now at x.mid x.first).0)

pub loop-i-init : goal.loop-i-init
unfolding regions_at
loop-i-init c =
    let e : c.args.n - 0 ≡ c.args.n = omega arith in
    let h : c.args.from + 0 ≡ c.args.from = omega arith in
    (rw (e, h) c.requires.from_value, rw c.no_region-regions.ensures)

pub overflow_add-from : goal.overflow_add-from
overflow_add-from c = omega (arith, box-room _ _ _ (accepted (goal.at.overflow_add-from c).In-loop-i))

pub region_at-requires : goal.region_at-requires
region_at-requires c = accepted (goal.at.region_at-requires c).In-loop-i

pub loop-i-preserved : goal.loop-i-preserved
loop-i-preserved c =
    let l = c.loop-i in
    let a = c.args in
    let s = c.args.s.now in
    let at = a.from + 14 * l.i in
    let x = repeat-next (check_box s) a.n l.i at (a.from + 14 * a.n) c.loop-i-test.true l.invariant.0 in
    let m : x.mid ≡ a.from + 14 * (l.i + 1) = sym (box s at x.mid x.first).0 ∙ omega arith in
    let few : l.i < 16 = omega (arith, c.requires.n_le_most_boxes) in
    (rw m at x.second, rw (l.invariant.1, c.region_at.ensures) (fill_turn (regions_at l.i s a.from) 16 l.i no_region (region_at s at) (regions-length l.i s a.from) few ∙ rw (regions-more l.i s a.from)))
