-- `field::read::region_at` meets its contract: four accepted edges.
use native.Mathlib.Omega.{arith}
use Prim.Native.Nat.{ℕ, ◌+◌, ◌≤◌, ◌<◌}
use mathlib.Core.Path.{◌≡◌}
use mathlib.Core.Bool.{true}
use mathlib.Core.List.{List}
use lib.Dec.{lit≤}
use lib.ListN.{length}
use Rattle.text.specs.Parts.{part}
use Rattle.field.specs.declared.Circle.{Circle}
use Rattle.field.specs.Decimal.{all_digits, value}
use Rattle.field.specs.Boxes.{region_at, edge_at, latitude, longitude, check_edge}
use Rattle.field.proofs.Accepted.{Box, box, edge}
use Rattle.field.proofs.read.region_at.Goals as goal
use Rattle.field.proofs.read.region_at.Goals.{Start}
use Rattle.std.specs.Prelude.{Ok}

-- what an accepted edge has
asked : (c : Circle) (s : List ℕ) (at p : ℕ) → c.width ≤ 3 → c.most ≤ 255 → check_edge c s at ≡ Ok p
    → ((at + (c.width + 1) ≤ length s) × (c.width ≤ 3)) × ((all_digits (part at c.width s) ≡ true) × (value (part at c.width s) < 256))
asked c s at p narrow small e =
    let r = edge c s at p e in
    ((r.room, narrow), (r.digits, omega (arith, r.most)))

-- the box was accepted
boxed : (c : Start) → Box c.args.s.now c.args.at
boxed c = (box _ _ _ c.requires).1

room : (c : Start) → c.args.at + 10 + 4 ≤ length c.args.s.now
room c = (edge longitude c.args.s.now (c.args.at + 10) (c.args.at + 14) (boxed c).east).room

pub overflow_add-south : goal.overflow_add-south
overflow_add-south c = omega (arith, room (goal.at.overflow_add-south c).Start)

pub overflow_add-west : goal.overflow_add-west
overflow_add-west c = omega (arith, room (goal.at.overflow_add-west c).Start)

pub overflow_add-east : goal.overflow_add-east
overflow_add-east c = omega (arith, room (goal.at.overflow_add-east c).Start)

pub edge_at-requires : goal.edge_at-requires
edge_at-requires c =
    let r = asked latitude _ _ _ (lit≤ tt) (lit≤ tt) (boxed (goal.at.edge_at-requires c).Start).north in
    record { w_in_bounds = r.0; s_value = r.1.0; s_bound = r.1.1 }

pub edge_at-requires-2 : goal.edge_at-requires-2
edge_at-requires-2 c =
    let r = asked latitude _ _ _ (lit≤ tt) (lit≤ tt) (boxed (goal.at.edge_at-requires-2 c).Start).south in
    record { w_in_bounds = r.0; s_value = r.1.0; s_bound = r.1.1 }

pub edge_at-requires-3 : goal.edge_at-requires-3
edge_at-requires-3 c =
    let r = asked longitude _ _ _ (lit≤ tt) (lit≤ tt) (boxed (goal.at.edge_at-requires-3 c).Start).west in
    record { w_in_bounds = r.0; s_value = r.1.0; s_bound = r.1.1 }

pub edge_at-requires-4 : goal.edge_at-requires-4
edge_at-requires-4 c =
    let r = asked longitude _ _ _ (lit≤ tt) (lit≤ tt) (boxed (goal.at.edge_at-requires-4 c).Start).east in
    record { w_in_bounds = r.0; s_value = r.1.0; s_bound = r.1.1 }

pub returns : goal.returns
unfolding region_at edge_at
returns c = rw (c.edge_at-4.ensures, c.edge_at-3.ensures, c.edge_at-2.ensures, c.edge_at.ensures)
