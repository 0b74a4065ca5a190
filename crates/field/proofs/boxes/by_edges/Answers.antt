-- `field::boxes::by_edges` meets its contract: the latitudes, then the longitudes.
use lib.Dec.{lit≤}
use mathlib.Core.Path.{◌≡◌, sym, ◌∙◌}
use Rattle.field.specs.Boxes.{latitude, north_first, check_pair}
use Rattle.field.proofs.Edges.{box_pairs}
use Rattle.field.proofs.Within.{pair-within}
use Rattle.field.proofs.boxes.by_edges.Goals as goal
use Rattle.field.proofs.boxes.by_edges.Goals.{In_ok-west}
use Rattle.std.specs.Prelude.{Ok}

-- the latitudes are in order
seen : (c : In_ok-west) → check_pair latitude north_first c.args.s.now c.args.at ≡ Ok c.in_ok-west.west
seen c = sym (c.pair.ensures ∙ rw c.latitudes.ensures) ∙ c.in_ok-west.was

pub pair-requires-2 : goal.pair-requires-2
pair-requires-2 c =
    rw c.longitudes.ensures ((rw (seen (goal.at.pair-requires-2 c).In_ok-west) at (pair-within c.args.s.now latitude north_first c.args.at c.requires)).1, lit≤ tt)

pub returns : goal.returns
returns c = rw (box_pairs _ _, seen (goal.at.returns c).In_ok-west, c.pair-2.ensures, c.longitudes.ensures)
