-- `settings::section2::each_boxes_allowed` meets its contract.
use native.Mathlib.Omega.{arith}
use mathlib.Core.Path.{◌≡◌, sym, ◌∙◌}
use Prim.Native.Nat.{◌≤◌}
use Rattle.std.specs.Prelude.{Ok}
use Rattle.lists.specs.Lists.{boxes_allowed}
use Rattle.lists.proofs.RoundTrip.{boxes-held}
use Rattle.settings.proofs.section2.each_boxes_allowed.Goals as goal
use Rattle.settings.proofs.section2.each_boxes_allowed.Goals.{In_ok-boxes_allowed}

-- the first list is allowed
first : (c : In_ok-boxes_allowed) → let a = c.args in boxes_allowed a.at a.x.reporting ≡ Ok (tt {0})
first c = sym c.boxes_allowed.ensures ∙ c.in_ok-boxes_allowed.was

few : (c : In_ok-boxes_allowed) → c.args.x.reporting.count ≤ 16
few c = (boxes-held _ _ (first c)).few

pub boxes_size-requires : goal.boxes_size-requires
boxes_size-requires c = few (goal.at.boxes_size-requires c).In_ok-boxes_allowed

pub boxes_allowed-requires-2 : goal.boxes_allowed-requires-2
boxes_allowed-requires-2 c = omega (arith, c.boxes_size.ensures.1, few (goal.at.boxes_allowed-requires-2 c).In_ok-boxes_allowed)
