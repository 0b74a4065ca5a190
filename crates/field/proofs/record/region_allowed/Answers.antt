-- `field::record::region_allowed` meets its contract: the latitudes, then the longitudes.
use Prim.Native.Nat.{◌+◌}
use mathlib.Core.Path.{◌≡◌, ◌∙◌}
use mathlib.Core.Bool.{true}
use Rattle.field.specs.Boxes.{latitude}
use Rattle.field.specs.Steps.{pair_allowed}
use Rattle.field.proofs.Pairs.{region_pairs}
use Rattle.field.proofs.record.region_allowed.Goals as goal
use Rattle.std.proofs.lemmas.Result.{err_from_is_err_and}

pub returns-in_err-pair_allowed : goal.returns-in_err-pair_allowed
returns-in_err-pair_allowed c =
    let a = c.args in
    let e : c.pair_allowed.result ≡ pair_allowed true latitude a.b.north a.b.south a.at (a.at + 3) = c.pair_allowed.ensures ∙ rw c.latitudes.ensures in
    let p = err_from_is_err_and c.from_residual.result c.from_residual.ensures.1 in
    rw (← region_pairs c.args.at c.args.b, ← e, c.in_err-pair_allowed.was, p.1, p.2)

pub returns : goal.returns
returns c =
    let a = c.args in
    let e : c.pair_allowed.result ≡ pair_allowed true latitude a.b.north a.b.south a.at (a.at + 3) = c.pair_allowed.ensures ∙ rw c.latitudes.ensures in
    rw (← region_pairs a.at a.b, c.pair_allowed-2.ensures, c.longitudes.ensures, ← e, c.in_ok-pair_allowed.was)
