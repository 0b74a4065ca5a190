-- `field::write::put_region` meets its contract: the latitudes, then the longitudes.
use native.Mathlib.Omega.{arith}
use mathlib.Core.Path.{◌≡◌, refl, ap, ◌∙◌}
use mathlib.Core.List.{[], ◌++◌}
use lib.ListN.{length}
use borrow.Rule.Slice.PartMut.{put_mid}
use Rattle.text.specs.Over.{over}
use Rattle.text.proofs.Over.{over_none, then_part}
use Rattle.field.specs.Steps.{edge_bytes}
use Rattle.field.proofs.Spelling.{pair-length, region_text_lem}
use Rattle.field.proofs.write.put_region.Goals as goal
use Rattle.field.proofs.write.put_region.Goals.{After-put_pair}

-- the buffer after the latitudes
first : (c : After-put_pair)
    → let a = c.args in
    put_mid 0 6 a.d.now c.put_pair.new.d ≡ over a.d.now 0 (edge_bytes 2 a.b.north ++ edge_bytes 2 a.b.south)
first c =
    let a = c.args in
    let lat = edge_bytes 2 a.b.north ++ edge_bytes 2 a.b.south in
    let long : length lat ≡ 6 = pair-length 2 a.b.north a.b.south in
    then_part a.d.now a.d.now c.put_pair.new.d [] lat 0 0 6
    (over_none a.d.now 0) refl (omega arith) (omega (arith, c.requires)) c.put_pair.ensures

pub returns : goal.returns
returns c =
    let a = c.args in
    let lat = edge_bytes 2 a.b.north ++ edge_bytes 2 a.b.south in
    let lon = edge_bytes 3 a.b.west ++ edge_bytes 3 a.b.east in
    let long : length lat ≡ 6 = pair-length 2 a.b.north a.b.south in
    let rest : length lon ≡ 8 = pair-length 3 a.b.west a.b.east in
    then_part a.d.now (put_mid 0 6 a.d.now c.put_pair.new.d) c.put_pair-2.new.d lat lon 0 6 14
    (first (goal.at.returns c).After-put_pair) (omega arith) (omega arith) c.requires c.put_pair-2.ensures
    ∙ ap (over a.d.now 0) (region_text_lem a.b)
