-- `settings::section3::put_phases` meets its contract.
use native.Mathlib.Omega.{arith}
use mathlib.Core.Path.{◌≡◌}
use mathlib.Core.List.{◌++◌}
use Prim.Native.Nat.{◌+◌, ◌≤◌}
use lib.ListN.{length, drop}
use Rattle.lists.specs.Lists.{airfields_text}
use Rattle.text.proofs.Over.{then_part}
use Rattle.settings.proofs.Pieces.{front_part}
use Rattle.settings.proofs.section3.put_phases.Goals as goal

pub returns : goal.returns
returns c =
    let d = c.args.d.now in
    let t = airfields_text c.args.x.ascent in
    let u = airfields_text c.args.x.descent in
    let mid = c.airfields_size-mid.result in
    let end = mid + c.airfields_size.result in
    let tl : mid ≡ length t = c.airfields_size-mid.ensures.0 in
    let ul : c.airfields_size.result ≡ length u = c.airfields_size.ensures.0 in
    let room : length t + length u ≤ length d = c.requires.descent_in_bounds in
    let D = c.put_airfields.new.d ++ drop mid d in
    let one = front_part d c.put_airfields.new.d t mid tl (omega arith) c.put_airfields.ensures.1 in
    then_part d D c.put_airfields-2.new.d t u 0 mid end one (omega arith) (omega arith) (omega arith) c.put_airfields-2.ensures.1
