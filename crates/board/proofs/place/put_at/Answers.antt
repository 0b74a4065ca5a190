use native.Mathlib.Omega.{arith}
use mathlib.Core.List.{[]}
use Prim.Native.Nat.{◌+◌, ◌*◌}
use Rattle.text.proofs.Over.{then_copy, over_none}
use Rattle.command.specs.Text.{longest}
use Rattle.board.proofs.place.put_at.Goals as goal

pub returns : goal.returns
returns c = let a = c.args in
    let d = c.args.area.now in
    let at = longest * a.i in
    then_copy d d c.copy.new.d [] a.t.now at at (at + longest) (over_none d at) (omega arith) (omega (arith, c.requires)) c.requires.2 c.copy.ensures
