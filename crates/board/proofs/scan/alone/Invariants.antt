-- Whether all slots so far were apart, and the others that are looked at, are together the whole.
use Rattle.std.proofs.Common.{◌≡◌, take, drop}
use mathlib.Core.Bool.{◌&&◌}
use Rattle.board.specs.Inner.{alone_in, none_for}
use Rattle.board.proofs.scan.alone.Given as goal

abbrev pub invariant-loop-x : goal.invariant-loop-x
invariant-loop-x l = alone_in l.fn.a l.s (take l.i l.slots) ≡ (l.clear && none_for l.s.designator (drop l.x-index l.x-items))
