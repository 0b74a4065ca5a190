-- What was found so far, and the look over the other slots, are together the whole look.
use Rattle.std.proofs.Common.{◌≡◌, drop}
use Rattle.board.specs.Inner.{scan_from, scanned}
use Rattle.board.proofs.scan.look_over.Given as goal

abbrev pub invariant-loop-i : goal.invariant-loop-i
invariant-loop-i l = scanned l.area l.w l.slots ≡ scan_from l.area l.w l.slots l.a l.i (drop l.i l.slots)
