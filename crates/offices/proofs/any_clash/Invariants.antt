-- What was found so far, or is at a place that is left, is what is at any place.
use Rattle.std.proofs.Common.{◌≡◌, drop}
use mathlib.Core.Bool.{◌||◌}
use Rattle.offices.specs.Offices.{any_place}
use Rattle.offices.specs.Inner.{clash}
use Rattle.offices.proofs.any_clash.Given as goal

abbrev pub invariant-loop-i : goal.invariant-loop-i
invariant-loop-i l = any_place (clash l.none l.given) l.s l.g ≡ (l.found || any_place (clash l.none l.given) (drop l.i l.s) (drop l.i l.g))
