use mathlib.Core.Path.{◌≡◌}
use lib.ListN.{length}
use Rattle.sheet.proofs.Filled.{Filled}
use Rattle.sheet.specs.Sheet.{airport_byte}
use Rattle.sheet.proofs.read.take_airports.Given as goal

abbrev pub invariant-loop-i : goal.invariant-loop-i
invariant-loop-i l = (length l.initial.airports ≡ 250) × Filled (airport_byte l.s) 0 l.initial.airports l.airports l.i
