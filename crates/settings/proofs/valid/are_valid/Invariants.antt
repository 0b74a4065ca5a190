-- `settings::valid::are_valid` meets its contract. The loop's invariant: what was gathered so far, and the flags that are left, decide
-- together.
use mathlib.Core.Path.{◌≡◌}
use mathlib.Core.Bool.{◌&&◌}
use lib.ListN.{drop}
use Rattle.settings.specs.Valid.{flags_valid}
use Rattle.settings.proofs.valid.are_valid.Given as goal

abbrev pub invariant-loop-flag : goal.invariant-loop-flag
invariant-loop-flag l = flags_valid l.fn.flags ≡ (l.fine && flags_valid (drop l.flag-index l.flag-items))
