-- `settings::section2::regions_fine` meets its contract. The loop's invariant: the lists so far are fine, wherever they stand.
use mathlib.Core.Path.{◌≡◌}
use Prim.Native.Nat.{ℕ}
use Rattle.settings.proofs.Fine.{all_fine}
use Rattle.settings.proofs.section2.regions_fine.Given as goal

abbrev pub invariant-loop-l : goal.invariant-loop-l
invariant-loop-l l = (at : ℕ → ℕ) → l.fine ≡ all_fine at l.l-index l.l-items
