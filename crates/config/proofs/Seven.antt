-- The seven flags one by one.
use mathlib.Core.Path.{◌≡◌, ap₂}
use mathlib.Core.List.{List}
use Prim.Native.Nat.{ℕ}
use lib.ListN.{length, get_or}
use Rattle.text.specs.Table.{values}
use Rattle.settings.proofs.Pieces.{seven}
use Rattle.config.specs.Config.{new_flag, new_flags}

-- seven new flags, each from the one before
pub new_seven : (os vs : List ℕ) → length os ≡ 7 → length vs ≡ 7
    → new_flags os vs ≡ values (λ i. new_flag (get_or os i 0) (get_or vs i 0)) 0 7
unfolding new_flags
new_seven os vs e f = ap₂ new_flags (seven os e) (seven vs f)
