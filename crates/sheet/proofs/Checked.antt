-- What an accepted text is.
use mathlib.Core.Path.{◌≡◌}
use mathlib.Core.List.{List}
use Prim.Native.Nat.{ℕ, ◌<◌}
use native.Mathlib.Omega.{arith}
use lib.Dec.{eqb}
use lib.ListN.{length}
use borrow.Author.Tests.{eqb-true}
use Rattle.text.specs.Checks.{must}
use Rattle.text.proofs.Checks.{must-held, both-fine}
use Rattle.sheet.specs.Layout.{cell_at}
use Rattle.sheet.specs.Sheet.{each, check_cell, check_sheet}
use Rattle.sheet.proofs.Each.{each-fine}
use Rattle.std.specs.Prelude.{Ok}
use Rattle.text.specs.declared.Code.TheVariants.{WrongEnd}

module _ (s : List ℕ) (e : check_sheet s ≡ (Ok tt)) where
  halves : (each (λ k. check_cell s (cell_at k)) 0 167 ≡ (Ok tt)) × (must (eqb (length s) 913) WrongEnd 913 ≡ (Ok tt))
  unfolding check_sheet
  halves = both-fine (each (λ k. check_cell s (cell_at k)) 0 167) (must (eqb (length s) 913) WrongEnd 913) tt e

  pub checked-length : length s ≡ 913
  checked-length = eqb-true (length s) 913 (must-held (eqb (length s) 913) WrongEnd 913 halves.1)

  pub checked-cell : (k : ℕ) → k < 167 → check_cell s (cell_at k) ≡ (Ok tt)
  checked-cell k h = each-fine (λ k. check_cell s (cell_at k)) 0 167 halves.0 k (omega arith) (omega arith)
