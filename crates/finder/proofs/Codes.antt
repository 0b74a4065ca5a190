-- A refusal has a code other than 0.
use mathlib.Core.Path.{◌≡◌}
use mathlib.Core.List.{List}
use Prim.Native.Nat.{ℕ, ◌≤◌}
use Rattle.std.specs.Prelude.{Err}
use Rattle.text.specs.Codes.{number_of}
use Rattle.text.proofs.Codes.{numbered}
use Rattle.text.specs.declared.Refusal.{Refusal}
use Rattle.finder.specs.Finding.{find_section}

-- no refusal has code 0
pub refused-coded : (k : ℕ) (s : List ℕ) (r : Refusal) → find_section k s ≡ Err r → 1 ≤ number_of r.code
refused-coded k s r e = (numbered r.code).least
