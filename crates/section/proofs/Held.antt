-- Checks of a record, one after the other.
use mathlib.Core.Path.{◌≡◌, refl, sym}
use Rattle.text.specs.Checks.{◌and_then◌}
use Rattle.text.proofs.Checks.{err_ok}
use Rattle.std.specs.Prelude.{Result, Ok, Err}
use Rattle.text.specs.declared.Refusal.{Refusal}

-- nothing follows
pub and-fine : (x : Result (Unit {0}) Refusal) → (x and_then (Ok tt)) ≡ x
and-fine (Ok u) = refl
and-fine (Err r) = refl

-- two checks that end in a refusal, before what follows
pub and_stop : (x y z : Result (Unit {0}) Refusal) (r : Refusal) → (x and_then y) ≡ Err r → Err r ≡ (x and_then (y and_then z))
and_stop (Ok u) y z r e = rw e
and_stop (Err q) y z r e = sym e

-- two checks that are fine: what follows decides
pub and_go : (x y z : Result (Unit {0}) Refusal) → (x and_then y) ≡ (Ok tt) → (x and_then (y and_then z)) ≡ z
and_go (Ok u) y z e = rw e
and_go (Err r) y z e = err_ok r tt e
