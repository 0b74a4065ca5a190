-- What an accepting answer says of the checks that it came from.
use mathlib.Core.Path.{◌≡◌, refl}
use mathlib.Core.Bool.{Bool, true, false, ◌&&◌}
use Prim.Native.Nat.{ℕ}
use native.Mathlib.Omega.{arith}
use Rattle.std.specs.Prelude.{Result, Ok, Err}
use Rattle.text.specs.declared.Code.{Code}
use Rattle.text.specs.declared.Refusal.{Refusal}
use Rattle.text.specs.Checks.{must, ◌and_then◌, is_fine}

-- a refusal is no acceptance
pub err_ok {ℓ} : {A : Type 0} {P : Type ℓ} (r : Refusal) (x : A) → ◌≡◌ {A = Result A Refusal} (Err r) (Ok x) → P
err_ok r x e = let z : ◌≡◌ {A = ℕ} 0 1 = cc in absurd (omega arith)

-- what must hold, held
pub must-held : (ok : Bool) (code : Code) (place : ℕ) → must ok code place ≡ Ok tt → ok ≡ true
must-held true code place e = refl
must-held false code place e = err_ok (record { code = code; place = place }) tt e

-- checks one after the other accept when each does
pub both-fine : {A : Type 0} (x : Result (Unit {0}) Refusal) (y : Result A Refusal) (z : A) → (x and_then y) ≡ Ok z → (x ≡ Ok tt) × (y ≡ Ok z)
both-fine (Ok u) y z e = (refl, e)
both-fine (Err r) y z e = err_ok r z e

-- the same by the test
pub fine-must : (ok : Bool) (code : Code) (place : ℕ) → is_fine (must ok code place) ≡ ok
fine-must true code place = refl
fine-must false code place = refl

pub fine_then : {A : Type 0} (x : Result (Unit {0}) Refusal) (y : Result A Refusal) → is_fine (x and_then y) ≡ (is_fine x && is_fine y)
fine_then (Ok u) y = refl
fine_then (Err r) y = refl

pub fine-is : (x : Result (Unit {0}) Refusal) → is_fine x ≡ true → x ≡ Ok tt
fine-is (Ok u) e = refl
fine-is (Err r) e = let z : ◌≡◌ {A = Bool} false true = e in cc
