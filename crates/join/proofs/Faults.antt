-- A refusal that is handed on as a fault.
use mathlib.Core.Path.{◌≡◌, refl, sym, ◌∙◌}
use Rattle.std.specs.Prelude.{Result, Ok, Err}
use Rattle.std.specs.Result.{MatchResult, IsErrAnd}
use Rattle.std.proofs.lemmas.Result.{err_from_is_err_and}
use Rattle.text.specs.declared.Refusal.{Refusal}

module _ {A D : Type 0} (make : Refusal → D) (r : Result A Refusal) (m : Result A D) where
  -- what `map_err` gives
  abbrev pub Mapped : Type 0
  Mapped = MatchResult r (λ x. m ≡ Ok x) (λ e. IsErrAnd m (λ d. d ≡ make e))

-- a fault comes of a refusal
pub made_of : {A D : Type 0} (make : Refusal → D) (r : Result A Refusal) (m : Result A D) (d : D) → Mapped make r m → m ≡ Err d
    → (e : Refusal) × (r ≡ Err e) × (d ≡ make e)
made_of {A = A} {D = D} make (Ok x) m d c w = let z : ◌≡◌ {A = Result A D} (Ok x) (Err d) = sym c ∙ w in cc
made_of make (Err e) m d c w = let p = err_from_is_err_and m c in let q = p.1 in let s = p.2 in (e, refl, cc)

-- and what is accepted stays so
pub kept_of : {A D : Type 0} (make : Refusal → D) (r : Result A Refusal) (m : Result A D) (x : A) → Mapped make r m → m ≡ Ok x → r ≡ Ok x
kept_of make (Ok y) m x c w = cc
kept_of make (Err e) m x c w = let p = err_from_is_err_and m c in let q = p.1 in cc
