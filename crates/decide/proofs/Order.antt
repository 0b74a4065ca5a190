-- Rules in order that all silence are one rule.
use mathlib.Core.Path.{◌≡◌, refl}
use mathlib.Core.Bool.{Bool, true, false, cond, ◌||◌}
use Rattle.decide.specs.Reason.{decision_of}
use Rattle.decide.specs.declared.Decision.TheVariants.{Silent}
use Rattle.decide.specs.declared.Reason.{Reason}

-- four reasons that silence, each where none before it holds, and what is said past them
module _ (p q s t r : Reason) (first : decision_of p ≡ Silent) (second : decision_of q ≡ Silent) (third : decision_of s ≡ Silent)
    (fourth : decision_of t ≡ Silent) where
  pub silent-first : (a b c d : Bool)
      → decision_of (cond a p (cond b q (cond c s (cond d t r)))) ≡ cond (a || (b || (c || d))) Silent (decision_of r)
  silent-first true b c d = first
  silent-first false true c d = second
  silent-first false false true d = third
  silent-first false false false true = fourth
  silent-first false false false false = refl
