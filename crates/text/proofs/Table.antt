-- A table's rule: the list of a rule's values at 0, 1, .. has the rule's value at each place below its length.
use mathlib.Core.Path.{◌≡◌, ◌∙◌, sym, ap}
use mathlib.Core.List.{List}
use Prim.Native.Nat.{ℕ, zero, suc, ◌+◌, ◌<◌}
use native.Mathlib.Nat.{add-zero, zero-add, add-suc, suc-add, le_of_suc-le-suc, not-suc-le-zero}
use lib.ListN.{get_or}
use Rattle.text.specs.Table.{values}

from : (f : ℕ → ℕ) (i n k : ℕ) → k < n → get_or (values f i n) k 0 ≡ f (i + k)
from f i zero k h = absurd (not-suc-le-zero h)
from f i (suc n) zero h = ap f (sym (add-zero i))
from f i (suc n) (suc k) h =
    from f (suc i) n k (le_of_suc-le-suc h) ∙ ap f (suc-add i k ∙ sym (add-suc i k))

-- each entry is the rule's value
pub at : (f : ℕ → ℕ) (n k : ℕ) → k < n → get_or (values f 0 n) k 0 ≡ f k
at f n k h = from f 0 n k h ∙ ap f (zero-add k)

-- two rules that have the same values below n agree there: where antt computes the values, the premise is `refl`
pub agree : (f g : ℕ → ℕ) (n : ℕ) → values f 0 n ≡ values g 0 n → (k : ℕ) → k < n → f k ≡ g k
agree f g n e k h = sym (at f n k h) ∙ ap (λ (l : List ℕ). get_or l k 0) e ∙ at g n k h
