-- The section numbers: what holds of each of them holds of every number from 2 to 9, and the other way round.
use mathlib.Core.Path.{◌≡◌, refl}
use mathlib.Core.Bool.{Bool, true, false}
use mathlib.Core.List.{List, [], ◌∷◌}
use Prim.Native.Nat.{ℕ, zero, suc, ◌-◌, ◌≤◌}
use native.Mathlib.Omega.{arith}
use lib.Dec.{eqb}
use lib.ListN.{drop}
use borrow.Author.Tests.{eqb-true, eq-eqb}
use Rattle.text.proofs.Cases.{by_test}
use Rattle.section.specs.Layout.{numbers}
use Rattle.command.specs.Sections.{is_one_of}
use Rattle.command.proofs.Checking.{numbers-next}
use Rattle.command.proofs.Each.{Each}
use Rattle.command.proofs.Standing.{one-least, one-most}

-- what holds of each holds of one of them
pub each_of : (P : ℕ → Type 0) (ks : List ℕ) → Each P ks → (k : ℕ) → is_one_of ks k ≡ true → P k
each_of P [] e k o = let z : ◌≡◌ {A = Bool} false true = o in let w : ◌≡◌ {A = ℕ} 0 1 = cc in absurd (omega arith)
each_of P (j ∷ ks) e k o =
    by_test (eqb k j) (λ (t : eqb k j ≡ true). rw (eqb-true k j t) e.0) (λ (t : eqb k j ≡ false). each_of P ks e.1 k (rw t at o))

pub one_more : (j k : ℕ) (ks : List ℕ) → is_one_of ks k ≡ true → is_one_of (j ∷ ks) k ≡ true
one_more j k ks o = by_test (eqb k j) (λ (t : eqb k j ≡ true). rw t) (λ (t : eqb k j ≡ false). rw t o)

-- and the other way round
pub each_in : (P : ℕ → Type 0) (ks : List ℕ) → ((k : ℕ) → is_one_of ks k ≡ true → P k) → Each P ks
each_in P [] f = tt
each_in P (j ∷ ks) f = (f j (rw (eq-eqb j j refl)), each_in P ks (λ k o. f k (one_more j k ks o)))

-- one of those from a place on is one of all
pub one-behind : (i : ℕ) (ks : List ℕ) (k : ℕ) → is_one_of (drop i ks) k ≡ true → is_one_of ks k ≡ true
one-behind zero ks k o = o
one-behind (suc i) [] k o = o
one-behind (suc i) (j ∷ ks) k o = one_more j k ks (one-behind i ks k o)

-- the numbers are those from 2 to 9
pub numbered : (k : ℕ) → 2 ≤ k → k ≤ 9 → is_one_of numbers k ≡ true
numbered k lo hi = one-behind (k - 2) numbers k (rw (numbers-next k lo (omega arith), eq-eqb k k refl))

-- what holds of each section
pub of_number : (P : ℕ → Type 0) → Each P numbers → (k : ℕ) → 2 ≤ k → k ≤ 9 → P k
of_number P e k lo hi = each_of P numbers e k (numbered k lo hi)

pub each_number : (P : ℕ → Type 0) → ((k : ℕ) → 2 ≤ k → k ≤ 9 → P k) → Each P numbers
each_number P f =
    each_in P numbers (λ k o. f k (one-least 2 numbers k (omega arith) o) (one-most 9 numbers k (omega arith) o))
