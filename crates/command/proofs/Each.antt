-- Something that holds of each number of a list, and lists that rise.
use mathlib.Core.List.{List, [], ◌∷◌}
use Prim.Native.Nat.{ℕ, suc, ◌≤◌}
use native.Mathlib.Omega.{arith}

-- P holds of each of them
abbrev pub Each : (ℕ → Type 0) → List ℕ → Type 0
Each P [] = Unit
Each P (k ∷ ks) = P k × Each P ks

-- each is at least lo, and more than the one before
abbrev pub Rising : ℕ → List ℕ → Type 0
Rising lo [] = Unit
Rising lo (k ∷ ks) = (lo ≤ k) × Rising (suc k) ks

-- what holds of every number holds of each
pub each_all : (P : ℕ → Type 0) → ((k : ℕ) → P k) → (ks : List ℕ) → Each P ks
each_all P f [] = tt
each_all P f (k ∷ ks) = (f k, each_all P f ks)

-- one thing from another, at each
pub each_map : (P Q : ℕ → Type 0) → ((k : ℕ) → P k → Q k) → (ks : List ℕ) → Each P ks → Each Q ks
each_map P Q f [] p = tt
each_map P Q f (k ∷ ks) p = (f k p.0, each_map P Q f ks p.1)

-- and from two others
pub each_with : (P Q R : ℕ → Type 0) → ((k : ℕ) → P k → Q k → R k) → (ks : List ℕ) → Each P ks → Each Q ks → Each R ks
each_with P Q R f [] p q = tt
each_with P Q R f (k ∷ ks) p q = (f k p.0 q.0, each_with P Q R f ks p.1 q.1)

-- in a list that rises from lo, only numbers from lo on have to be thought of
pub each-rising : {P Q : ℕ → Type 0} (lo : ℕ) (ks : List ℕ) → Rising lo ks → ((k : ℕ) → lo ≤ k → P k → Q k) → Each P ks → Each Q ks
each-rising lo [] r f p = tt
each-rising {P = P} {Q = Q} lo (k ∷ ks) r f p =
    let h = r.0 in
    (f k h p.0, each-rising {P = P} {Q = Q} (suc k) ks r.1 (λ (j : ℕ) (l : suc k ≤ j). f j (omega arith)) p.1)
