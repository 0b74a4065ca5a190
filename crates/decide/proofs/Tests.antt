-- A test that says whether something is so.
use mathlib.Core.Path.{◌≡◌, refl}
use mathlib.Core.Logic.{◌⊎◌, inl, inr}
use mathlib.Core.Bool.{Bool, true, false, ◌&&◌, ◌||◌, not}
use Prim.Native.Nat.{ℕ, ◌≤◌, ◌<◌}
use native.Mathlib.Omega.{arith}
use lib.Dec.{T, leb, ltb, eqb}
use lib.IntN.{ℤ}
use lib.Signed.{le_z, ◌≤ℤ◌}
use borrow.Author.Tests.{not-true, leb-true, le-leb, ltb-true, lt-ltb, eqb-true, eq-eqb}

pub record Says (t : Bool) (P : Type 0) : Type 0 where
  pub yes_so : t ≡ true → P
  pub so_yes : P → t ≡ true

-- where it isn't so, the test says no
pub says_no : {t : Bool} {P : Type 0} → Says t P → ¬ P → t ≡ false
says_no {t = true} s n = absurd (n (s.yes_so refl))
says_no {t = false} s n = refl

-- and where the test says no, it isn't so
pub no_says : {t : Bool} {P : Type 0} → Says t P → t ≡ false → ¬ P
no_says s e p = let z : ◌≡◌ {A = ℕ} 0 1 = cc (s.so_yes p) in omega arith

-- by cases on whether it is so
pub by_said {ℓ} : {t : Bool} {P : Type 0} {Q : Type ℓ} → Says t P → (P → Q) → (¬ P → Q) → Q
by_said {t = true} s f g = f (s.yes_so refl)
by_said {t = false} s f g = g (no_says s refl)

-- what is never so
pub never-said : {P : Type 0} → ¬ P → Says false P
never-said n = record { yes_so = λ e. absurd (yes-no e); so_yes = λ p. absurd (n p) }
  where
    yes-no : false ≡ true → ⊥
    yes-no e = let z : ◌≡◌ {A = ℕ} 0 1 = cc in omega arith

-- one thing in other words
pub reworded : {t : Bool} {P Q : Type 0} → Says t P → (P → Q) → (Q → P) → Says t Q
reworded s f g = record { yes_so = λ e. f (s.yes_so e); so_yes = λ q. s.so_yes (g q) }

-- something's not being so
pub not-said : {t : Bool} {P : Type 0} → Says t P → Says (not t) (¬ P)
not-said {t} s = record { yes_so = λ e. no_says s (not-true t e); so_yes = λ n. rw (says_no s n) }

-- two things at once; one of two things
pub both-said : {s t : Bool} {P Q : Type 0} → Says s P → Says t Q → Says (s && t) (P × Q)
both-said {s = true} a b = reworded b (λ q. (a.yes_so refl, q)) (λ pq. pq.1)
both-said {s = false} a b = record { yes_so = λ e. absurd (no_says a refl (a.yes_so e)); so_yes = λ pq. a.so_yes pq.0 }

pub either_said : {s t : Bool} {P Q : Type 0} → Says s P → Says t Q → Says (s || t) (P ⊎ Q)
either_said {s = true} a b = record { yes_so = λ e. inl (a.yes_so e); so_yes = λ pq. refl }
either_said {s = false} {t} {P} {Q} a b = record { yes_so = λ e. inr (b.yes_so e); so_yes = second }
  where
    second : P ⊎ Q → t ≡ true
    second (inl p) = absurd (no_says a refl p)
    second (inr q) = b.so_yes q

-- the tests of numbers
pub le-said : (m n : ℕ) → Says (leb m n) (m ≤ n)
le-said m n = record { yes_so = leb-true m n; so_yes = le-leb m n }

pub lt-said : (m n : ℕ) → Says (ltb m n) (m < n)
lt-said m n = record { yes_so = ltb-true m n; so_yes = lt-ltb m n }

pub eq-said : (m n : ℕ) → Says (eqb m n) (m ≡ n)
eq-said m n = record { yes_so = eqb-true m n; so_yes = eq-eqb m n }

passed : (t : Bool) → T t → t ≡ true
passed true h = refl
passed false h = absurd h

pub le_z_said : (a b : ℤ) → Says (le_z a b) (a ≤ℤ b)
le_z_said a b = record { yes_so = λ e. record { le = rw e tt }; so_yes = λ h. passed (le_z a b) h.le }
