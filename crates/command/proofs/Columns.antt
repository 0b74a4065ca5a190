-- What may stand at each of the sixteen places from the first flag on, as columns: a byte that is among its place's is allowed there.
use mathlib.Core.Path.{◌≡◌, refl}
use mathlib.Core.Bool.{true, false}
use mathlib.Core.List.{List, [], ◌∷◌}
use Prim.Native.Nat.{ℕ, zero, suc, ◌+◌, ◌≤◌, ◌<◌}
use native.Mathlib.Omega.{arith}
use lib.Dec.{eqb}
use lib.ListN.{get_or}
use borrow.Author.Tests.{eqb-true, eq-eqb, ne_eqb}
use Rattle.text.proofs.Cases.{by_test, by_eq, by_lt}
use Rattle.section.specs.Layout.{layout_of, table_of, is_empty}
use Rattle.command.specs.Text.{is_flag, is_downlink, is_indicator}
use Rattle.command.specs.Inner.{head_test, is_among}

abbrev pub ones : List ℕ
ones = 49 ∷ 49 ∷ 49 ∷ 49 ∷ 49 ∷ 49 ∷ 49 ∷ 49 ∷ 48 ∷ 48 ∷ 48 ∷ 48 ∷ 48 ∷ 48 ∷ 48 ∷ 48 ∷ []

abbrev pub twos : List ℕ
twos = 48 ∷ 48 ∷ 48 ∷ 48 ∷ 48 ∷ 48 ∷ 48 ∷ 50 ∷ 48 ∷ 48 ∷ 48 ∷ 48 ∷ 48 ∷ 48 ∷ 48 ∷ 48 ∷ []

abbrev pub nines : List ℕ
nines = 57 ∷ 57 ∷ 57 ∷ 57 ∷ 57 ∷ 57 ∷ 57 ∷ 48 ∷ 48 ∷ 48 ∷ 48 ∷ 48 ∷ 48 ∷ 48 ∷ 48 ∷ 48 ∷ []

abbrev pub owns : List ℕ
owns = 48 ∷ 48 ∷ 48 ∷ 48 ∷ 48 ∷ 48 ∷ 48 ∷ 48 ∷ 50 ∷ 51 ∷ 52 ∷ 53 ∷ 54 ∷ 55 ∷ 56 ∷ 57 ∷ []

-- a byte that is among five is one of them
among : {P : Type 0} (b one two nine own : ℕ) → is_among b one two nine own ≡ true → (b ≡ 48 → P) → (b ≡ one → P) → (b ≡ two → P)
    → (b ≡ nine → P) → (b ≡ own → P) → P
among b one two nine own e z p q r t =
    by_test (eqb b 48) (λ y. z (eqb-true b 48 y))
    (λ (n0 : eqb b 48 ≡ false).
    by_test (eqb b one) (λ y. p (eqb-true b one y))
    (λ (n1 : eqb b one ≡ false).
    by_test (eqb b two) (λ y. q (eqb-true b two y))
    (λ (n2 : eqb b two ≡ false).
    by_test (eqb b nine) (λ y. r (eqb-true b nine y))
    (λ (n3 : eqb b nine ≡ false). t (eqb-true b own (rw (n0, n1, n2, n3) at e))))))

flag : (b : ℕ) → is_among b 49 48 57 48 ≡ true → is_flag b ≡ true
flag b e = among b 49 48 57 48 e (λ y. rw y) (λ y. rw y) (λ y. rw y) (λ y. rw y) (λ y. rw y)

downlink : (b : ℕ) → is_among b 49 50 48 48 ≡ true → is_downlink b ≡ true
downlink b e = among b 49 50 48 48 e (λ y. rw y) (λ y. rw y) (λ y. rw y) (λ y. rw y) (λ y. rw y)

-- what is allowed at place i, by the columns
abbrev pub Fits : ℕ → Type 0
Fits i = (b : ℕ) → is_among b (get_or ones i 0) (get_or twos i 0) (get_or nines i 0) (get_or owns i 0) ≡ true → head_test i b ≡ true

-- the indicator of section k, whose own number it is
own : (k b : ℕ) → is_empty (layout_of k) ≡ false → is_among b 48 48 48 (48 + k) ≡ true → is_indicator k b ≡ true
own k b some e =
    among b 48 48 48 (48 + k) e (λ y. rw y) (λ y. rw y) (λ y. rw y) (λ y. rw y)
    (λ y. by_eq b 48 (λ z. rw z) (λ n. rw (ne_eqb b 48 n, some, eq-eqb b (48 + k) y)))

-- ---- All places

-- P holds of each number below n
abbrev Below : (ℕ → Type 0) → ℕ → Type 0
Below P zero = Unit
Below P (suc n) = Below P n × P n

below : (P : ℕ → Type 0) (n : ℕ) → Below P n → (i : ℕ) → i < n → P i
below P zero h i l = absurd (omega arith)
below P (suc n) h i l =
    by_lt i n (λ (m : i < n). below P n h.0 i m) (λ (m : n ≤ i). let e : i ≡ n = omega arith in rw e h.1)

-- a byte that is among its place's is allowed there
pub columns : (i : ℕ) → i < 16 → Fits i
unfolding layout_of table_of
columns =
    below Fits 16
    ((((((((((((((((tt, flag), flag), flag), flag), flag), flag), flag), downlink), λ b. own 2 b refl), λ b. own 3 b refl), λ b. own 4 b refl), λ b. own 5 b refl), λ b. own 6 b refl), λ b. own 7 b refl), λ b. own 8 b refl), λ b. own 9 b refl)
