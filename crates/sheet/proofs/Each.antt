-- Checks one after the other.
use mathlib.Core.Path.{◌≡◌, refl, ◌∙◌}
use Prim.Native.Nat.{ℕ, zero, suc, ◌+◌, ◌-◌, ◌≤◌, ◌<◌}
use native.Mathlib.Omega.{arith}
use native.Mathlib.Numerals.{add-one}
use Rattle.text.specs.Checks.{◌and_then◌}
use Rattle.text.proofs.Checks.{both-fine}
use Rattle.text.proofs.Cases.{by_eq}
use Rattle.sheet.specs.Sheet.{each}
use Rattle.std.specs.Prelude.{Result, Ok, Err}
use Rattle.text.specs.declared.Refusal.{Refusal}

left : (k n : ℕ) → k < n → n - k ≡ suc (n - (k + 1))
left k n h = omega arith

module _ (f : ℕ → Result (Unit {0}) Refusal) where
  pub each_end : (k n : ℕ) → n ≤ k → each f k (n - k) ≡ (Ok tt)
  unfolding each
  each_end k n h = let e : n - k ≡ 0 = omega arith in rw e

  -- one more is fine
  pub each_turn : (k n : ℕ) → k < n → f k ≡ (Ok tt) → each f k (n - k) ≡ each f (k + 1) (n - (k + 1))
  unfolding each
  each_turn k n h e = rw (left k n h, e, add-one)

  -- a refusal
  pub each_stop : (k n : ℕ) (r : Refusal) → k < n → f k ≡ Err r → each f k (n - k) ≡ Err r
  unfolding each
  each_stop k n r h e = rw (left k n h, e)

  -- the first refusal
  pub each_first : (k n : ℕ) (r : Refusal) (i : ℕ) → i ≤ k → k < i + n → ((j : ℕ) → i ≤ j → j < k → f j ≡ (Ok tt)) → f k ≡ Err r → each f i n ≡ Err r
  unfolding each
  each_first k zero r i low high before e = absurd (omega arith)
  each_first k (suc n) r i low high before e =
      by_eq i k
      (λ (q : i ≡ k). rw (q, e))
      (λ (q : i ≡ k → ⊥).
      rw (before i (omega arith) (omega arith))
      (each_first k n r (suc i) (omega arith) (omega arith) (λ (j : ℕ) (l : suc i ≤ j) (m : j < k). before j (omega arith) m) e))

  -- all fine
  pub each_all : (n i : ℕ) → ((j : ℕ) → i ≤ j → j < i + n → f j ≡ (Ok tt)) → each f i n ≡ (Ok tt)
  unfolding each
  each_all zero i h = refl
  each_all (suc n) i h = rw (h i (omega arith) (omega arith)) (each_all n (suc i) (λ (j : ℕ) (l : suc i ≤ j) (m : j < suc i + n). h j (omega arith) (omega arith)))

  -- one part of them, then the other
  pub each-add : (m n k : ℕ) → each f k (m + n) ≡ (each f k m and_then each f (k + m) n)
  unfolding each
  each-add zero n k = let e : 0 + n ≡ n = omega arith in let z : k + 0 ≡ k = omega arith in rw (e, z)
  each-add (suc m) n k =
      let e : suc m + n ≡ suc (m + n) = omega arith in
      let z : k + suc m ≡ suc k + m = omega arith in
      rw (e, z, each-add m n (suc k)) (by (f k))
    where
      by : (x : Result (Unit {0}) Refusal) → (x and_then (each f (suc k) m and_then each f (suc k + m) n)) ≡ ((x and_then each f (suc k) m) and_then each f (suc k + m) n)
      by (Ok u) = refl
      by (Err r) = refl

  pub each-join : (m n k : ℕ) → each f k m ≡ (Ok tt) → each f (k + m) n ≡ (Ok tt) → each f k (m + n) ≡ (Ok tt)
  each-join m n k a b = each-add m n k ∙ rw (a, b)

  -- after those that are fine the rest tells of all
  pub each_rest : (k n : ℕ) → k ≤ n → each f 0 k ≡ (Ok tt) → each f 0 n ≡ each f k (n - k)
  each_rest k n h e =
      let all : k + (n - k) ≡ n = omega arith in
      let first : 0 + k ≡ k = omega arith in
      rw (all, e, first) at (each-add k (n - k) 0)

  pub each_more : (n k : ℕ) → each f k n ≡ (Ok tt) → f (k + n) ≡ (Ok tt) → each f k (n + 1) ≡ (Ok tt)
  unfolding each
  each_more n k a b = each-join n 1 k a (rw b)

  -- where all are fine, each is
  pub each-fine : (k n : ℕ) → each f k n ≡ (Ok tt) → (i : ℕ) → k ≤ i → i < k + n → f i ≡ (Ok tt)
  unfolding each
  each-fine k zero e i low high = absurd (omega arith)
  each-fine k (suc n) e i low high =
      let both = both-fine (f k) (each f (suc k) n) tt e in
      by_eq i k
      (λ (q : i ≡ k). rw q both.0)
      (λ (q : i ≡ k → ⊥). each-fine (suc k) n both.1 i (omega arith) (omega arith))
