-- A list of a rule's values, put down one by one.
use mathlib.Core.Path.{◌≡◌, refl, sym, ap, ◌∙◌}
use mathlib.Core.List.{List}
use Prim.Native.Nat.{ℕ, zero, suc, ◌+◌, ◌≤◌, ◌<◌}
use native.Mathlib.Omega.{arith}
use native.Mathlib.Nat.{add-zero, add-suc, suc-add, le_of_suc-le-suc}
use lib.ListN.{length, get_or, set, take, length-set}
use lib.Seq.{take_all}
use lib.Dec.{leb}
use mathlib.Core.Bool.{cond}
use borrow.Author.Tests.{le-leb}
use Rattle.text.specs.Table.{values}
use Rattle.text.specs.Over.{over}
use Rattle.text.proofs.Over.{over_none, over_turn, over-whole}

pub values_length : (f : ℕ → ℕ) (i n : ℕ) → length (values f i n) ≡ n
values_length f i zero = refl
values_length f i (suc n) = ap suc (values_length f (suc i) n)

pub values-at : (f : ℕ → ℕ) (i n k : ℕ) → k < n → get_or (values f i n) k 0 ≡ f (i + k)
values-at f i zero k h = absurd (omega arith)
values-at f i (suc n) zero h = ap f (sym (add-zero i))
values-at f i (suc n) (suc k) h = values-at f (suc i) n k (le_of_suc-le-suc h) ∙ ap f (suc-add i k ∙ sym (add-suc i k))

-- d is what it was with the first i values over its start
pub record Filled (f : ℕ → ℕ) (from : ℕ) (d₀ d : List ℕ) (i : ℕ) : Type 0 where
  pub few : i ≤ length d₀
  pub long : length d ≡ length d₀
  pub same : d ≡ over d₀ 0 (take i (values f from (length d₀)))

module _ (f : ℕ → ℕ) (from : ℕ) (d₀ : List ℕ) where
  pub filled_none : Filled f from d₀ d₀ 0
  filled_none = record { few = omega arith; long = refl; same = over_none d₀ 0 }

  pub filled_turn : (d : List ℕ) (i x : ℕ) → Filled f from d₀ d i → i < length d₀ → x ≡ f (from + i) → Filled f from d₀ (set d i x) (i + 1)
  filled_turn d i x h more is =
      let all = values f from (length d₀) in
      let n : length all ≡ length d₀ = values_length f from (length d₀) in
      record {
        few = omega arith;
        long = length-set d i x ∙ h.long;
        same =
            ap (λ (y : ℕ). set d i y) (is ∙ sym (values-at f from (length d₀) i more))
            ∙ ap (λ (l : List ℕ). set l i (get_or all i 0)) h.same
            ∙ over_turn d₀ all i (omega arith) more;
      }

  pub filled_end : (d : List ℕ) (i : ℕ) → Filled f from d₀ d i → length d₀ ≤ i → d ≡ values f from (length d₀)
  filled_end d i h done =
      let all = values f from (length d₀) in
      let n : length all ≡ length d₀ = values_length f from (length d₀) in
      h.same ∙ ap (over d₀ 0) (take_all i all (omega arith)) ∙ over-whole d₀ all n

-- a text copied over another of its length
pub copied : (d t : List ℕ) → length t ≡ length d → cond (leb (length t) (length d)) (over d 0 t) d ≡ t
copied d t e = rw (le-leb (length t) (length d) (omega arith)) (over-whole d t e)
