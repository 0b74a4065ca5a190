-- How figures, one after the other, come to stand in a buffer.
use mathlib.Core.Path.{◌≡◌, sym, ap, ◌∙◌}
use mathlib.Core.Bool.{true}
use mathlib.Core.List.{List, [], ◌∷◌, ◌++◌, append_assoc}
use Prim.Native.Nat.{ℕ, zero, suc, ◌+◌, ◌≤◌, ◌<◌}
use native.Mathlib.Omega.{arith}
use lib.IntN.{pos}
use lib.ListN.{length, get_or, set, length-append}
use Rattle.text.specs.Over.{over}
use Rattle.text.proofs.Over.{over_none, over-over, over-sets, over-whole, length_over}
use Rattle.packed.specs.Packed.{Figure, field_of, fitting}
use Rattle.packed.proofs.RoundTrip.{field-length}
use Rattle.observation.specs.Figures.{figures_text}
use Rattle.observation.specs.Inner.{fitting_all}
use Rattle.observation.specs.declared.Row.{Row}
use Rattle.observation.proofs.Figures.{total}
use Rattle.observation.proofs.Rows.{first_fits, others-fit}
use Rattle.std.specs.Prelude.{None}

-- figures put into a buffer one by one
abbrev pub written : List Row → List Figure → ℕ → List ℕ → List ℕ
written [] xs from d = d
written (r ∷ rs) [] from d = d
written (r ∷ rs) (x ∷ xs) from d = written rs xs (from + r.width) (over d from (field_of r.width x))

-- figures written one after the other are their text
pub written-text : (rows : List Row) (xs : List Figure) (from : ℕ) (d : List ℕ) → from + total rows ≤ length d
    → written rows xs from d ≡ over d from (figures_text rows xs)
unfolding figures_text total
written-text [] xs from d h = over_none d from
written-text (r ∷ rs) [] from d h = over_none d from
written-text (r ∷ rs) (x ∷ xs) from d h =
    let f = field_of r.width x in
    let n : length f ≡ r.width = field-length r.width x in
    let m : length (over d from f) ≡ length d = length_over d from f (omega arith) in
    written-text rs xs (from + r.width) (over d from f) (omega arith)
    ∙ ap (λ (k : ℕ). over (over d from f) (from + k) (figures_text rs xs)) (sym n)
    ∙ over-over d from f (figures_text rs xs) (omega (arith, text-short rs xs))
  where
    text-short : (rows : List Row) (xs : List Figure) → length (figures_text rows xs) ≤ total rows
    text-short [] xs = omega arith
    text-short (r ∷ rs) [] = omega arith
    text-short (r ∷ rs) (x ∷ xs) =
        rw (length-append (field_of r.width x) (figures_text rs xs), field-length r.width x) (omega (arith, text-short rs xs))

-- a byte behind a text
pub then_byte : (d t : List ℕ) (from p b : ℕ) → p ≡ from + length t → p < length d → set (over d from t) p b ≡ over d from (t ++ b ∷ [])
then_byte d t from p b e h =
    let n : length (over d from t) ≡ length d = length_over d from t (omega arith) in
    over-sets (over d from t) p (b ∷ []) (omega arith) ∙ rw e (over-over d from t (b ∷ []) (omega arith))

-- P and three texts fill a buffer
pub whole-text : (d : List ℕ) (k : ℕ) (x y z : List ℕ) (p q : ℕ)
    → 1 + length x ≡ p → p + length y ≡ q → q + length z ≡ length d → 1 ≤ length d
    → over (over (over (set d 0 k) 1 x) p y) q z ≡ k ∷ (x ++ (y ++ z))
whole-text d k x y z p q e f g h =
    let a : List ℕ = k ∷ [] in
    let first : set d 0 k ≡ over d 0 a = over-sets d 0 a h in
    let n : length (a ++ x) ≡ 1 + length x = omega arith in
    let m : length (a ++ x ++ y) ≡ 1 + length x + length y = length-append (a ++ x) y ∙ omega arith in
    let i : p ≡ 0 + length (a ++ x) = omega arith in
    let j : q ≡ 0 + length (a ++ x ++ y) = omega arith in
    let all : length (a ++ x ++ y ++ z) ≡ length d = length-append (a ++ x ++ y) z ∙ omega arith in
    rw first
    (ap (λ (l : List ℕ). over (over l p y) q z) (over-over d 0 a x (omega arith))
    ∙ ap (λ (m : ℕ). over (over (over d 0 (a ++ x)) m y) q z) i
    ∙ ap (λ (l : List ℕ). over l q z) (over-over d 0 (a ++ x) y (omega arith))
    ∙ ap (λ (m : ℕ). over (over d 0 (a ++ x ++ y)) m z) j
    ∙ over-over d 0 (a ++ x ++ y) z (omega arith)
    ∙ over-whole d (a ++ x ++ y ++ z) all
    ∙ simp append_assoc)

-- ---- each figure fits

abbrev pub no_row : Row
no_row = record { width = 0; least = pos 0; most = pos 0 }

-- where all figures fit, each does
pub fits-at : (rows : List Row) (xs : List Figure) → fitting_all rows xs ≡ true → (i : ℕ) → i < length rows → i < length xs
    → fitting (get_or rows i no_row).width (get_or xs i None) ≡ true
fits-at [] xs e i h k = absurd (omega arith)
fits-at (r ∷ rs) [] e i h k = absurd (omega arith)
fits-at (r ∷ rs) (x ∷ xs) e zero h k = first_fits r rs x xs e
fits-at (r ∷ rs) (x ∷ xs) e (suc i) h k = fits-at rs xs (others-fit r rs x xs e) i (omega arith) (omega arith)
