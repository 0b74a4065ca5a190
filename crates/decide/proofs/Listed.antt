-- An airfield of four bytes against the names of a list.
use mathlib.Core.Path.{◌≡◌, sym, ap, ◌∙◌}
use mathlib.Core.Bool.{true, false, ◌&&◌, and_assoc, and-true}
use mathlib.Core.List.{List, [], ◌∷◌}
use Prim.Native.Nat.{ℕ, suc, ◌+◌, ◌-◌, ◌*◌, ◌≤◌, ◌<◌}
use native.Mathlib.Omega.{arith}
use native.Mathlib.Nat.{add-zero}
use lib.Dec.{eqb}
use lib.ListN.{length, get_or, take, drop}
use lib.Seq.{take_all, drop-drop}
use Rattle.text.specs.Equal.{same_bytes}
use Rattle.text.specs.Table.{values}
use Rattle.text.proofs.Parts.{part_bytes}
use Rattle.decide.specs.Tests.{has_airfield}

-- four bytes one by one
pub four : (l : List ℕ) → length l ≡ 4 → l ≡ values (λ i. get_or l i 0) 0 4
four l e = sym (take_all 4 l (omega arith)) ∙ part_bytes 4 0 l (omega arith)

pub same-four : (a b c d : ℕ) (l : List ℕ) → length l ≡ 4
    → (eqb a (get_or l 0 0) && eqb b (get_or l 1 0) && eqb c (get_or l 2 0) && eqb d (get_or l 3 0)) ≡ same_bytes (a ∷ b ∷ c ∷ d ∷ []) l
unfolding same_bytes
same-four a b c d l e = sym (ap (same_bytes (a ∷ b ∷ c ∷ d ∷ [])) (four l e) ∙ simp (and_assoc, and-true))

module _ (names a : List ℕ) (n i : ℕ) where
  -- a name by its bytes
  pub name_at : 4 * i + 4 ≤ length names
      → take 4 (drop (4 * i) names)
      ≡ get_or names (4 * i) 0 ∷ get_or names (4 * i + 1) 0 ∷ get_or names (4 * i + 2) 0 ∷ get_or names (4 * i + 3) 0 ∷ []
  name_at h =
      let p = 4 * i in
      part_bytes 4 p names h
      ∙ ap (λ (k : ℕ). get_or names k 0 ∷ get_or names (p + 1) 0 ∷ get_or names (p + 2) 0 ∷ get_or names (p + 3) 0 ∷ []) (add-zero p)

  pub has_turn : i < n → same_bytes (take 4 (drop (4 * i) names)) a ≡ false
      → has_airfield (n - i) (drop (4 * i) names) a ≡ has_airfield (n - (i + 1)) (drop (4 * (i + 1)) names) a
  unfolding has_airfield
  has_turn h t =
      let one : n - i ≡ suc (n - (i + 1)) = omega arith in
      let next : 4 * i + 4 ≡ 4 * (i + 1) = omega arith in
      rw (one, t, ← next) (ap (λ (l : List ℕ). has_airfield (n - (i + 1)) l a) (drop-drop 4 (4 * i) names))

  pub has_stop : i < n → same_bytes (take 4 (drop (4 * i) names)) a ≡ true → has_airfield (n - i) (drop (4 * i) names) a ≡ true
  unfolding has_airfield
  has_stop h t = let one : n - i ≡ suc (n - (i + 1)) = omega arith in rw (one, t)

  pub has_end : n ≤ i → has_airfield (n - i) (drop (4 * i) names) a ≡ false
  unfolding has_airfield
  has_end h = let none : n - i ≡ 0 = omega arith in rw none
