-- Lists that are filled from the front, entry by entry.
use mathlib.Core.Path.{◌≡◌, refl, sym, ap, ◌∙◌}
use mathlib.Core.List.{List, [], ◌∷◌, ◌++◌, append_assoc}
use Prim.Native.Nat.{ℕ, zero, suc, ◌+◌, ◌-◌, ◌*◌, ◌<◌}
use native.Mathlib.Omega.{arith}
use native.Mathlib.Numerals.{add-one}
use lib.ListN.{length, set, drop, replicate}
use Rattle.std.proofs.lemmas.List.{drop-replicate}
use lib.Seq.{set_at}
use Rattle.field.specs.Boxes.{region_at}
use Rattle.field.specs.declared.Region.{Region}
use Rattle.lists.specs.Lists.{regions_at}

-- one entry more takes the place of the first unused one
pub fill_turn {ℓ} : {A : Type ℓ} (xs : List A) (n i : ℕ) (z a : A) → length xs ≡ i → i < n
    → set (xs ++ replicate (n - i) z) i a ≡ (xs ++ (a ∷ [])) ++ replicate (n - (i + 1)) z
fill_turn xs n i z a l h =
    let one : n - i ≡ suc (n - (i + 1)) = omega arith in
    let rest = replicate (n - (i + 1)) z in
    rw one (set_at xs z rest a i l ∙ sym (append_assoc xs (a ∷ []) rest))

-- a front over zeros
pub zeros_behind : (F t : List ℕ) (k n : ℕ) → F ≡ t → F ++ drop k (replicate n 0) ≡ t ++ replicate (n - k) 0
zeros_behind F t k n e = rw (e, drop-replicate {X = ℕ} k n 0)

pub regions-length : (n : ℕ) (s : List ℕ) (at : ℕ) → length (regions_at n s at) ≡ n
unfolding regions_at
regions-length zero s at = refl
regions-length (suc n) s at = ap suc (regions-length n s (at + 14))

regions-last : (n : ℕ) (s : List ℕ) (at : ℕ) → regions_at (suc n) s at ≡ regions_at n s at ++ (region_at s (at + 14 * n) ∷ [])
unfolding regions_at
regions-last zero s at = let e : at + 14 * 0 ≡ at = omega arith in rw e
regions-last (suc n) s at =
    let e : at + 14 + 14 * n ≡ at + 14 * suc n = omega arith in
    ap (λ (bs : List Region). region_at s at ∷ bs) (regions-last n s (at + 14) ∙ rw e)

-- one box more of a text
pub regions-more : (n : ℕ) (s : List ℕ) (at : ℕ) → regions_at (n + 1) s at ≡ regions_at n s at ++ (region_at s (at + 14 * n) ∷ [])
regions-more n s at = rw add-one (regions-last n s at)
