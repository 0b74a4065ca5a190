-- A search through a board's list answers by the slots alone.
use mathlib.Core.Path.{◌≡◌, refl, sym, ◌∙◌, ap}
use mathlib.Core.Bool.{true, false, ◌&&◌}
use mathlib.Core.List.{List, [], ◌∷◌}
use Prim.Native.Nat.{ℕ, ◌≤◌, ◌<◌}
use native.Mathlib.Omega.{arith}
use lib.Dec.{ltb, eqb}
use lib.ListN.{length, get_or}
use borrow.Author.Tests.{lt-ltb, le-ltb, le-leb, eq-eqb, eqb-true}
use Rattle.std.specs.Prelude.{Some, None}
use Rattle.text.proofs.Cases.{by_test, both_right}
use Rattle.tails.specs.Tails.{key, below, sorted, rises, member, listed, list_of, agrees, find_in}
use Rattle.tails.proofs.Unique.{Agreed, rises-first, rises-rest, rises-above, first-or, no_member, used-listed, agreed, agrees-one}
use Rattle.tails.proofs.Made.{Different, made-agrees}

-- a list that rises is sorted
pub rises_sorted : (ks : List ℕ) (last : ℕ) (ts : List ℕ) → rises ks last ts ≡ true → sorted ks ts ≡ true
unfolding sorted
rises_sorted ks last [] r = refl
rises_sorted ks last (t ∷ []) r = refl
rises_sorted ks last (t ∷ u ∷ ts) r =
    let s = rises-rest ks last t (u ∷ ts) r in
    let h = rises-first ks (key ks t) u ts s in
    rw (le-leb (key ks t) (key ks u) (omega arith)) (rises_sorted ks (key ks t) (u ∷ ts) s)

-- where a listed slot stands
stands : (ks : List ℕ) (last : ℕ) (ts : List ℕ) (j : ℕ) → rises ks last ts ≡ true → member j ts ≡ true
    → (below ks (key ks j) ts < length ts) × (get_or ts (below ks (key ks j) ts) 0 ≡ j)
unfolding below
stands ks last [] j r m = no_member j m
stands ks last (t ∷ ts) j r m =
    first-or j t ts m
    (λ (e : j ≡ t). let h : key ks j ≤ key ks t = omega (arith, ap (key ks) e) in rw (le-ltb (key ks t) (key ks j) h) (omega arith, sym e))
    (λ (n : member j ts ≡ true).
    let s = rises-rest ks last t ts r in
    let h = rises-above ks (key ks t) ts j s n in
    let i = stands ks (key ks t) ts j s n in
    rw (lt-ltb (key ks t) (key ks j) h) (omega (arith, i.0), i.1))

module _ (ks ts : List ℕ) (a : Agreed ks ts) where
  -- a used slot is found by its key
  pub finds : (j : ℕ) → 0 < key ks j → find_in ks (key ks j) (listed ts) ≡ Some j
  unfolding find_in
  finds j u =
      let s = stands ks 0 (listed ts) j a.up (used-listed ks ts a j u) in
      let b = below ks (key ks j) (listed ts) in
      rw (lt-ltb b (length (listed ts)) s.0, s.1, eq-eqb (key ks j) (key ks j) refl)

  -- used slots of one key are one
  pub different : Different ks
  different i j u e =
      let v : 0 < key ks j = rw (← e) u in
      let si = stands ks 0 (listed ts) i a.up (used-listed ks ts a i u) in
      let sj = stands ks 0 (listed ts) j a.up (used-listed ks ts a j v) in
      sym si.1 ∙ ap (λ (k : ℕ). get_or (listed ts) (below ks k (listed ts)) 0) e ∙ sj.1

-- the list is the one that is made
pub listed-is : (ks ts : List ℕ) → length ks ≤ 64 → agrees ks ts ≡ true → ts ≡ list_of ks
listed-is ks ts h a = agrees-one ks ts (list_of ks) a (made-agrees ks h (different ks ts (agreed ks ts a)))

at-is : {i j : ℕ} → Some i ≡ Some j → i ≡ j
at-is e = cc

nowhere_at : {P : Type 0} {j : ℕ} → None ≡ Some j → P
nowhere_at e = let z : ◌≡◌ {A = ℕ} 0 1 = cc in absurd (omega arith)

-- what is found has the key
pub found-key : (ks : List ℕ) (k : ℕ) (rs : List ℕ) (j : ℕ) → find_in ks k rs ≡ Some j → key ks j ≡ k
unfolding find_in
found-key ks k rs j e =
    let b = below ks k rs in
    let x = ltb b (length rs) in
    let y = eqb (key ks (get_or rs b 0)) k in
    by_test (x && y)
    (λ (t : (x && y) ≡ true). rw (← (at-is (rw t at e))) (eqb-true (key ks (get_or rs b 0)) k (both_right x y t)))
    (λ (t : (x && y) ≡ false). nowhere_at (rw t at e))
