-- The list of items that are set, as it is filled turn by turn.
use mathlib.Core.Path.{◌≡◌, refl, sym, ap, ◌∙◌}
use mathlib.Core.Bool.{true, false}
use mathlib.Core.List.{List, [], ◌∷◌, ◌++◌, append_assoc, append-nil}
use Prim.Native.Nat.{ℕ, suc, ◌+◌, ◌-◌, ◌≤◌, ◌<◌}
use native.Mathlib.Omega.{arith}
use lib.ListN.{length, set, replicate, length-append}
use lib.Seq.{set-append_seam}
use Rattle.difference.specs.Difference.{listing}
use Rattle.difference.specs.declared.Listed.{Listed}
use Rattle.difference.specs.Inner.{item_at, set_at, set_items}

-- js are listed so far, and what is set from the i-th on is left
pub record Filling (flags named items : List ℕ) (count i : ℕ) : Type 0 where
  pub js : List ℕ
  pub shape : items ≡ js ++ replicate (15 - length js) 0
  pub size : count ≡ length js
  pub few : length js ≤ i
  pub inside : i ≤ 15
  pub whole : set_items flags named 0 15 ≡ js ++ set_items flags named i (15 - i)

pub fill_start : (flags named : List ℕ) → Filling flags named (replicate 15 0) 0 0
fill_start flags named =
    record { js = []; shape = refl; size = refl; few = omega arith; inside = omega arith; whole = refl }

module _ (flags named items : List ℕ) (count i : ℕ) (f : Filling flags named items count i) (h : i < 15) where
  -- an item that is set goes behind the others
  pub fill_more : set_at flags named i ≡ true → Filling flags named (set items count (item_at i)) (count + 1) (i + 1)
  unfolding set_items
  fill_more t =
      let js = f.js in
      let v = item_at i in
      let few = f.few in
      let room : 15 - length js ≡ suc (15 - length (js ++ v ∷ [])) = omega (arith, length-append js (v ∷ [])) in
      let left : 15 - i ≡ suc (15 - suc i) = omega arith in
      let next : suc i ≡ i + 1 = omega arith in
      record {
        js = js ++ v ∷ [];
        shape =
            rw (f.shape, f.size, room)
            (set-append_seam js 0 (replicate (15 - length (js ++ v ∷ [])) 0) v ∙ sym (append_assoc js (v ∷ []) (replicate (15 - length (js ++ v ∷ [])) 0)));
        size = omega (arith, f.size, length-append js (v ∷ []));
        few = omega (arith, length-append js (v ∷ []));
        inside = omega arith;
        whole =
            f.whole
            ∙ rw (left, t) (sym (append_assoc js (v ∷ []) (set_items flags named (suc i) (15 - suc i))))
            ∙ ap (λ (n : ℕ). (js ++ v ∷ []) ++ set_items flags named n (15 - n)) next;
      }

  -- any other is passed over
  pub fill_pass : set_at flags named i ≡ false → Filling flags named items count (i + 1)
  unfolding set_items
  fill_pass t =
      let few = f.few in
      let left : 15 - i ≡ suc (15 - suc i) = omega arith in
      let next : suc i ≡ i + 1 = omega arith in
      let skip : f.js ++ set_items flags named i (15 - i) ≡ f.js ++ set_items flags named (suc i) (15 - suc i) = rw (left, t) in
      record {
        js = f.js;
        shape = f.shape;
        size = f.size;
        few = omega arith;
        inside = omega arith;
        whole = f.whole ∙ skip ∙ ap (λ (n : ℕ). f.js ++ set_items flags named n (15 - n)) next;
      }

abbrev pub listed_of : ℕ → List ℕ → Listed
listed_of n l = record { count = n; items = l }

-- in the end they are all there
pub fill_end : (flags named items : List ℕ) (count i : ℕ) → Filling flags named items count i → 15 ≤ i
    → listed_of count items ≡ listing (set_items flags named 0 15)
unfolding set_items
fill_end flags named items count i f h =
    let inside = f.inside in
    let none : 15 - i ≡ 0 = omega arith in
    let all : set_items flags named 0 15 ≡ f.js = f.whole ∙ rw none (append-nil f.js) in
    rw (all, f.size, ← f.shape)
