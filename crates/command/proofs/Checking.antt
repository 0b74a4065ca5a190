-- Steps of the check's loops.
use mathlib.Core.Path.{◌≡◌, refl, sym, ap, ◌∙◌}
use mathlib.Core.Bool.{Bool, true, false, cond, ◌&&◌, and_assoc, and-true}
use mathlib.Core.List.{List, [], ◌∷◌}
use Prim.Native.Nat.{ℕ, zero, suc, ◌+◌, ◌-◌, ◌≤◌, ◌<◌}
use native.Mathlib.Omega.{arith}
use native.Mathlib.Numerals.{add-one}
use native.Mathlib.Nat.{add-zero, zero-add, add-suc, suc-add, le_of_suc-le-suc, not-suc-le-zero}
use lib.Dec.{eqb, leb}
use lib.ListN.{length, get_or, drop, drop_of_length-le}
use lib.Seq.{drop-cons}
use borrow.Author.Tests.{eq-eqb, ne_eqb, le-leb, lt-leb, leb-true}
use Rattle.text.specs.Equal.{same_bytes}
use Rattle.text.specs.Parts.{part}
use Rattle.text.proofs.Checks.{err_ok}
use Rattle.text.proofs.Table.{at}
use Rattle.text.proofs.Parts.{part_bytes}
use Rattle.field.specs.Fields.{check_delimiter}
use Rattle.text.specs.Checks.{after, refuse}
use Rattle.field.proofs.Local.{ends-inside}
use Rattle.section.proofs.Local.{items_local}
use Rattle.section.proofs.Own.{cut_end}
use Rattle.section.specs.Layout.{layout_of, table_of, check_items, check_section, items_size, numbers}
use Rattle.command.specs.Text.{awr04, is_flag, is_named, head_bytes, check_awr04, check_each, check_head, check_from}
use Rattle.command.specs.Inner.{head_test, section_seen}
use Rattle.command.specs.Sections.{place_from}
use Rattle.std.specs.Prelude.{Result, Ok, Err}
use Rattle.text.specs.declared.Refusal.{Refusal}
use Rattle.text.specs.declared.Code.TheVariants.{NotAllowed, WrongEnd, WrongFixed}

-- ---- `AWR04`

pub awr04_bytes : (s : List ℕ) → 5 ≤ length s
    → (eqb (get_or s 0 0) 65 && eqb (get_or s 1 0) 87 && eqb (get_or s 2 0) 82 && eqb (get_or s 3 0) 48 && eqb (get_or s 4 0) 52)
    ≡ same_bytes (part 0 5 s) awr04
unfolding same_bytes
awr04_bytes s h = rw (part_bytes 5 0 s h) (simp (and_assoc, and-true))

-- ---- the bytes from the first flag to the last indicator

abbrev tests : (ℕ → ℕ → Bool) → ℕ → ℕ → List (ℕ → Bool)
tests f i zero = []
tests f i (suc n) = f i ∷ tests f (suc i) n

tests-at : (f : ℕ → ℕ → Bool) (i n k : ℕ) → k < n → get_or (tests f i n) k is_flag ≡ f (i + k)
tests-at f i zero k h = absurd (not-suc-le-zero h)
tests-at f i (suc n) zero h = ap f (sym (add-zero i))
tests-at f i (suc n) (suc k) h = tests-at f (suc i) n k (le_of_suc-le-suc h) ∙ ap f (suc-add i k ∙ sym (add-suc i k))

-- each byte's test, by its place
pub head_test_lem : (i : ℕ) → i < 16 → get_or head_bytes i is_flag ≡ head_test i
unfolding layout_of table_of
head_test_lem i h = tests-at head_test 0 16 i h ∙ ap head_test (zero-add i)

head-next : (i : ℕ) → i < 16 → drop i head_bytes ≡ head_test i ∷ drop (i + 1) head_bytes
head-next i h = drop-cons head_bytes i is_flag h ∙ rw (head_test_lem i h, add-one i)

module _ (s : List ℕ) (i : ℕ) (lt : i < 16) where
  pub head_cut : length s ≤ 5 + i → check_each (drop i head_bytes) s (5 + i) ≡ refuse WrongEnd (5 + i)
  unfolding check_each
  head_cut h = rw (head-next i lt, lt-leb (5 + i + 1) (length s) (omega arith))

  pub head_bad : 5 + i < length s → head_test i (get_or s (5 + i) 0) ≡ false → check_each (drop i head_bytes) s (5 + i) ≡ refuse NotAllowed (5 + i)
  unfolding check_each
  head_bad h e = rw (head-next i lt, le-leb (5 + i + 1) (length s) (omega arith), e)

  pub head_on : 5 + i < length s → head_test i (get_or s (5 + i) 0) ≡ true
      → check_each (drop i head_bytes) s (5 + i) ≡ check_each (drop (i + 1) head_bytes) s (5 + (i + 1))
  unfolding check_each
  head_on h e =
      let k : 5 + i + 1 ≡ 5 + (i + 1) = omega arith in
      rw (head-next i lt, le-leb (5 + i + 1) (length s) (omega arith), e, k)

pub head_end : (s : List ℕ) (i : ℕ) → i ≤ 16 → 16 ≤ i → check_each (drop i head_bytes) s (5 + i) ≡ Ok 21
unfolding check_each
head_end s i h j = let e : i ≡ 16 = omega arith in rw e

-- the three groups of the first 22 bytes together
pub groups_fine : (s : List ℕ) → 22 ≤ length s → same_bytes (part 0 5 s) awr04 ≡ true → check_each head_bytes s 5 ≡ Ok 21
    → eqb (get_or s 21 0) 47 ≡ true → check_head s ≡ Ok 22
unfolding check_head check_awr04 check_delimiter
groups_fine s h a b d = rw (le-leb 5 (length s) (omega arith), a, b, le-leb 22 (length s) h, d)

-- ---- the sections

numbers-at : (i : ℕ) → i < 8 → get_or numbers i 0 ≡ 2 + i
numbers-at i h = at (λ (j : ℕ). 2 + j) 8 i h

-- the numbers from k on begin with k
pub numbers-next : (k : ℕ) → 2 ≤ k → k < 10 → drop (k - 2) numbers ≡ k ∷ drop (k + 1 - 2) numbers
numbers-next k lo hi =
    let i : k - 2 < 8 = omega arith in
    let e : 2 + (k - 2) ≡ k = omega arith in
    let n : suc (k - 2) ≡ k + 1 - 2 = omega arith in
    drop-cons numbers (k - 2) 0 i ∙ rw (numbers-at (k - 2) i, e, n)

module _ (s : List ℕ) (k p : ℕ) (lo : 2 ≤ k) (hi : k < 10) where
  -- a section that is refused ends the check
  pub section_stop : (r : Refusal) → section_seen s k p ≡ Err r → check_from (drop (k - 2) numbers) s p ≡ Err r
  unfolding check_from
  section_stop r e = rw (numbers-next k lo hi) (go (is_named s k) (check_section k s p) e _)
    where
      go : (t : Bool) (x : Result ℕ Refusal) → cond t x (Ok p) ≡ Err r → (more : ℕ → Result ℕ Refusal) → cond t (after x more) (more p) ≡ Err r
      go true (Err d) w more = w
      go true (Ok q) w more = cc
      go false x w more = cc

  -- any other goes on from where it ended
  pub section-on : (q : ℕ) → section_seen s k p ≡ Ok q → check_from (drop (k - 2) numbers) s p ≡ check_from (drop (k + 1 - 2) numbers) s q
  unfolding check_from
  section-on q e = rw (numbers-next k lo hi) (go (is_named s k) (check_section k s p) e (check_from (drop (k + 1 - 2) numbers) s))
    where
      go : (t : Bool) (x : Result ℕ Refusal) → cond t x (Ok p) ≡ Ok q → (more : ℕ → Result ℕ Refusal) → cond t (after x more) (more p) ≡ more q
      go true (Err r) w more = cc
      go true (Ok r) w more = let z : r ≡ q = cc in ap more z
      go false x w more = let z : p ≡ q = cc in ap more z

  -- and that lies inside the text
  pub section-inside : (q : ℕ) → p ≤ length s → section_seen s k p ≡ Ok q → q ≤ length s
  section-inside q h e = go (is_named s k) e
    where
      go : (t : Bool) → cond t (check_section k s p) (Ok p) ≡ Ok q → q ≤ length s
      go true w = ends-inside (check_items (layout_of k)) (items_local (layout_of k)) s p q w h
      go false w = let z : p ≡ q = cc in rw (← z) h

pub sections_end : (s : List ℕ) (k p : ℕ) → 10 ≤ k → check_from (drop (k - 2) numbers) s p ≡ Ok p
unfolding check_from
sections_end s k p h = rw (drop_of_length-le numbers {i = k - 2} (omega arith))

-- ---- where they stand

module _ (s : List ℕ) (k p : ℕ) (lo : 2 ≤ k) (hi : k < 10) where
  -- the section whose turn it is stands here
  pub place_here : place_from (drop (k - 2) numbers) s p k ≡ p
  unfolding place_from
  place_here = rw (numbers-next k lo hi, eq-eqb k k refl)

  -- a later one where the walk from the next place finds it
  pub place-on : (q j : ℕ) → k < j → section_seen s k p ≡ Ok q
      → place_from (drop (k - 2) numbers) s p j ≡ place_from (drop (k + 1 - 2) numbers) s q j
  unfolding place_from
  place-on q j h e =
      rw (numbers-next k lo hi, ne_eqb j k (λ (z : j ≡ k). omega arith))
      (ap (λ (r : ℕ). place_from (drop (k + 1 - 2) numbers) s r j) (go (is_named s k) e))
    where
      go : (t : Bool) → cond t (check_section k s p) (Ok p) ≡ Ok q → cond t (p + items_size (layout_of k) s p) p ≡ q
      go true w = sym (cut_end (layout_of k) s p q w)
      go false w = cc

-- what the fixed group's acceptance says
pub awr04_next : (s : List ℕ) (p : ℕ) → check_awr04 s ≡ Ok p → (5 ≤ length s) × (p ≡ 5)
unfolding check_awr04
awr04_next s p e = go (leb 5 (length s)) refl (same_bytes (part 0 5 s) awr04) e
  where
    go : (t : Bool) → leb 5 (length s) ≡ t → (u : Bool) → cond t (cond u (Ok 5) (refuse WrongFixed 0)) (refuse WrongEnd 0) ≡ Ok p → (5 ≤ length s) × (p ≡ 5)
    go true h true w = let z : 5 ≡ p = cc in (leb-true 5 (length s) h, sym z)
    go true h false w = err_ok _ p w
    go false h u w = err_ok _ p w
