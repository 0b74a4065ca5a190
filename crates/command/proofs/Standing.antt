-- The walk to a section of an accepted text: it was accepted where it stands, and its own bytes stand there.
use mathlib.Core.Path.{◌≡◌, refl, ap, ◌∙◌}
use mathlib.Core.Bool.{true, false}
use mathlib.Core.List.{List, [], ◌∷◌}
use Prim.Native.Nat.{ℕ, ◌+◌, ◌≤◌}
use native.Mathlib.Omega.{arith}
use lib.Dec.{eqb}
use borrow.Author.Tests.{eqb-true, ne_eqb}
use Rattle.text.specs.Parts.{part}
use Rattle.text.proofs.Cases.{by_test}
use Rattle.field.proofs.Local.{after-cases}
use Rattle.section.specs.Layout.{numbers, layout_of, check_section, items_size, Accepted}
use Rattle.section.proofs.Own.{cut_end}
use Rattle.command.specs.Text.{is_named, check_from}
use Rattle.command.specs.Sections.{is_one_of, place_from, bytes_of}
use Rattle.command.proofs.Each.{Each}
use Rattle.command.proofs.Parts.{body_from, body_of}
use Rattle.std.specs.Prelude.{Ok}

-- a named section was accepted at its place
pub accepted-place : (ks s : List ℕ) (at j p : ℕ) → is_one_of ks j ≡ true → is_named s j ≡ true → check_from ks s at ≡ Ok p
    → Accepted j s (place_from ks s at j)
unfolding check_from place_from
accepted-place [] s at j p i n e = cc
accepted-place (k ∷ ks) s at j p i n e =
    by_test (is_named s k)
    (λ (m : is_named s k ≡ true).
    after-cases (check_section k s at) (check_from ks s) p (rw m at e)
    (λ q (c : check_section k s at ≡ Ok q) (d : check_from ks s q ≡ Ok p).
    let end = cut_end (layout_of k) s at q c in
    by_test (eqb j k)
    (λ (y : eqb j k ≡ true). rw (y, eqb-true j k y) (c ∙ ap Ok end))
    (λ (y : eqb j k ≡ false).
    rw (y, m) (accepted-place ks s (at + items_size (layout_of k) s at) j p (rw y at i) n (rw end at d)))))
    (λ (m : is_named s k ≡ false).
    by_test (eqb j k)
    (λ (y : eqb j k ≡ true).
    let d : j ≡ k = eqb-true j k y in
    let z : ◌≡◌ {A = ℕ} 0 1 = cc in
    absurd (omega arith))
    (λ (y : eqb j k ≡ false). rw (y, m) (accepted-place ks s at j p (rw y at i) n (rw m at e))))

pub one-least : (least : ℕ) (ks : List ℕ) (j : ℕ) → Each (λ k. least ≤ k) ks → is_one_of ks j ≡ true → least ≤ j
one-least least [] j h i = let z : ◌≡◌ {A = ℕ} 0 1 = cc in absurd (omega arith)
one-least least (k ∷ ks) j h i =
    by_test (eqb j k)
    (λ (y : eqb j k ≡ true). rw (eqb-true j k y) h.0)
    (λ (y : eqb j k ≡ false). one-least least ks j h.1 (rw y at i))

pub one-most : (most : ℕ) (ks : List ℕ) (j : ℕ) → Each (λ k. k ≤ most) ks → is_one_of ks j ≡ true → j ≤ most
one-most most [] j h i = let z : ◌≡◌ {A = ℕ} 0 1 = cc in absurd (omega arith)
one-most most (k ∷ ks) j h i =
    by_test (eqb j k)
    (λ (y : eqb j k ≡ true). rw (eqb-true j k y) h.0)
    (λ (y : eqb j k ≡ false). one-most most ks j h.1 (rw y at i))

-- the own bytes of a named section stand at its place
body-place : (ks s : List ℕ) (at j : ℕ) → is_one_of ks j ≡ true → is_named s j ≡ true
    → body_from ks s at j ≡ part (place_from ks s at j) (items_size (layout_of j) s (place_from ks s at j)) s
unfolding body_from place_from
body-place [] s at j i n = cc
body-place (k ∷ ks) s at j i n =
    by_test (eqb j k)
    (λ (y : eqb j k ≡ true). rw (y, ← eqb-true j k y, n))
    (λ (y : eqb j k ≡ false).
    by_test (is_named s k)
    (λ (m : is_named s k ≡ true). rw (y, m) (body-place ks s (at + items_size (layout_of k) s at) j (rw y at i) n))
    (λ (m : is_named s k ≡ false). rw (y, m) (body-place ks s at j (rw y at i) n)))

-- one that isn't named has none
pub body_absent : (ks s : List ℕ) (at j : ℕ) → is_named s j ≡ false → body_from ks s at j ≡ []
unfolding body_from
body_absent [] s at j n = refl
body_absent (k ∷ ks) s at j n =
    by_test (is_named s k)
    (λ (m : is_named s k ≡ true).
    rw (m, ne_eqb j k (λ (e : j ≡ k). let z : ◌≡◌ {A = ℕ} 0 1 = cc in omega arith))
    (body_absent ks s (at + items_size (layout_of k) s at) j n))
    (λ (m : is_named s k ≡ false). rw m (body_absent ks s at j n))

-- so what stands there is what the walk finds
pub bytes-body : (s : List ℕ) (k : ℕ) → is_one_of numbers k ≡ true → bytes_of s k ≡ body_of s k
bytes-body s k i =
    by_test (is_named s k)
    (λ (n : is_named s k ≡ true). rw (n, body-place numbers s 22 k i n))
    (λ (n : is_named s k ≡ false). rw (n, body_absent numbers s 22 k n))
