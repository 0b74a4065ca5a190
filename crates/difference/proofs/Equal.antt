-- The test whether two sections hold the same, against their equality; turn by turn, as the loop goes; and by a section's eight numbers.
use mathlib.Core.Path.{◌≡◌, refl, sym, ap, ap₂}
use mathlib.Core.Logic.{◌↔◌}
use mathlib.Core.Bool.{Bool, true, ◌&&◌, and_assoc, and-true}
use mathlib.Core.List.{List, [], ◌∷◌}
use Prim.Native.Nat.{ℕ, suc, ◌+◌, ◌≤◌, ◌<◌}
use native.Mathlib.Omega.{arith}
use native.Mathlib.Numerals.{add-one}
use lib.Dec.{eqb}
use lib.ListN.{length, get_or, drop, drop_of_length-le}
use lib.Seq.{drop-cons}
use borrow.Author.Tests.{eqb-true, eq-eqb}
use Rattle.text.specs.Equal.{same_bytes}
use Rattle.text.proofs.Cases.{both_left, both_right}
use Rattle.text.proofs.Equal.{same-equal, same_self}
use Rattle.field.specs.declared.Edge.{Edge}
use Rattle.field.specs.declared.Region.{Region}
use Rattle.lists.specs.declared.Airfields.{Airfields}
use Rattle.lists.specs.declared.Boxes.{Boxes}
use Rattle.section.specs.Contents.{Content, Amount, Names, Areas}
use Rattle.section.specs.Inner.{numbers_of}
use Rattle.settings.specs.Settings.{fixed_hold}
use Rattle.settings.specs.declared.Fixed.{Fixed}
use Rattle.settings.proofs.ByNumber.{from-four}
use Rattle.difference.specs.Same.{same_edge, same_region, same_regions, same_airfields, same_boxes, same_content, same_contents}

-- ---- What passes the test is equal

edge_of : ℕ → ℕ → Edge
edge_of d l = record { degrees = d; letter = l }

edge-equal : (e f : Edge) → same_edge e f ≡ true → e ≡ f
unfolding edge_of
edge-equal e f t =
    ap₂ edge_of (eqb-true _ _ (both_left (eqb e.degrees f.degrees) (eqb e.letter f.letter) t))
    (eqb-true _ _ (both_right (eqb e.degrees f.degrees) (eqb e.letter f.letter) t))

region_of_lem : Edge → Edge → Edge → Edge → Region
region_of_lem n s w e = record { north = n; south = s; west = w; east = e }

region_equal : (a b : Region) → same_region a b ≡ true → a ≡ b
unfolding region_of_lem
region_equal a b t =
    let n = same_edge a.north b.north in
    let s = same_edge a.south b.south in
    let w = same_edge a.west b.west in
    let e = same_edge a.east b.east in
    let three = both_left (n && s && w) e t in
    let two = both_left (n && s) w three in
    let same : region_of_lem a.north a.south a.west a.east ≡ region_of_lem b.north b.south b.west b.east =
    rw (
      edge-equal a.north b.north (both_left n s two),
      edge-equal a.south b.south (both_right n s two),
      edge-equal a.west b.west (both_right (n && s) w three),
      edge-equal a.east b.east (both_right (n && s && w) e t),
    ) in
    same

regions-equal : (a b : List Region) → same_regions a b ≡ true → a ≡ b
unfolding same_regions
regions-equal [] [] e = refl
regions-equal [] (y ∷ b) e = cc
regions-equal (x ∷ a) [] e = cc
regions-equal (x ∷ a) (y ∷ b) e =
    ap₂ ◌∷◌ (region_equal x y (both_left (same_region x y) (same_regions a b) e)) (regions-equal a b (both_right (same_region x y) (same_regions a b) e))

airfields-of : ℕ → List ℕ → Airfields
airfields-of n l = record { count = n; names = l }

airfields-equal : (l m : Airfields) → same_airfields l m ≡ true → l ≡ m
unfolding airfields-of
airfields-equal l m t =
    ap₂ airfields-of (eqb-true _ _ (both_left (eqb l.count m.count) (same_bytes l.names m.names) t))
    (same-equal _ _ (both_right (eqb l.count m.count) (same_bytes l.names m.names) t))

boxes-of : ℕ → List Region → Boxes
boxes-of n l = record { count = n; regions = l }

boxes-equal : (l m : Boxes) → same_boxes l m ≡ true → l ≡ m
unfolding boxes-of
boxes-equal l m t =
    ap₂ boxes-of (eqb-true _ _ (both_left (eqb l.count m.count) (same_regions l.regions m.regions) t))
    (regions-equal _ _ (both_right (eqb l.count m.count) (same_regions l.regions m.regions) t))

content_equal : (c d : Content) → same_content c d ≡ true → c ≡ d
content_equal (Amount v) (Amount w) e = ap Amount (eqb-true v w e)
content_equal (Amount v) (Names m) e = cc
content_equal (Amount v) (Areas m) e = cc
content_equal (Names l) (Amount w) e = cc
content_equal (Names l) (Names m) e = ap Names (airfields-equal l m e)
content_equal (Names l) (Areas m) e = cc
content_equal (Areas l) (Amount w) e = cc
content_equal (Areas l) (Names m) e = cc
content_equal (Areas l) (Areas m) e = ap Areas (boxes-equal l m e)

contents_equal : (cs ds : List Content) → same_contents cs ds ≡ true → cs ≡ ds
unfolding same_contents
contents_equal [] [] e = refl
contents_equal [] (d ∷ ds) e = cc
contents_equal (c ∷ cs) [] e = cc
contents_equal (c ∷ cs) (d ∷ ds) e =
    ap₂ ◌∷◌ (content_equal c d (both_left (same_content c d) (same_contents cs ds) e)) (contents_equal cs ds (both_right (same_content c d) (same_contents cs ds) e))

-- ---- and the other way round

edge_self : (e : Edge) → same_edge e e ≡ true
edge_self e = rw (eq-eqb e.degrees e.degrees refl, eq-eqb e.letter e.letter refl)

regions_self : (l : List Region) → same_regions l l ≡ true
unfolding same_regions
regions_self [] = refl
regions_self (x ∷ l) = rw (edge_self x.north, edge_self x.south, edge_self x.west, edge_self x.east) (regions_self l)

content_self : (c : Content) → same_content c c ≡ true
content_self (Amount v) = eq-eqb v v refl
content_self (Names l) = rw (eq-eqb l.count l.count refl) (same_self l.names)
content_self (Areas l) = rw (eq-eqb l.count l.count refl) (regions_self l.regions)

contents_self : (cs : List Content) → same_contents cs cs ≡ true
unfolding same_contents
contents_self [] = refl
contents_self (c ∷ cs) = rw (content_self c) (contents_self cs)

-- the test tells whether the contents are the same
pub same_contents_lem : (cs ds : List Content) → (same_contents cs ds ≡ true) ↔ (cs ≡ ds)
same_contents_lem cs ds = (contents_equal cs ds, λ e. rw e (contents_self ds))

-- ---- As the functions go

-- one region more of each is passed
pub regions_turn : (d : Region) (t : Bool) (a b : List Region) (i : ℕ) → i < length a → i < length b
    → (t && same_regions (drop i a) (drop i b))
    ≡ (t && same_region (get_or a i d) (get_or b i d) && same_regions (drop (i + 1) a) (drop (i + 1) b))
unfolding same_regions
regions_turn d t a b i h k =
    rw (add-one, drop-cons a i d, drop-cons b i d)
    (sym (and_assoc t (same_region (get_or a i d) (get_or b i d)) (same_regions (drop (suc i) a) (drop (suc i) b))))

-- nothing is left to compare past the ends
pub regions_end : (a b : List Region) (i : ℕ) → length a ≤ i → length b ≤ i → same_regions (drop i a) (drop i b) ≡ true
unfolding same_regions
regions_end a b i h k = rw (drop_of_length-le a {i = i} h, drop_of_length-le b {i = i} k)

-- a section of two lists, and one of two pairs of lists and a digit
pub two : (a b : Bool) → (a && b) ≡ (a && (b && true))
two a b = rw and-true

pub five : (a b d e f : Bool) → (((a && b) && (d && e)) && f) ≡ (a && (b && (d && (e && (f && true)))))
five a b d e f = simp (and_assoc, and-true)

-- a section of numbers, by its eight numbers
module _ (x y : Fixed) where
  abbrev SameAt : ℕ → Type 0
  SameAt k = k ≤ 9 → same_bytes (numbers_of (fixed_hold x k)) (numbers_of (fixed_hold y k)) ≡ same_contents (fixed_hold x k) (fixed_hold y k)

  pub same-eight : (k : ℕ) → 4 ≤ k → SameAt k
  unfolding fixed_hold numbers_of same_bytes same_contents
  same-eight =
      from-four SameAt (λ _. refl) (λ _. refl) (λ _. refl) (λ _. refl) (λ _. refl) (λ _. refl) (λ k past h. absurd (omega arith))
