-- The eight indicator bytes against the sections' own bytes.
use mathlib.Core.Path.{◌≡◌, refl, sym, ap, ap₂}
use mathlib.Core.Bool.{Bool, true, false, ◌&&◌, ◌||◌, not}
use mathlib.Core.List.{List, [], ◌∷◌, map}
use Prim.Native.Nat.{ℕ, suc, ◌+◌, ◌≤◌}
use native.Mathlib.Omega.{arith}
use lib.Dec.{eqb}
use lib.ListN.{length, get_or}
use borrow.Author.Tests.{eq-eqb, ne_eqb, eqb-true}
use Rattle.text.specs.Parts.{part}
use Rattle.text.proofs.Cases.{by_test, both_left, both_right}
use Rattle.text.proofs.Parts.{part_bytes}
use Rattle.section.specs.Layout.{layout_of, is_empty, numbers}
use Rattle.command.specs.Text.{is_indicator, is_named}
use Rattle.command.proofs.Each.{Each, Rising}
use Rattle.command.proofs.Head.{passes}
use Rattle.command.proofs.Parts.{present, mark_of, marks, Place, Absent, Present}

-- the byte at section k's indicator
abbrev pub byte_of : List ℕ → ℕ → ℕ
byte_of s k = get_or s (11 + k) 0

-- the indicators are the bytes 13 to 20
pub indicators : (s : List ℕ) → 21 ≤ length s → part 13 8 s ≡ map (byte_of s) numbers
indicators s h = part_bytes 8 13 s h

-- equal lists of values are equal at each
pub map_each : (f g : ℕ → ℕ) (ks : List ℕ) → map f ks ≡ map g ks → Each (λ k. f k ≡ g k) ks
map_each f g [] e = tt
map_each f g (k ∷ ks) e = (cc, map_each f g ks (cc))

-- a mark for each section number
pub marks-length : (f : ℕ → List ℕ) (ks : List ℕ) → length (marks f ks) ≡ length ks
unfolding marks
marks-length f [] = refl
marks-length f (k ∷ ks) = ap suc (marks-length f ks)

-- ---- From the bytes

-- each indicator passes its own test
pub indicators_pass : (g : ℕ → ℕ) (ks : List ℕ) → passes (map is_indicator ks) (map g ks) ≡ true → Each (λ k. is_indicator k (g k) ≡ true) ks
unfolding passes
indicators_pass g [] e = tt
indicators_pass g (k ∷ ks) e =
    let rest = passes (map is_indicator ks) (map g ks) in
    (both_left (is_indicator k (g k)) rest e, indicators_pass g ks (both_right (is_indicator k (g k)) rest e))

mark-is : (k c : ℕ) (b : List ℕ) → is_indicator k c ≡ true → eqb c (48 + k) ≡ present b → mark_of k b ≡ c
mark-is k c [] i e =
    by_test (eqb c 48)
    (λ (y : eqb c 48 ≡ true). sym (eqb-true c 48 y))
    (λ (y : eqb c 48 ≡ false).
    let d : (not (is_empty (layout_of k)) && eqb c (48 + k)) ≡ true = rw y at i in
    let z : eqb c (48 + k) ≡ true = both_right (not (is_empty (layout_of k))) (eqb c (48 + k)) d in
    cc)
mark-is k c (b ∷ bs) i e = sym (eqb-true c (48 + k) e)

-- indicators that name just the sections whose bytes are there are those sections' marks
pub marks_are : (f : ℕ → List ℕ) (g : ℕ → ℕ) (ks : List ℕ) → Each (λ k. is_indicator k (g k) ≡ true) ks
    → Each (λ k. eqb (g k) (48 + k) ≡ present (f k)) ks → marks f ks ≡ map g ks
unfolding marks
marks_are f g [] i n = refl
marks_are f g (k ∷ ks) i n = ap₂ ◌∷◌ (mark-is k (g k) (f k) i.0 n.0) (marks_are f g ks i.1 n.1)

-- ---- From the sections

-- a mark names its section where bytes are there
pub mark-names : (k : ℕ) (b : List ℕ) → 1 ≤ k → eqb (mark_of k b) (48 + k) ≡ present b
mark-names k [] h = ne_eqb 48 (48 + k) (λ (e : 48 ≡ 48 + k). omega arith)
mark-names k (c ∷ b) h = eq-eqb (48 + k) (48 + k) refl

mark-passes : (k : ℕ) (b : List ℕ) → Place k b → is_indicator k (mark_of k b) ≡ true
mark-passes k b (Absent none) = rw none
mark-passes k [] (Present some own) = refl
mark-passes k (c ∷ b) (Present some own) = rw (some, eq-eqb (48 + k) (48 + k) refl) (or-true (eqb (48 + k) 48))
  where
    or-true : (t : Bool) → (t || true) ≡ true
    or-true true = refl
    or-true false = refl

-- the marks of allowed places pass the tests of indicators
pub marks_pass : (f : ℕ → List ℕ) (ks : List ℕ) → Each (λ k. Place k (f k)) ks → passes (map is_indicator ks) (marks f ks) ≡ true
unfolding passes marks
marks_pass f [] p = refl
marks_pass f (k ∷ ks) p = rw (mark-passes k (f k) p.0) (marks_pass f ks p.1)

-- a text whose indicators are the marks names just the sections whose bytes are there
pub names-from : (s : List ℕ) (f : ℕ → List ℕ) (lo : ℕ) (ks : List ℕ) → 1 ≤ lo → Rising lo ks → map (byte_of s) ks ≡ marks f ks
    → Each (λ k. is_named s k ≡ present (f k)) ks
unfolding marks
names-from s f lo [] h r e = tt
names-from s f lo (k ∷ ks) h r e =
    let l = r.0 in
    let b : byte_of s k ≡ mark_of k (f k) = cc in
    let d : map (byte_of s) ks ≡ marks f ks = cc in
    (rw b (mark-names k (f k) (omega arith)), names-from s f (suc k) ks (omega arith) r.1 d)
