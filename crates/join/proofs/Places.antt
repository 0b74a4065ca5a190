-- The join at one place and at all of them: flags and indicators as bytes, sections as their own bytes.
use mathlib.Core.Path.{◌≡◌, refl, sym, ap, ap₂}
use mathlib.Core.Bool.{Bool, true, false, cond}
use mathlib.Core.List.{List, [], ◌∷◌}
use Prim.Native.Nat.{ℕ, suc, ◌+◌, ◌-◌, ◌≤◌}
use native.Mathlib.Omega.{arith}
use lib.Dec.{eqb}
use lib.ListN.{length, replicate}
use borrow.Author.Tests.{eq-eqb, ne_eqb, eqb-true}
use Rattle.text.proofs.Cases.{by_test, both_left, both_right}
use Rattle.section.specs.Contents.{Content}
use Rattle.command.specs.Record.{digits_of}
use Rattle.command.proofs.Each.{Rising}
use Rattle.command.proofs.Head.{passes}
use Rattle.command.proofs.Parts.{present, mark_of, marks, Place}
use Rattle.config.specs.Config.{new_flag, new_flags}
use Rattle.config.proofs.Apply.{nine-is, set_by}
use Rattle.join.specs.Join.{choose}

-- ---- Bytes: the second's, or the first's where the second's is `none`

abbrev chosen : ℕ → ℕ → ℕ → ℕ
chosen none f g = cond (eqb g none) f g

chosen_assoc : (n f g h : ℕ) → chosen n (chosen n f g) h ≡ chosen n f (chosen n g h)
chosen_assoc n f g h =
    by_test (eqb h n) (λ (e : eqb h n ≡ true). rw e) (λ (e : eqb h n ≡ false). rw (e, e))

-- grouping of three
pub choose_assoc : (n : ℕ) (fs gs hs : List ℕ) → choose n (choose n fs gs) hs ≡ choose n fs (choose n gs hs)
unfolding choose
choose_assoc n [] gs hs = refl
choose_assoc n (f ∷ fs) [] hs = refl
choose_assoc n (f ∷ fs) (g ∷ gs) [] = refl
choose_assoc n (f ∷ fs) (g ∷ gs) (h ∷ hs) = ap₂ ◌∷◌ (chosen_assoc n f g h) (choose_assoc n fs gs hs)

-- none chosen on the right, and on the left
pub choose-none : (n : ℕ) (fs : List ℕ) → choose n fs (replicate (length fs) n) ≡ fs
unfolding choose
choose-none n [] = refl
choose-none n (f ∷ fs) = rw (eq-eqb n n refl) (ap (λ (l : List ℕ). f ∷ l) (choose-none n fs))

none-chosen : (n g : ℕ) → chosen n n g ≡ g
none-chosen n g =
    by_test (eqb g n) (λ (e : eqb g n ≡ true). rw e (sym (eqb-true g n e))) (λ (e : eqb g n ≡ false). rw e)

-- nor on the left
pub none-choose : (n : ℕ) (gs : List ℕ) → choose n (replicate (length gs) n) gs ≡ gs
unfolding choose
none-choose n [] = refl
none-choose n (g ∷ gs) = ap₂ ◌∷◌ (none-chosen n g) (none-choose n gs)

chosen_self : (n f : ℕ) → chosen n f f ≡ f
chosen_self n f = by_test (eqb f n) (λ (e : eqb f n ≡ true). rw e) (λ (e : eqb f n ≡ false). rw e)

-- with itself
pub choose_self : (n : ℕ) (fs : List ℕ) → choose n fs fs ≡ fs
unfolding choose
choose_self n [] = refl
choose_self n (f ∷ fs) = ap₂ ◌∷◌ (chosen_self n f) (choose_self n fs)

-- what both pass, the join passes
pub choose-passes : (n : ℕ) (tests : List (ℕ → Bool)) (fs gs : List ℕ) → passes tests fs ≡ true → passes tests gs ≡ true
    → passes tests (choose n fs gs) ≡ true
unfolding choose passes
choose-passes n [] [] gs e d = refl
choose-passes n [] (f ∷ fs) gs e d = cc
choose-passes n (t ∷ ts) [] gs e d = cc
choose-passes n (t ∷ ts) (f ∷ fs) [] e d = cc
choose-passes n (t ∷ ts) (f ∷ fs) (g ∷ gs) e d =
    let rest = choose-passes n ts fs gs (both_right (t f) (passes ts fs) e) (both_right (t g) (passes ts gs) d) in
    by_test (eqb g n)
    (λ (y : eqb g n ≡ true). rw (y, both_left (t f) (passes ts fs) e) rest)
    (λ (y : eqb g n ≡ false). rw (y, both_left (t g) (passes ts gs) d) rest)

-- ---- Flags

new_flag_lem : (o f g : ℕ) → new_flag o (chosen 57 f g - 48) ≡ new_flag (new_flag o (f - 48)) (g - 48)
new_flag_lem o f g =
    by_test (eqb g 57)
    (λ (e : eqb g 57 ≡ true). rw (nine-is g, e))
    (λ (e : eqb g 57 ≡ false). rw (e, nine-is g, e))

-- joined flags set what the first's and then the second's set
pub new_flags_lem : (os fs gs : List ℕ) → length fs ≡ length gs
    → new_flags os (digits_of (choose 57 fs gs)) ≡ new_flags (new_flags os (digits_of fs)) (digits_of gs)
unfolding choose new_flags
new_flags_lem [] fs gs e = refl
new_flags_lem (o ∷ os) [] [] e = refl
new_flags_lem (o ∷ os) [] (g ∷ gs) e = absurd (omega arith)
new_flags_lem (o ∷ os) (f ∷ fs) [] e = absurd (omega arith)
new_flags_lem (o ∷ os) (f ∷ fs) (g ∷ gs) e = ap₂ ◌∷◌ (new_flag_lem o f g) (new_flags_lem os fs gs (omega arith))

-- ---- Sections: the second's own bytes, or the first's where there are none

-- the second's bytes, or the first's where there are none
abbrev pub later : List ℕ → List ℕ → List ℕ
later x [] = x
later x (b ∷ bs) = b ∷ bs

-- named is where bytes are
pub later-named : (x y : List ℕ) → cond (present y) y x ≡ later x y
later-named x [] = refl
later-named x (b ∷ y) = refl

-- grouping of three
pub later_assoc : (x y z : List ℕ) → later (later x y) z ≡ later x (later y z)
later_assoc x y [] = refl
later_assoc x y (b ∷ z) = refl

-- no bytes first
pub none-later : (x : List ℕ) → later [] x ≡ x
none-later [] = refl
none-later (b ∷ x) = refl

-- with itself
pub later_self : (x : List ℕ) → later x x ≡ x
later_self [] = refl
later_self (b ∷ x) = refl

-- an allowed place stays one
pub later-place : (k : ℕ) (x y : List ℕ) → Place k x → Place k y → Place k (later x y)
later-place k x [] p q = p
later-place k x (b ∷ y) p q = q

-- joined bytes set what the first's and then the second's set
pub set-later : (k : ℕ) (x y : List ℕ) (old : List Content) → set_by k (later x y) old ≡ set_by k y (set_by k x old)
set-later k x [] old = refl
set-later k x (b ∷ y) old = refl

mark-later : (k : ℕ) (x y : List ℕ) → 1 ≤ k → chosen 48 (mark_of k x) (mark_of k y) ≡ mark_of k (later x y)
mark-later k x [] h = refl
mark-later k x (b ∷ y) h = rw (ne_eqb (48 + k) 48 (λ (e : 48 + k ≡ 48). omega arith))

-- the indicators of joined sections
pub marks-later : (f g : ℕ → List ℕ) (lo : ℕ) (ks : List ℕ) → 1 ≤ lo → Rising lo ks
    → choose 48 (marks f ks) (marks g ks) ≡ marks (λ k. later (f k) (g k)) ks
unfolding choose marks
marks-later f g lo [] h r = refl
marks-later f g lo (k ∷ ks) h r =
    let l = r.0 in
    ap₂ ◌∷◌ (mark-later k (f k) (g k) (omega arith)) (marks-later f g (suc k) ks (omega arith) r.1)
