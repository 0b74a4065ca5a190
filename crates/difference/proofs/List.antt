-- The items that pass a test: which they are, in which order, how many.
use mathlib.Core.Path.{◌≡◌, refl, sym, ap, ◌∙◌}
use mathlib.Core.Bool.{Bool, true, false, cond, ◌&&◌}
use mathlib.Core.List.{List, [], ◌∷◌}
use Prim.Native.Nat.{ℕ, zero, suc, ◌+◌, ◌-◌, ◌≤◌, ◌<◌}
use native.Mathlib.Omega.{arith}
use lib.Dec.{leb, eqb}
use lib.ListN.{length, get_or}
use borrow.Author.Tests.{eqb-true, eq-eqb, leb-true, lt-ltb, le-ltb}
use Rattle.text.proofs.Cases.{by_test, both_left, both_right}
use Rattle.text.proofs.Table.{agree}
use Rattle.command.specs.Sections.{is_one_of}
use Rattle.command.proofs.Each.{Each, Rising}
use Rattle.commute.proofs.Numbered.{one_more}
use Rattle.difference.specs.Difference.{items, by_item, those}

-- ---- The items

-- what holds of each flag's item and of each section's holds of each item
pub each_item : (P : ℕ → Type 0) → ((i : ℕ) → i < 7 → P (i + 1)) → ((k : ℕ) → 2 ≤ k → k ≤ 9 → P (k + 10)) → Each P items
each_item P f g = (
  f 0 (omega arith),
  (
    f 1 (omega arith),
    (
      f 2 (omega arith),
      (
        f 3 (omega arith),
        (
          f 4 (omega arith),
          (
            f 5 (omega arith),
            (
              f 6 (omega arith),
              (
                g 2 (omega arith) (omega arith),
                (
                  g 3 (omega arith) (omega arith),
                  (
                    g 4 (omega arith) (omega arith),
                    (
                      g 5 (omega arith) (omega arith),
                      (
                        g 6 (omega arith) (omega arith),
                        (g 7 (omega arith) (omega arith), (g 8 (omega arith) (omega arith), (g 9 (omega arith) (omega arith), tt))),
                      ),
                    ),
                  ),
                ),
              ),
            ),
          ),
        ),
      ),
    ),
  ),
)

-- the items are there: one computed test for the flags, one for the sections
is_true : (t : Bool) → ◌≡◌ {A = ℕ} (cond t 1 0) 1 → t ≡ true
is_true true e = refl
is_true false e = absurd (omega (arith, e))

pub flag_item : (i : ℕ) → i < 7 → is_one_of items (i + 1) ≡ true
flag_item i h = is_true (is_one_of items (i + 1)) (agree (λ (i : ℕ). cond (is_one_of items (i + 1)) 1 0) (λ (i : ℕ). 1) 7 refl i h)

pub section_item : (k : ℕ) → 2 ≤ k → k ≤ 9 → is_one_of items (k + 10) ≡ true
section_item k lo hi =
    let back : k - 2 + 12 ≡ k + 10 = omega arith in
    ap (is_one_of items) (sym back)
    ∙ is_true (is_one_of items (k - 2 + 12)) (agree (λ (i : ℕ). cond (is_one_of items (i + 12)) 1 0) (λ (i : ℕ). 1) 8 refl (k - 2) (omega arith))

-- what is said of a flag's item is said of the flag, and of a section's, of the section
module _ (flag section : ℕ → Bool) where
  pub by_flag_lem : (i : ℕ) → i < 7 → by_item flag section (i + 1) ≡ flag i
  by_flag_lem i h = let back : i + 1 - 1 ≡ i = omega arith in rw (lt-ltb (i + 1) 10 (omega arith), back)

  pub by_section : (k : ℕ) → by_item flag section (k + 10) ≡ section k
  by_section k = let back : k + 10 - 10 ≡ k = omega arith in rw (le-ltb (k + 10) 10 (omega arith), back)

-- they rise: one computed test
rises : ℕ → List ℕ → Bool
rises lo [] = true
rises lo (j ∷ js) = leb lo j && rises (suc j) js

rises-is : (lo : ℕ) (js : List ℕ) → rises lo js ≡ true → Rising lo js
unfolding rises
rises-is lo [] e = tt
rises-is lo (j ∷ js) e =
    (leb-true lo j (both_left (leb lo j) (rises (suc j) js) e), rises-is (suc j) js (both_right (leb lo j) (rises (suc j) js) e))

pub items_rise : Rising 1 items
unfolding rises
items_rise = rises-is 1 items refl

-- ---- Those that pass

-- where the same pass, they are the same
pub those-same : (s t : ℕ → Bool) (js : List ℕ) → Each (λ j. s j ≡ t j) js → those s js ≡ those t js
unfolding those
those-same s t [] e = refl
those-same s t (j ∷ js) e = rw (e.0, those-same s t js e.1)

-- none
pub those-none : (t : ℕ → Bool) (js : List ℕ) → Each (λ j. t j ≡ false) js → those t js ≡ []
unfolding those
those-none t [] e = refl
those-none t (j ∷ js) e = rw e.0 (those-none t js e.1)

pub none_pass : (t : ℕ → Bool) (js : List ℕ) → those t js ≡ [] → Each (λ j. t j ≡ false) js
unfolding those
none_pass t [] e = tt
none_pass t (j ∷ js) e =
    by_test (t j)
    (λ (y : t j ≡ true). let z : ◌≡◌ {A = List ℕ} (j ∷ those t js) [] = rw y at e in let w : ◌≡◌ {A = ℕ} 0 1 = cc in absurd (omega arith))
    (λ (n : t j ≡ false). (n, none_pass t js (rw n at e)))

-- where more pass, they are not fewer
pub those_fewer : (s t : ℕ → Bool) (js : List ℕ) → Each (λ j. s j ≡ true → t j ≡ true) js → length (those s js) ≤ length (those t js)
unfolding those
those_fewer s t [] e = omega arith
those_fewer s t (j ∷ js) e =
    let rest = those_fewer s t js e.1 in
    by_test (s j)
    (λ (y : s j ≡ true). rw (y, e.0 y) (omega (arith, rest)))
    (λ (n : s j ≡ false).
    by_test (t j) (λ (y : t j ≡ true). rw (n, y) (omega (arith, rest))) (λ (m : t j ≡ false). rw (n, m) rest))

-- no more than there are
pub those-most : (t : ℕ → Bool) (js : List ℕ) → length (those t js) ≤ length js
unfolding those
those-most t [] = omega arith
those-most t (j ∷ js) =
    let rest = those-most t js in
    by_test (t j) (λ (y : t j ≡ true). rw y (omega (arith, rest))) (λ (n : t j ≡ false). rw n (omega (arith, rest)))

-- ---- In their order

rising-later : (lo hi : ℕ) (js : List ℕ) → lo ≤ hi → Rising hi js → Rising lo js
rising-later lo hi [] h r = tt
rising-later lo hi (j ∷ js) h r = let k = r.0 in (omega arith, r.1)

pub those_rise : (t : ℕ → Bool) (lo : ℕ) (js : List ℕ) → Rising lo js → Rising lo (those t js)
unfolding those
those_rise t lo [] r = tt
those_rise t lo (j ∷ js) r =
    let h = r.0 in
    let rest = those_rise t (suc j) js r.1 in
    by_test (t j) (λ (y : t j ≡ true). rw y (h, rest)) (λ (n : t j ≡ false). rw n (rising-later lo (suc j) (those t js) (omega arith) rest))

rising-least : (lo : ℕ) (js : List ℕ) (n : ℕ) → Rising lo js → n < length js → lo ≤ get_or js n 0
rising-least lo [] n r h = absurd (omega arith)
rising-least lo (j ∷ js) zero r h = r.0
rising-least lo (j ∷ js) (suc n) r h = let k = r.0 in omega (arith, rising-least (suc j) js n r.1 (omega arith))

-- each is more than those before it
pub rising-at : (lo : ℕ) (js : List ℕ) (m n : ℕ) → Rising lo js → m < n → n < length js → get_or js m 0 < get_or js n 0
rising-at lo [] m n r l h = absurd (omega arith)
rising-at lo (j ∷ js) m zero r l h = absurd (omega arith)
rising-at lo (j ∷ js) zero (suc n) r l h = omega (arith, rising-least (suc j) js n r.1 (omega arith))
rising-at lo (j ∷ js) (suc m) (suc n) r l h = rising-at (suc j) js m n r.1 (omega arith) (omega arith)

-- ---- Which they are

-- j is at a place below n of the list
pub record Among (n : ℕ) (js : List ℕ) (j : ℕ) : Type 0 where
  pub place : ℕ
  pub below : place < n
  pub there : get_or js place 0 ≡ j

-- what stands in a list is one of it, and the other way round
pub at_one : (js : List ℕ) (n : ℕ) → n < length js → is_one_of js (get_or js n 0) ≡ true
at_one [] n h = absurd (omega arith)
at_one (j ∷ js) zero h = rw (eq-eqb j j refl)
at_one (j ∷ js) (suc n) h = one_more j (get_or js n 0) js (at_one js n (omega arith))

pub one_at : (js : List ℕ) (j : ℕ) → is_one_of js j ≡ true → Among (length js) js j
one_at [] j o = let z : ◌≡◌ {A = ℕ} 0 1 = cc in absurd (omega arith)
one_at (k ∷ js) j o =
    by_test (eqb j k)
    (λ (e : eqb j k ≡ true). record { place = 0; below = omega arith; there = sym (eqb-true j k e) })
    (λ (e : eqb j k ≡ false).
    let r = one_at js j (rw e at o) in
    let b = r.below in
    record { place = suc r.place; below = omega arith; there = r.there })

-- those that pass are the ones that are of the list, and pass
pub those_are : (t : ℕ → Bool) (js : List ℕ) (j : ℕ) → is_one_of (those t js) j ≡ (is_one_of js j && t j)
unfolding those
those_are t [] j = refl
those_are t (k ∷ js) j =
    let rest = those_are t js j in
    by_test (eqb j k)
    (λ (e : eqb j k ≡ true).
    let same : j ≡ k = eqb-true j k e in
    by_test (t k)
    (λ (y : t k ≡ true). rw (y, e) (sym (ap t same ∙ y)))
    (λ (n : t k ≡ false). let m : t j ≡ false = ap t same ∙ n in rw (n, e, rest, m) (and-false (is_one_of js j))))
    (λ (e : eqb j k ≡ false). by_test (t k) (λ (y : t k ≡ true). rw (y, e) rest) (λ (n : t k ≡ false). rw (n, e) rest))
  where
    and-false : (s : Bool) → (s && false) ≡ false
    and-false true = refl
    and-false false = refl
