-- What is marked is what is listed.
use mathlib.Core.Path.{◌≡◌, refl, ◌∙◌}
use mathlib.Core.Bool.{Bool, true, false, cond}
use mathlib.Core.List.{List, [], ◌∷◌}
use Prim.Native.Nat.{ℕ, zero, suc, ◌≤◌, ◌<◌}
use native.Mathlib.Omega.{arith}
use lib.Dec.{ltb, eqb}
use lib.ListN.{length, get_or, set, replicate, length-set, length-replicate}
use lib.Seq.{get_or-set_same, get_or-set_other}
use borrow.Author.Tests.{lt-ltb, ltb-true, eqb-true, eqb-false}
use Rattle.text.proofs.Cases.{by_test, by_lt, both_left, both_right}
use Rattle.tails.specs.Tails.{key, rises, member, covers, all_slots}
use Rattle.tails.specs.Inner.{marked, covered_by}
use Rattle.tails.proofs.Bisect.{slot-at}
use Rattle.tails.proofs.Steps.{no_key, marked_more, marked_end}

-- a list that rises has slots alone
pub rises-slots : (ks : List ℕ) (last : ℕ) (ts : List ℕ) → rises ks last ts ≡ true → all_slots (length ks) ts ≡ true
unfolding rises all_slots
rises-slots ks last [] r = refl
rises-slots ks last (t ∷ ts) r =
    let l = ltb-true last (key ks t) (both_left (ltb last (key ks t)) (rises ks (key ks t) ts) r) in
    by_lt t (length ks)
    (λ (h : t < length ks). rw (lt-ltb t (length ks) h) (rises-slots ks (key ks t) ts (both_right (ltb last (key ks t)) (rises ks (key ks t) ts) r)))
    (λ (h : length ks ≤ t). absurd (omega (arith, l, no_key ks t h)))

-- as many slots or more
pub slots-more : (n m : ℕ) (ts : List ℕ) → n ≤ m → all_slots n ts ≡ true → all_slots m ts ≡ true
unfolding all_slots
slots-more n m [] h a = refl
slots-more n m (t ∷ ts) h a =
    let l = ltb-true t n (both_left (ltb t n) (all_slots n ts) a) in
    rw (lt-ltb t m (omega arith)) (slots-more n m ts h (both_right (ltb t n) (all_slots n ts) a))

either_one : (t : Bool) → ◌≡◌ {A = ℕ} (cond t 1 1) 1
either_one true = refl
either_one false = refl

marked-at : (ms ts : List ℕ) (j : ℕ) → all_slots (length ms) ts ≡ true → get_or (marked ms ts) j 0 ≡ cond (member j ts) 1 (get_or ms j 0)
unfolding marked member all_slots
marked-at ms [] j a = refl
marked-at ms (t ∷ ts) j a =
    let l = ltb-true t (length ms) (both_left (ltb t (length ms)) (all_slots (length ms) ts) a) in
    let rest = marked-at (set ms t 1) ts j (rw (length-set ms t 1) (both_right (ltb t (length ms)) (all_slots (length ms) ts) a)) in
    by_test (eqb j t)
    (λ (e : eqb j t ≡ true).
    let m : get_or (set ms t 1) j 0 ≡ 1 = rw (eqb-true j t e) (get_or-set_same ms t 1 0 l) in
    rest ∙ rw (e, m) (either_one (member j ts)))
    (λ (e : eqb j t ≡ false).
    let m : get_or (set ms t 1) j 0 ≡ get_or ms j 0 = get_or-set_other ms t j 1 0 (eqb-false j t e) in
    rest ∙ rw (e, m))

blank-at : (n j : ℕ) → ◌≡◌ {A = ℕ} (get_or (replicate n 0) j 0) 0
blank-at zero j = refl
blank-at (suc n) zero = refl
blank-at (suc n) (suc j) = blank-at n j

one_if : (t : Bool) → eqb (cond t 1 0) 1 ≡ t
one_if true = refl
one_if false = refl

-- so marks cover what the list does
pub covers-marks : (ks ts : List ℕ) (i : ℕ) → all_slots 64 ts ≡ true → covered_by ks (marked (replicate 64 0) ts) i ≡ covers ks ts i
unfolding covered_by covers
covers-marks ks ts zero a = refl
covers-marks ks ts (suc i) a =
    let m : get_or (marked (replicate 64 0) ts) i 0 ≡ cond (member i ts) 1 0 = marked-at (replicate 64 0) ts i (rw (length-replicate {A = ℕ} 64 0) a) ∙ rw (blank-at 64 i) in
    rw (covers-marks ks ts i a, m, one_if (member i ts))

-- marking one more
pub ruleset marking = (slot-at, marked_more, marked_end)
