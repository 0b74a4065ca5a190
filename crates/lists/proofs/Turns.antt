-- Turns of the loops over a record's entries.
use mathlib.Core.Path.{◌≡◌, refl, sym, ap, ◌∙◌}
use mathlib.Core.Bool.{Bool, true, false, cond, ◌&&◌, and_assoc, and-true}
use mathlib.Core.List.{List, [], ◌∷◌, ◌++◌, append-nil, append_assoc}
use Prim.Native.Nat.{ℕ, zero, suc, ◌+◌, ◌-◌, ◌*◌, ◌≤◌, ◌<◌}
use native.Mathlib.Omega.{arith}
use native.Mathlib.Numerals.{add-one}
use lib.ListN.{length, get_or, take, drop, drop_of_length-le, length-append, length-drop}
use lib.Seq.{drop-cons, drop-drop, take-add, take-suc, take_all}
use lib.Dec.{ltb, eqb}
use borrow.Author.Tests.{lt-ltb, le-ltb}
use Rattle.text.specs.Names.{allowed, all_allowed}
use Rattle.text.specs.Checks.{must, is_fine, refuse}
use Rattle.text.proofs.Cases.{by_lt, both_left, both_right}
use Rattle.text.proofs.Checks.{fine-must, fine_then}
use Rattle.text.proofs.Names.{allowed-append}
use Rattle.field.specs.declared.Region.{Region}
use Rattle.field.specs.Boxes.{region_allowed, region_text, no_region}
use Rattle.field.specs.Steps.{region_is}
use Rattle.field.proofs.Wherever.{region_is_lem}
use Rattle.field.proofs.Spelling.{region_length}
use Rattle.lists.specs.Lists.{all_zero, names_allowed, region_zero, regions_zero, regions_allowed, regions_text}
use Rattle.std.specs.Prelude.{Ok, Err}
use Rattle.text.specs.declared.Refusal.{Refusal}
use Rattle.text.specs.declared.Code.TheVariants.{NotAllowed}

-- what is left of a list, from its i-th entry on
from {ℓ} : {A : Type ℓ} (l : List A) (i : ℕ) (z : A) → i < length l → drop i l ≡ get_or l i z ∷ drop (i + 1) l
from l i z h = rw (add-one, drop-cons l i z)

-- the range from i up to the end is that
pub to_end {ℓ} : {A : Type ℓ} (l : List A) (n i : ℕ) → length l ≤ n → take (n - i) (drop i l) ≡ drop i l
to_end l n i h = take_all (n - i) (drop i l) (omega (arith, length-drop i l))

-- ---- Unused bytes

module _ (t : Bool) (s : List ℕ) (i : ℕ) where
  pub zero_turn : i < length s → (t && all_zero (drop i s)) ≡ (t && eqb (get_or s i 0) 0 && all_zero (drop (i + 1) s))
  unfolding all_zero
  zero_turn h = rw (from s i 0 h) (sym (and_assoc t (eqb (get_or s i 0) 0) (all_zero (drop (i + 1) s))))

  pub zero_end : length s ≤ i → (t && all_zero (drop i s)) ≡ t
  unfolding all_zero
  zero_end h = rw (drop_of_length-le s {i = i} h) (and-true t)

-- ---- Names

module _ (names : List ℕ) (n i at : ℕ) where
  pub names_turn : i < n → all_allowed (take 4 (drop (4 * i) names)) ≡ true
      → names_allowed (n - i) (at + 4 * i) (drop (4 * i) names) ≡ names_allowed (n - (i + 1)) (at + 4 * (i + 1)) (drop (4 * (i + 1)) names)
  unfolding names_allowed
  names_turn h e =
      let one : n - i ≡ suc (n - (i + 1)) = omega arith in
      let there : at + 4 * i + 4 ≡ at + 4 * (i + 1) = omega arith in
      let further : 4 * i + 4 ≡ 4 * (i + 1) = omega arith in
      rw (one, e, drop-drop, there, further)

  pub names_stop : i < n → all_allowed (take 4 (drop (4 * i) names)) ≡ false
      → names_allowed (n - i) (at + 4 * i) (drop (4 * i) names) ≡ refuse NotAllowed (at + 4 * i)
  unfolding names_allowed
  names_stop h e = let one : n - i ≡ suc (n - (i + 1)) = omega arith in rw (one, e)

  pub names_end : n ≤ i → names_allowed (n - i) (at + 4 * i) (drop (4 * i) names) ≡ Ok tt
  unfolding names_allowed
  names_end h = let e : n - i ≡ 0 = omega arith in rw e

-- names whose bytes are all allowed
pub names_all : (n at : ℕ) (names : List ℕ) → all_allowed (take (4 * n) names) ≡ true → names_allowed n at names ≡ (Ok tt)
unfolding names_allowed
names_all zero at names e = refl
names_all (suc n) at names e =
    let more : 4 * suc n ≡ 4 + 4 * n = omega arith in
    let split = ap all_allowed (take-add 4 (4 * n) names) ∙ allowed-append (take 4 names) (take (4 * n) (drop 4 names)) in
    let all = sym split ∙ ap (λ (k : ℕ). all_allowed (take k names)) (sym more) ∙ e in
    let first = both_left (all_allowed (take 4 names)) (all_allowed (take (4 * n) (drop 4 names))) all in
    let others = both_right (all_allowed (take 4 names)) (all_allowed (take (4 * n) (drop 4 names))) all in
    rw first (names_all n (at + 4) (drop 4 names) others)

-- names are fine where all their bytes are allowed
pub names-fine : (n at : ℕ) (names : List ℕ) → is_fine (names_allowed n at names) ≡ all_allowed (take (4 * n) names)
unfolding names_allowed all_allowed
names-fine zero at names = refl
names-fine (suc n) at names =
    let here = all_allowed (take 4 names) in
    let more : 4 * suc n ≡ 4 + 4 * n = omega arith in
    let split = ap all_allowed (take-add 4 (4 * n) names) ∙ allowed-append (take 4 names) (take (4 * n) (drop 4 names)) in
    fine_then (must here NotAllowed at) (names_allowed n (at + 4) (drop 4 names))
    ∙ rw (fine-must here NotAllowed at, names-fine n (at + 4) (drop 4 names)) (sym (ap (λ (k : ℕ). all_allowed (take k names)) more ∙ split))

-- ---- Names, and nothing behind them

abbrev pub used_then : ℕ → List ℕ → Bool
used_then u s = all_allowed (take u s) && all_zero (drop u s)

pub used_turn : (t : Bool) (s : List ℕ) (u i : ℕ) → i < length s
    → (t && used_then (u - i) (drop i s))
    ≡ (t && cond (ltb i u) (allowed (get_or s i 0)) (eqb (get_or s i 0) 0) && used_then (u - (i + 1)) (drop (i + 1) s))
unfolding all_allowed all_zero
used_turn t s u i h =
    let x = get_or s i 0 in
    let xs = drop (i + 1) s in
    rw (from s i 0 h)
    (by_lt i u
    (λ (l : i < u).
    let one : u - i ≡ suc (u - (i + 1)) = omega arith in
    rw (one, lt-ltb i u l) (simp and_assoc))
    (λ (l : u ≤ i).
    let none : u - i ≡ 0 = omega arith in
    let still : u - (i + 1) ≡ 0 = omega arith in
    rw (none, still, le-ltb i u l) (sym (and_assoc t (eqb x 0) (all_zero xs)))))

used-none : (u : ℕ) → used_then u [] ≡ true
unfolding all_allowed all_zero
used-none zero = refl
used-none (suc u) = refl

pub used_end : (t : Bool) (s : List ℕ) (u i : ℕ) → length s ≤ i → (t && used_then (u - i) (drop i s)) ≡ t
used_end t s u i h = rw (drop_of_length-le s {i = i} h, used-none (u - i)) (and-true t)

-- ---- Boxes

module _ (t : Bool) (bs : List Region) (i : ℕ) where
  pub regions_zero_turn : i < length bs → (t && regions_zero (drop i bs)) ≡ (t && region_zero (get_or bs i no_region) && regions_zero (drop (i + 1) bs))
  unfolding regions_zero
  regions_zero_turn h = rw (from bs i no_region h) (sym (and_assoc t (region_zero (get_or bs i no_region)) (regions_zero (drop (i + 1) bs))))

  pub regions_zero_end : length bs ≤ i → (t && regions_zero (drop i bs)) ≡ t
  unfolding regions_zero
  regions_zero_end h = rw (drop_of_length-le bs {i = i} h) (and-true t)

-- before the first turn
pub regions-start : (n at : ℕ) (bs : List Region) → regions_allowed n at bs ≡ regions_allowed (n - 0) (at + 14 * 0) (drop 0 bs)
regions-start n at bs =
    let all : n - 0 ≡ n = omega arith in
    let here : at + 14 * 0 ≡ at = omega arith in
    ap (λ (k : ℕ). regions_allowed k at bs) (sym all) ∙ ap (λ (q : ℕ). regions_allowed (n - 0) q bs) (sym here)

module _ (bs : List Region) (n i at : ℕ) where
  pub regions_turn : i < n → i < length bs → region_allowed (at + 14 * i) (get_or bs i no_region) ≡ Ok tt
      → regions_allowed (n - i) (at + 14 * i) (drop i bs) ≡ regions_allowed (n - (i + 1)) (at + 14 * (i + 1)) (drop (i + 1) bs)
  unfolding regions_allowed
  regions_turn h k e =
      let one : n - i ≡ suc (n - (i + 1)) = omega arith in
      let there : at + 14 * i + 14 ≡ at + 14 * (i + 1) = omega arith in
      rw (one, from bs i no_region k, e, there)

  pub regions_stop : (r : Refusal) → i < n → i < length bs → region_allowed (at + 14 * i) (get_or bs i no_region) ≡ Err r
      → regions_allowed (n - i) (at + 14 * i) (drop i bs) ≡ Err r
  unfolding regions_allowed
  regions_stop r h k e = let one : n - i ≡ suc (n - (i + 1)) = omega arith in rw (one, from bs i no_region k, e)

  pub regions_fine_turn : (t : Bool) → i < n → i < length bs
      → (t && is_fine (regions_allowed (n - i) (at + 14 * i) (drop i bs)))
      ≡ (t && region_is (get_or bs i no_region) && is_fine (regions_allowed (n - (i + 1)) (at + 14 * (i + 1)) (drop (i + 1) bs)))
  unfolding regions_allowed
  regions_fine_turn t h k =
      let one : n - i ≡ suc (n - (i + 1)) = omega arith in
      let there : at + 14 * i + 14 ≡ at + 14 * (i + 1) = omega arith in
      let b = get_or bs i no_region in
      let rest = regions_allowed (n - (i + 1)) (at + 14 * (i + 1)) (drop (i + 1) bs) in
      rw (one, from bs i no_region k, there, fine_then (region_allowed (at + 14 * i) b) rest, region_is_lem b (at + 14 * i)) (sym (and_assoc t (region_is b) (is_fine rest)))

  pub regions_end : n ≤ i → regions_allowed (n - i) (at + 14 * i) (drop i bs) ≡ Ok tt
  unfolding regions_allowed
  regions_end h = let e : n - i ≡ 0 = omega arith in rw e

-- ---- The text of boxes

regions-text-append : (xs ys : List Region) → regions_text (xs ++ ys) ≡ regions_text xs ++ regions_text ys
unfolding regions_text
regions-text-append [] ys = refl
regions-text-append (b ∷ xs) ys = rw (regions-text-append xs ys) (sym (append_assoc (region_text b) (regions_text xs) (regions_text ys)))

-- one box more
pub regions-text-more : (bs : List Region) (i : ℕ) → i < length bs
    → regions_text (take (i + 1) bs) ≡ regions_text (take i bs) ++ region_text (get_or bs i no_region)
unfolding regions_text
regions-text-more bs i h =
    rw (add-one, take-suc bs i no_region h, regions-text-append (take i bs) (get_or bs i no_region ∷ []), append-nil (region_text (get_or bs i no_region)))

-- 14 bytes each
pub regions-text-length : (bs : List Region) → length (regions_text bs) ≡ 14 * length bs
unfolding regions_text
regions-text-length [] = refl
regions-text-length (b ∷ bs) =
    length-append (region_text b) (regions_text bs) ∙ omega (arith, region_length b, regions-text-length bs)
