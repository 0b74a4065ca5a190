-- Where code 4 points: no field of the same width that agrees up to and with that byte is free of code 4, and for every earlier
-- byte one is.
use mathlib.Core.Path.{◌≡◌, refl, sym, ap, ◌∙◌}
use mathlib.Core.Bool.{Bool, true, false, cond, ◌&&◌}
use mathlib.Core.List.{List, [], ◌∷◌, ◌++◌}
use Prim.Native.Nat.{ℕ, zero, suc, ◌+◌, ◌-◌, ◌≤◌, ◌<◌}
use native.Mathlib.Omega.{arith}
use lib.Dec.{leb, ltb, eqb}
use lib.ListN.{length, take, drop, replicate, length-append, length-replicate, length-drop}
use lib.Seq.{take_at}
use borrow.Author.Tests.{leb-true, lt-ltb, le-ltb, ltb-true, eq-eqb, ne_eqb, eqb-true, eqb-false}
use Rattle.text.proofs.Cases.{by_test, by_lt, both_left, both_right}
use Rattle.packed.specs.Packed.{Figure, worth_of, width_ok, all_solidi, trim, all_digits, number, spelt, holds, figure_of, is_solidus, is_digit, ahead, fault_behind, fault, read_packed}
use Rattle.packed.proofs.Bounds.{cond-le}
use Rattle.packed.proofs.Digits.{solidus_none}
use Rattle.packed.proofs.RoundTrip.{trim-length}
use Rattle.packed.proofs.Scan.{ahead-le}
use Rattle.std.specs.Prelude.{Result, Ok, Err}
use Rattle.text.specs.Checks.{refuse}
use Rattle.text.specs.declared.Code.TheVariants.{WrongLength, NotAllowed, OtherSpelling}
use Rattle.text.specs.declared.Code.{Code}
use Rattle.text.specs.declared.Refusal.{Refusal}

impossible : {P : Type 0} → true ≡ false → P
impossible e = let z : ◌≡◌ {A = ℕ} 0 1 = cc in absurd (omega arith)

cons-is : {x y : ℕ} {xs ys : List ℕ} → x ∷ xs ≡ y ∷ ys → (x ≡ y) × (xs ≡ ys)
cons-is e = (cc, cc)

cons-none : {P : Type 0} {b : ℕ} {bs : List ℕ} → [] ≡ b ∷ bs → P
cons-none e = let z : ◌≡◌ {A = ℕ} 0 1 = cc in absurd (omega arith)

-- ---- bytes that are all such

unfoldable every : (ℕ → Bool) → List ℕ → Bool
every test [] = true
every test (b ∷ bs) = test b && every test bs

solidi-every : (f : List ℕ) → all_solidi f ≡ every is_solidus f
unfolding all_solidi every
solidi-every [] = refl
solidi-every (b ∷ bs) = rw (solidi-every bs)

digits-every : (f : List ℕ) → all_digits f ≡ every is_digit f
unfolding all_digits every
digits-every [] = refl
digits-every (b ∷ bs) = rw (digits-every bs)

and-false : (t : Bool) → (t && false) ≡ false
and-false true = refl
and-false false = refl

module _ (test : ℕ → Bool) where
  -- all are such where that many are
  ahead-every : (f : List ℕ) → ahead test f ≡ length f → every test f ≡ true
  unfolding every ahead
  ahead-every [] e = refl
  ahead-every (b ∷ bs) e =
      by_test (test b)
      (λ (t : test b ≡ true). let k : suc (ahead test bs) ≡ suc (length bs) = rw t at e in rw t (ahead-every bs (omega arith)))
      (λ (t : test b ≡ false). let k : 0 ≡ suc (length bs) = rw t at e in absurd (omega arith))

  every-ahead : (f : List ℕ) → every test f ≡ true → ahead test f ≡ length f
  unfolding every ahead
  every-ahead [] e = refl
  every-ahead (b ∷ bs) e =
      let t = both_left (test b) (every test bs) e in
      rw t (ap suc (every-ahead bs (both_right (test b) (every test bs) e)))

  -- what agrees up to and with the first that is not such has it too
  agree_stop : (f g : List ℕ) → every test f ≡ false → take (suc (ahead test f)) g ≡ take (suc (ahead test f)) f → every test g ≡ false
  unfolding every ahead
  agree_stop [] g e a = impossible e
  agree_stop (b ∷ bs) [] e a = cons-none a
  agree_stop (b ∷ bs) (c ∷ cs) e a =
      by_test (test b)
      (λ (t : test b ≡ true).
      let h = cons-is (rw t at a) in
      rw (h.0, t) (agree_stop bs cs (rw t at e) h.1))
      (λ (t : test b ≡ false). let h = cons-is (rw t at a) in rw (h.0, t))

  -- up to any byte before that one all are such
  agree_go : (f xs : List ℕ) (j : ℕ) → j < ahead test f → every test (take (suc j) f ++ xs) ≡ every test xs
  unfolding every ahead
  agree_go [] xs j h = absurd (omega arith)
  agree_go (b ∷ bs) xs zero h =
      by_test (test b)
      (λ (t : test b ≡ true). rw t)
      (λ (t : test b ≡ false). let z : 0 < 0 = rw t at h in absurd (omega arith))
  agree_go (b ∷ bs) xs (suc j) h =
      by_test (test b)
      (λ (t : test b ≡ true). let k : suc j < suc (ahead test bs) = rw t at h in rw t (agree_go bs xs j (omega arith)))
      (λ (t : test b ≡ false). let z : suc j < 0 = rw t at h in absurd (omega arith))

-- ---- spaces and digits

-- digits behind spaces, at least one
abbrev pub run : List ℕ → Bool
run f = ltb 0 (length (trim f)) && all_digits (trim f)

run_space : (b : ℕ) (bs : List ℕ) → eqb b 32 ≡ true → run (b ∷ bs) ≡ run bs
unfolding trim
run_space b bs e = rw e

run-other : (b : ℕ) (bs : List ℕ) → eqb b 32 ≡ false → run (b ∷ bs) ≡ every is_digit (b ∷ bs)
unfolding trim
run-other b bs e = rw (e, lt-ltb 0 (suc (length bs)) (omega arith)) (digits-every (b ∷ bs))

fault_space : (b c : ℕ) (bs : List ℕ) → eqb b 32 ≡ true → fault_behind (b ∷ c ∷ bs) ≡ suc (fault_behind (c ∷ bs))
unfolding fault_behind trim
fault_space b c bs e =
    let t = trim (c ∷ bs) in
    let l = trim-length (c ∷ bs) in
    rw e
    (by_test (eqb (length t) 0)
    (λ (z : eqb (length t) 0 ≡ true). rw z (omega arith))
    (λ (z : eqb (length t) 0 ≡ false). rw z (omega arith)))

fault-other : (b : ℕ) (bs : List ℕ) → eqb b 32 ≡ false → fault_behind (b ∷ bs) ≡ ahead is_digit (b ∷ bs)
unfolding fault_behind trim
fault-other b bs e = rw (e, ne_eqb (suc (length bs)) 0 (omega arith)) (omega arith)

run_none : (ys : List ℕ) → length ys ≡ 0 → run ys ≡ false
unfolding trim
run_none [] z = refl
run_none (y ∷ ys) z = absurd (omega arith)

fault-none : fault_behind [] ≡ 0
unfolding fault_behind trim
fault-none = refl

fault-one : (b : ℕ) → eqb b 32 ≡ true → fault_behind (b ∷ []) ≡ 0
unfolding fault_behind trim
fault-one b t = rw t

other_none : (b : ℕ) (bs : List ℕ) (x : ℕ) (xs : List ℕ) → eqb b 32 ≡ false → run (b ∷ bs) ≡ false
    → take (suc (fault_behind (b ∷ bs))) (x ∷ xs) ≡ take (suc (fault_behind (b ∷ bs))) (b ∷ bs) → x ≡ b → run (x ∷ xs) ≡ false
other_none b bs x xs t e a same =
    let k : ahead is_digit (b ∷ bs) ≡ fault_behind (b ∷ bs) = sym (fault-other b bs t) in
    let u : eqb x 32 ≡ false = rw same t in
    run-other x xs u ∙ agree_stop is_digit (b ∷ bs) (x ∷ xs) (sym (run-other b bs t) ∙ e) (rw k a)

-- from where the spaces end
pub behind_end : (f : List ℕ) (r : ℕ) → drop r f ≡ trim f → r ≡ length f → length f - 1 ≡ fault_behind f
unfolding fault_behind
behind_end f r e z =
    let l : length (trim f) ≡ length f - r = ap length (sym e) ∙ length-drop r f in
    rw (eq-eqb (length (trim f)) 0 (omega arith))

pub behind-at : (f : List ℕ) (r : ℕ) → r ≤ length f → drop r f ≡ trim f → (r ≡ length f → ⊥)
    → r + ahead is_digit (drop r f) ≡ fault_behind f
unfolding fault_behind
behind-at f r h e n =
    let l : length (trim f) ≡ length f - r = ap length (sym e) ∙ length-drop r f in
    let k : length f - length (trim f) ≡ r = omega (arith, l) in
    rw (ne_eqb (length (trim f)) 0 (λ (z : length (trim f) ≡ 0). n (omega arith)), k, e)

-- no digits behind spaces with the same bytes up to and with that one
behind-none : (f g : List ℕ) → run f ≡ false → 0 < length f → take (suc (fault_behind f)) g ≡ take (suc (fault_behind f)) f
    → length g ≡ length f → run g ≡ false
behind-none [] g e s a l = absurd (omega arith)
behind-none (b ∷ bs) [] e s a l = absurd (omega arith)
behind-none (b ∷ []) (x ∷ xs) e s a l =
    let same : x ≡ b = (cons-is a).0 in
    by_test (eqb b 32)
    (λ (t : eqb b 32 ≡ true). rw (same, run_space b xs t) (run_none xs (omega arith)))
    (λ (t : eqb b 32 ≡ false). other_none b [] x xs t e a same)
behind-none (b ∷ c ∷ cs) (x ∷ xs) e s a l =
    let same : x ≡ b = (cons-is a).0 in
    by_test (eqb b 32)
    (λ (t : eqb b 32 ≡ true).
    rw (same, run_space b xs t)
    (behind-none (c ∷ cs) xs (sym (run_space b (c ∷ cs) t) ∙ e) (omega arith) (cons-is (rw (fault_space b c cs t) at a)).1 (omega arith)))
    (λ (t : eqb b 32 ≡ false). other_none b (c ∷ cs) x xs t e a same)

-- and some up to any byte before it
zeros : (n : ℕ) → every is_digit (replicate n 48) ≡ true
unfolding every worth_of
zeros zero = refl
zeros (suc n) = zeros n

other-some : (b : ℕ) (bs : List ℕ) (j : ℕ) → j < fault_behind (b ∷ bs) → eqb b 32 ≡ false
    → run (take (suc j) (b ∷ bs) ++ replicate (suc (length bs) - suc j) 48) ≡ true
other-some b bs j h t =
    let k : j < ahead is_digit (b ∷ bs) = rw (fault-other b bs t) at h in
    run-other b (take j bs ++ replicate (suc (length bs) - suc j) 48) t
    ∙ agree_go is_digit (b ∷ bs) (replicate (suc (length bs) - suc j) 48) j k
    ∙ zeros (suc (length bs) - suc j)

solidi : (n : ℕ) → every is_solidus (replicate n 47) ≡ true
unfolding every
solidi zero = refl
solidi (suc n) = solidi n

pub behind-inside : (f : List ℕ) → 0 < length f → run f ≡ false → fault_behind f < length f
unfolding fault_behind
behind-inside f h e =
    let l = trim-length f in
    let a = ahead-le is_digit (trim f) in
    by_test (eqb (length (trim f)) 0)
    (λ (z : eqb (length (trim f)) 0 ≡ true). rw z (omega arith))
    (λ (z : eqb (length (trim f)) 0 ≡ false).
    let some : length (trim f) ≡ 0 → ⊥ = eqb-false (length (trim f)) 0 z in
    let n : ahead is_digit (trim f) ≡ length (trim f) → ⊥ = λ (y : ahead is_digit (trim f) ≡ length (trim f)).
    impossible (sym (rw (lt-ltb 0 (length (trim f)) (omega (arith, some)), digits-every (trim f)) (ahead-every is_digit (trim f) y)) ∙ e) in
    rw z (omega (arith, n)))

pub behind-whole : (f : List ℕ) → run f ≡ true → fault_behind f ≡ length f
unfolding fault_behind
behind-whole f e =
    let l = trim-length f in
    let some = ltb-true 0 (length (trim f)) (both_left (ltb 0 (length (trim f))) (all_digits (trim f)) e) in
    let all = both_right (ltb 0 (length (trim f))) (all_digits (trim f)) e in
    let a = every-ahead is_digit (trim f) (sym (digits-every (trim f)) ∙ all) in
    rw (ne_eqb (length (trim f)) 0 (omega arith)) (omega arith)

behind-some : (f : List ℕ) (j : ℕ) → j < fault_behind f → run (take (suc j) f ++ replicate (length f - suc j) 48) ≡ true
behind-some [] j h = let z = fault-none in absurd (omega arith)
behind-some (b ∷ []) j h =
    by_test (eqb b 32)
    (λ (t : eqb b 32 ≡ true). let z = fault-one b t in absurd (omega arith))
    (λ (t : eqb b 32 ≡ false). other-some b [] j h t)
behind-some (b ∷ c ∷ cs) zero h =
    by_test (eqb b 32)
    (λ (t : eqb b 32 ≡ true).
    let n : suc (suc (length cs)) - 1 ≡ suc (length cs) = omega arith in
    rw n (run_space b (48 ∷ replicate (length cs) 48) t ∙ run-other 48 (replicate (length cs) 48) refl ∙ zeros (suc (length cs))))
    (λ (t : eqb b 32 ≡ false). other-some b (c ∷ cs) 0 h t)
behind-some (b ∷ c ∷ cs) (suc j) h =
    by_test (eqb b 32)
    (λ (t : eqb b 32 ≡ true).
    let n : suc (suc (length cs)) - suc (suc j) ≡ suc (length cs) - suc j = omega arith in
    let k = fault_space b c cs t in
    rw n
    (run_space b (take (suc j) (c ∷ cs) ++ replicate (suc (length cs) - suc j) 48) t
    ∙ behind-some (c ∷ cs) j (omega arith)))
    (λ (t : eqb b 32 ≡ false). other-some b (c ∷ cs) (suc j) h t)

-- ---- a field that is refused with 4

-- what the refusal says of the field
record Four (f : List ℕ) (place : ℕ) : Type 0 where
  width : width_ok (length f) ≡ true
  solidi : every is_solidus f ≡ false
  digits : run f ≡ false
  there : fault f ≡ place

same-refusal : {r s : Refusal} → ◌≡◌ {A = Result Figure Refusal} (Err r) (Err s) → r ≡ s
same-refusal e = cc

no-refusal : {P : Type 0} {x : Figure} {r : Refusal} → ◌≡◌ {A = Result Figure Refusal} (Ok x) (Err r) → P
no-refusal e = let z : ◌≡◌ {A = ℕ} 0 1 = cc in absurd (omega arith)

-- another code is no 4
no_four : {P : Type 0} {c : Code} {p q : ℕ} → ◌≡◌ {A = Result Figure Refusal} (refuse c p) (refuse NotAllowed q) → ((c ≡ NotAllowed) → ⊥) → P
no_four e other = absurd (other (ap (λ (r : Refusal). r.code) (same-refusal e)))

spelling_none : OtherSpelling ≡ NotAllowed → ⊥
spelling_none e = let z : ◌≡◌ {A = ℕ} 0 1 = cc in absurd (omega arith)

length_none : WrongLength ≡ NotAllowed → ⊥
length_none e = let z : ◌≡◌ {A = ℕ} 0 1 = cc in absurd (omega arith)

-- 6 is no 4
spelt-none : {P : Type 0} (n k place : ℕ) → spelt n k ≡ refuse NotAllowed place → P
unfolding spelt
spelt-none n k place e =
    by_test (holds (k - 1) (figure_of n k))
    (λ (t : holds (k - 1) (figure_of n k) ≡ true). no_four (rw t at e) spelling_none)
    (λ (t : holds (k - 1) (figure_of n k) ≡ false). no-refusal (rw t at e))

four_is : (f : List ℕ) (place : ℕ) → read_packed f ≡ refuse NotAllowed place → Four f place
unfolding read_packed
four_is f place e =
    by_test (width_ok (length f))
    (λ (w : width_ok (length f) ≡ true).
    by_test (all_solidi f)
    (λ (s : all_solidi f ≡ true). no-refusal (rw (w, s) at e))
    (λ (s : all_solidi f ≡ false).
    by_test (run f)
    (λ (t : run f ≡ true). spelt-none (number 0 (trim f)) (length (trim f)) place (rw (w, s, t) at e))
    (λ (t : run f ≡ false).
    record { width = w; solidi = sym (solidi-every f) ∙ s; digits = t; there = ap (λ (r : Refusal). r.place) (same-refusal (rw (w, s, t) at e)) })))
    (λ (w : width_ok (length f) ≡ false). no_four (rw w at e) length_none)

is-four : (f : List ℕ) → width_ok (length f) ≡ true → every is_solidus f ≡ false → run f ≡ false → read_packed f ≡ refuse NotAllowed (fault f)
unfolding read_packed
is-four f w s t = rw (w, solidi-every f ∙ s, t)

-- digits or solidi, no 4
solidi-free : (f : List ℕ) (q : ℕ) → width_ok (length f) ≡ true → every is_solidus f ≡ true → read_packed f ≡ refuse NotAllowed q → ⊥
unfolding read_packed
solidi-free f q w s e = no-refusal (rw (w, solidi-every f ∙ s) at e)

digits-free : (f : List ℕ) (q : ℕ) → run f ≡ true → read_packed f ≡ refuse NotAllowed q → ⊥
digits-free f q t e = impossible (sym t ∙ (four_is f q e).digits)

-- ---- the place is the one that document 02 says

-- a field that begins with a solidus has no digits behind spaces
pub solidus_run : (g : List ℕ) → 0 < ahead is_solidus g → run g ≡ false
unfolding ahead every
solidus_run [] h = absurd (omega arith)
solidus_run (b ∷ bs) h =
    by_test (eqb b 47)
    (λ (t : eqb b 47 ≡ true).
    let s : b ≡ 47 = eqb-true b 47 t in
    rw s (run-other 47 bs refl ∙ rw solidus_none))
    (λ (t : eqb b 47 ≡ false). let z : 0 < 0 = rw t at h in absurd (omega arith))

-- two fields that agree in their first byte both begin with a solidus, or neither does
solidus_first : (f g : List ℕ) (k : ℕ) → take (suc k) g ≡ take (suc k) f → 0 < ahead is_solidus f → 0 < ahead is_solidus g
unfolding ahead
solidus_first [] g k a h = absurd (omega arith)
solidus_first (b ∷ bs) [] k a h = cons-none a
solidus_first (b ∷ bs) (c ∷ cs) k a h =
    by_test (eqb b 47)
    (λ (t : eqb b 47 ≡ true). rw ((cons-is a).0, t) (omega arith))
    (λ (t : eqb b 47 ≡ false). let z : 0 < 0 = rw t at h in absurd (omega arith))

other-first : (f g : List ℕ) (k : ℕ) → take (suc k) g ≡ take (suc k) f → 0 < length f → ahead is_solidus f ≤ 0 → every is_solidus g ≡ false
unfolding ahead every
other-first [] g k a h z = absurd (omega arith)
other-first (b ∷ bs) [] k a h z = cons-none a
other-first (b ∷ bs) (c ∷ cs) k a h z =
    by_test (eqb b 47)
    (λ (t : eqb b 47 ≡ true). let y : suc (ahead is_solidus bs) ≤ 0 = rw t at z in absurd (omega arith))
    (λ (t : eqb b 47 ≡ false). rw ((cons-is a).0, t))

width_some : (f : List ℕ) → width_ok (length f) ≡ true → 0 < length f
width_some f w = leb-true 1 (length f) (both_left (leb 1 (length f)) (leb (length f) 5) w)

pub fault-solidi : (f : List ℕ) → 0 < ahead is_solidus f → fault f ≡ ahead is_solidus f
unfolding fault
fault-solidi f h = rw (lt-ltb 0 (ahead is_solidus f) h)

pub fault-behind : (f : List ℕ) → ahead is_solidus f ≤ 0 → fault f ≡ fault_behind f
unfolding fault
fault-behind f h = rw (le-ltb 0 (ahead is_solidus f) h)

-- no field of that width that agrees up to and with that byte is free of code 4
pub none-agrees : (f g : List ℕ) (place : ℕ) → read_packed f ≡ refuse NotAllowed place → length g ≡ length f
    → take (suc place) g ≡ take (suc place) f → read_packed g ≡ refuse NotAllowed (fault g)
none-agrees f g place e l a =
    let r = four_is f place e in
    let w : width_ok (length g) ≡ true = rw l r.width in
    let b : take (suc (fault f)) g ≡ take (suc (fault f)) f = rw r.there a in
    by_lt 0 (ahead is_solidus f)
    (λ (h : 0 < ahead is_solidus f).
    is-four g w (agree_stop is_solidus f g r.solidi (rw (fault-solidi f h) at b)) (solidus_run g (solidus_first f g place a h)))
    (λ (h : ahead is_solidus f ≤ 0).
    is-four g w (other-first f g place a (width_some f r.width) h)
    (behind-none f g r.digits (width_some f r.width) (rw (fault-behind f h) at b) l))

-- and for every earlier byte one is: the bytes up to it, and then solidi, or zeros
abbrev pub agreeing : List ℕ → ℕ → List ℕ
agreeing f j = take (suc j) f ++ replicate (length f - suc j) (cond (ltb 0 (ahead is_solidus f)) 47 48)

pub fault-le : (f : List ℕ) → fault f ≤ length f
unfolding fault fault_behind
fault-le f =
    let l = trim-length f in
    let a = ahead-le is_digit (trim f) in
    cond-le (ltb 0 (ahead is_solidus f)) (ahead is_solidus f) _ (length f) (ahead-le is_solidus f)
    (cond-le (eqb (length (trim f)) 0) (length f - 1) _ (length f) (omega arith) (omega arith))

take-length : (f : List ℕ) (n : ℕ) → n ≤ length f → length (take n f) ≡ n
take-length f zero h = refl
take-length [] (suc n) h = absurd (omega arith)
take-length (b ∷ bs) (suc n) h = ap suc (take-length bs n (omega arith))

module _ (f : List ℕ) (place j : ℕ) (e : read_packed f ≡ refuse NotAllowed place) (h : j < place) where
  near : suc j ≤ length f
  near = let r = (four_is f place e).there in omega (arith, fault-le f)

  pub agreeing-length : length (agreeing f j) ≡ length f
  agreeing-length =
      length-append (take (suc j) f) (replicate (length f - suc j) (cond (ltb 0 (ahead is_solidus f)) 47 48))
      ∙ rw (take-length f (suc j) near, length-replicate {A = ℕ} (length f - suc j) (cond (ltb 0 (ahead is_solidus f)) 47 48)) (omega (arith, near))

  pub agreeing-take : take (suc j) (agreeing f j) ≡ take (suc j) f
  agreeing-take = take_at (take (suc j) f) _ (suc j) (take-length f (suc j) near)

  wide : width_ok (length (agreeing f j)) ≡ true
  wide = rw agreeing-length (four_is f place e).width

  pub agreeing-free : (q : ℕ) → read_packed (agreeing f j) ≡ refuse NotAllowed q → ⊥
  agreeing-free q r =
      let k : fault f ≡ place = (four_is f place e).there in
      by_lt 0 (ahead is_solidus f)
      (λ (s : 0 < ahead is_solidus f).
      let t = lt-ltb 0 (ahead is_solidus f) s in
      let n : j < ahead is_solidus f = omega (arith, fault-solidi f s) in
      solidi-free (agreeing f j) q wide (rw t (agree_go is_solidus f (replicate (length f - suc j) 47) j n ∙ solidi (length f - suc j))) r)
      (λ (s : ahead is_solidus f ≤ 0).
      let t = le-ltb 0 (ahead is_solidus f) s in
      let n : j < fault_behind f = omega (arith, fault-behind f s) in
      digits-free (agreeing f j) q (rw t (behind-some f j n)) r)

-- the place is that of a byte
pub four-inside : (f : List ℕ) (place : ℕ) → read_packed f ≡ refuse NotAllowed place → place < length f
four-inside f place e =
    let r = four_is f place e in
    let k : fault f ≡ place = r.there in
    by_lt 0 (ahead is_solidus f)
    (λ (s : 0 < ahead is_solidus f).
    let n : ahead is_solidus f ≡ length f → ⊥ = λ (z : ahead is_solidus f ≡ length f). impossible (sym (ahead-every is_solidus f z) ∙ r.solidi) in
    omega (arith, fault-solidi f s, ahead-le is_solidus f, n))
    (λ (s : ahead is_solidus f ≤ 0). let b = behind-inside f (width_some f r.width) r.digits in omega (arith, fault-behind f s))
