-- The first 22 bytes of an accepted command: what they are, and that they are accepted.
use mathlib.Core.Path.{◌≡◌, refl, ap, ◌∙◌}
use mathlib.Core.Bool.{Bool, true, false, cond, ◌&&◌}
use mathlib.Core.List.{List, [], ◌∷◌, ◌++◌}
use Prim.Native.Nat.{ℕ, zero, suc, ◌+◌, ◌≤◌, ◌<◌}
use native.Mathlib.Omega.{arith}
use native.Mathlib.Numerals.{add-one}
use lib.ListN.{length, get_or, replicate}
use lib.Seq.{drop-cons}
use borrow.Author.Tests.{le-leb, eq-eqb}
use Rattle.text.specs.Parts.{part}
use Rattle.text.specs.Equal.{same_bytes}
use Rattle.text.proofs.Cases.{by_test, both_left, both_right}
use Rattle.text.proofs.Equal.{same-equal, equal-same}
use Rattle.field.specs.Fields.{check_delimiter}
use Rattle.text.specs.Checks.{after, refuse}
use Rattle.field.proofs.Accepted.{stop_next, next-same, delimiter}
use Rattle.field.proofs.Local.{after-cases, room-cases}
use Rattle.field.proofs.LocalFields.{delimiter_local, delimiter-sized}
use Rattle.command.specs.Text.{awr04, head_bytes, check_each, check_awr04, check_head}
use Rattle.std.specs.Prelude.{Ok}
use Rattle.text.specs.declared.Code.{Code}
use Rattle.text.specs.declared.Code.TheVariants.{NotAllowed, WrongFixed}

-- each byte passes its own test, and there are as many bytes as tests
unfoldable pub passes : List (ℕ → Bool) → List ℕ → Bool
passes [] [] = true
passes [] (b ∷ bs) = false
passes (test ∷ tests) [] = false
passes (test ∷ tests) (b ∷ bs) = test b && passes tests bs

-- as many bytes as tests
pub passes-length : (tests : List (ℕ → Bool)) (bs : List ℕ) → passes tests bs ≡ true → length bs ≡ length tests
unfolding passes
passes-length [] [] e = refl
passes-length [] (b ∷ bs) e = cc
passes-length (test ∷ tests) [] e = cc
passes-length (test ∷ tests) (b ∷ bs) e = ap suc (passes-length tests bs (both_right (test b) (passes tests bs) e))

-- where one test is for all, each byte passes it
pub passes_at : (test : ℕ → Bool) (n : ℕ) (bs : List ℕ) (i : ℕ) → passes (replicate n test) bs ≡ true → i < n → test (get_or bs i 0) ≡ true
unfolding passes
passes_at test zero bs i e h = absurd (omega arith)
passes_at test (suc n) [] i e h = cc
passes_at test (suc n) (b ∷ bs) zero e h = both_left (test b) (passes (replicate n test) bs) e
passes_at test (suc n) (b ∷ bs) (suc i) e h = passes_at test n bs i (both_right (test b) (passes (replicate n test) bs) e) (omega arith)

-- tests and bytes put together
pub passes_append : (ts us : List (ℕ → Bool)) (bs cs : List ℕ) → passes ts bs ≡ true → passes us cs ≡ true
    → passes (ts ++ us) (bs ++ cs) ≡ true
unfolding passes
passes_append [] us [] cs e f = f
passes_append [] us (b ∷ bs) cs e f = cc
passes_append (t ∷ ts) us [] cs e f = cc
passes_append (t ∷ ts) us (b ∷ bs) cs e f =
    rw (both_left (t b) (passes ts bs) e) (passes_append ts us bs cs (both_right (t b) (passes ts bs) e) f)

-- and taken apart
pub passes-apart : (ts us : List (ℕ → Bool)) (bs cs : List ℕ) → length bs ≡ length ts → passes (ts ++ us) (bs ++ cs) ≡ true
    → (passes ts bs ≡ true) × (passes us cs ≡ true)
unfolding passes
passes-apart [] us [] cs l e = (refl, e)
passes-apart [] us (b ∷ bs) cs l e = absurd (omega arith)
passes-apart (t ∷ ts) us [] cs l e = absurd (omega arith)
passes-apart (t ∷ ts) us (b ∷ bs) cs l e =
    let h = both_left (t b) (passes (ts ++ us) (bs ++ cs)) e in
    let r = passes-apart ts us bs cs (omega arith) (both_right (t b) (passes (ts ++ us) (bs ++ cs)) e) in
    (rw h r.0, r.1)

-- the first byte of a part, and the others
pub part-cons : (n : ℕ) (s : List ℕ) (at : ℕ) → at < length s → part at (suc n) s ≡ get_or s at 0 ∷ part (at + 1) n s
part-cons n s at h = rw (add-one, drop-cons s at 0 h)

-- ---- The bytes one by one

pub record Passed (tests : List (ℕ → Bool)) (s : List ℕ) (at p : ℕ) : Type 0 where
  pub ends : p ≡ at + length tests
  pub inside : p ≤ length s
  pub bytes : passes tests (part at (length tests) s) ≡ true

-- bytes that were accepted one by one pass their tests
pub each-passed : (tests : List (ℕ → Bool)) (s : List ℕ) (at p : ℕ) → check_each tests s at ≡ Ok p → at ≤ length s → Passed tests s at p
unfolding check_each passes
each-passed [] s at p e h =
    let d : at ≡ p = cc in
    record { ends = omega arith; inside = omega arith; bytes = refl }
each-passed (test ∷ tests) s at p e h =
    let more = check_each tests s (at + 1) in
    room-cases 1 s at (cond (test (get_or s at 0)) more (refuse NotAllowed at)) p e
    (λ (l : at + 1 ≤ length s) (o : cond (test (get_or s at 0)) more (refuse NotAllowed at) ≡ Ok p).
    by_test (test (get_or s at 0))
    (λ (t : test (get_or s at 0) ≡ true).
    let r : Passed tests s (at + 1) p = each-passed tests s (at + 1) p (rw t at o) l in
    record {
      ends = omega (arith, r.ends);
      inside = r.inside;
      bytes = rw (part-cons (length tests) s at (omega arith), t) r.bytes;
    })
    (λ (t : test (get_or s at 0) ≡ false). stop_next NotAllowed at p (rw t at o)))

-- bytes that pass their tests are accepted one by one
pub each-passes : (tests : List (ℕ → Bool)) (s : List ℕ) (at : ℕ) → at + length tests ≤ length s
    → passes tests (part at (length tests) s) ≡ true → check_each tests s at ≡ Ok (at + length tests)
unfolding check_each passes
each-passes [] s at h e = ap Ok (omega arith)
each-passes (test ∷ tests) s at h e =
    let d : (test (get_or s at 0) && passes tests (part (at + 1) (length tests) s)) ≡ true =
    rw (part-cons (length tests) s at (omega arith)) at e in
    let n : at + 1 + length tests ≡ at + suc (length tests) = omega arith in
    rw (le-leb (at + 1) (length s) (omega arith), both_left (test (get_or s at 0)) (passes tests (part (at + 1) (length tests) s)) d)
    (each-passes tests s (at + 1) (omega arith) (both_right (test (get_or s at 0)) (passes tests (part (at + 1) (length tests) s)) d)
    ∙ ap Ok n)

-- ---- The head

-- `AWR04`, flags, downlink digit and indicators, `/`
pub record Head (s : List ℕ) : Type 0 where
  pub inside : 22 ≤ length s
  pub begins : part 0 5 s ≡ awr04
  pub bytes : passes head_bytes (part 5 16 s) ≡ true
  pub ends : get_or s 21 0 ≡ 47

one-passed : (t : Bool) (code : Code) (at next p : ℕ) → cond t (Ok next) (refuse code at) ≡ Ok p → t ≡ true
one-passed true code at next p e = refl
one-passed false code at next p e = stop_next code at p e

awr_next : (s : List ℕ) (p : ℕ) → check_awr04 s ≡ Ok p → (5 ≤ length s) × (part 0 5 s ≡ awr04) × (5 ≡ p)
unfolding check_awr04
awr_next s p e =
    let t = same_bytes (part 0 5 s) awr04 in
    room-cases 5 s 0 (cond t (Ok 5) (refuse WrongFixed 0)) p e
    (λ (h : 5 ≤ length s) (o : cond t (Ok 5) (refuse WrongFixed 0) ≡ Ok p).
    let k : t ≡ true = one-passed t WrongFixed 0 5 p o in
    (h, same-equal (part 0 5 s) awr04 k, next-same (rw k at o)))

rest-next : (s : List ℕ) (p : ℕ) → 5 ≤ length s → part 0 5 s ≡ awr04 → after (check_each head_bytes s 5) (check_delimiter s) ≡ Ok p
    → Head s × (p ≡ 22)
rest-next s p h b e =
    after-cases (check_each head_bytes s 5) (check_delimiter s) p e
    (λ q (d : check_each head_bytes s 5 ≡ Ok q) (c : check_delimiter s q ≡ Ok p).
    let r : Passed head_bytes s 5 q = each-passed head_bytes s 5 q d h in
    let at : q ≡ 21 = r.ends in
    let n : p ≡ q + 1 = delimiter-sized.passes s q p c in
    let l : p ≤ length s = delimiter_local.filled s q p c (omega arith) in
    (record { inside = omega arith; begins = b; bytes = r.bytes; ends = rw at at (delimiter s q p c).1 }, omega arith))

-- an accepted head is one, and ends at 22
pub head-next : (s : List ℕ) (p : ℕ) → check_head s ≡ Ok p → Head s × (p ≡ 22)
unfolding check_head
head-next s p e =
    after-cases (check_awr04 s) (λ at. after (check_each head_bytes s at) (check_delimiter s)) p e
    (λ q (d : check_awr04 s ≡ Ok q) (c : after (check_each head_bytes s q) (check_delimiter s) ≡ Ok p).
    let a = awr_next s q d in
    rest-next s p a.0 a.1 (rw (← a.2) at c))

pub ruleset passed = (each-passed, head-next)

-- every head is accepted
pub head-passes : (s : List ℕ) → Head s → check_head s ≡ Ok 22
unfolding check_head check_awr04 check_delimiter
head-passes s h =
    let i = h.inside in
    rw (
      le-leb 5 (length s) (omega arith),
      equal-same (part 0 5 s) awr04 h.begins,
      each-passes head_bytes s 5 (omega arith) h.bytes,
      le-leb 22 (length s) i,
      eq-eqb (get_or s 21 0) 47 h.ends,
    )
