-- A check of a text from a place on looks only at the bytes that it passes over.
use mathlib.Core.Path.{◌≡◌, refl, sym, ap, ◌∙◌}
use mathlib.Core.List.{List, ◌++◌}
use Prim.Native.Nat.{ℕ, ◌+◌, ◌≤◌, ◌<◌}
use native.Mathlib.Omega.{arith}
use native.Mathlib.Nat.{add_assoc}
use lib.ListN.{length, get_or, take, drop, length-append, length-drop}
use lib.Seq.{take-append-le, drop-append-le, drop-append-add, get_or-take, get_or-drop}
use borrow.Author.Tests.{le-leb, lt-leb}
use Rattle.text.specs.Parts.{part}
use Rattle.text.proofs.Cases.{by_lt, by_le}
use Rattle.field.specs.Fields.{room}
use Rattle.text.specs.Checks.{after, refuse}
use Rattle.field.proofs.Accepted.{stop_next}
use Rattle.std.specs.Prelude.{Option, Some, None, Result, Ok, Err}
use Rattle.text.specs.declared.Refusal.{Refusal}
use Rattle.text.specs.declared.Code.{Code}
use Rattle.text.specs.declared.Code.TheVariants.{WrongEnd}
use Rattle.text.proofs.Checks.{err_ok}

-- ---- The notions

-- where a check comes to, with n bytes put before the text
abbrev pub shifted : ℕ → Result ℕ Refusal → Result ℕ Refusal
shifted n (Ok p) = Ok (n + p)
shifted n (Err r) = refuse r.code (n + r.place)

-- a check depends on nothing but the bytes that it passes over: bytes before them move its places, bytes behind them alter nothing;
-- it goes onward, and the bytes that it passes over are there
pub record Local (f : List ℕ → ℕ → Result ℕ Refusal) : Type 0 where
  pub shift : (x s : List ℕ) (at : ℕ) → f (x ++ s) (length x + at) ≡ shifted (length x) (f s at)
  pub extend : (s y : List ℕ) (at p : ℕ) → f s at ≡ Ok p → f (s ++ y) at ≡ Ok p
  pub shrink : (s y : List ℕ) (at p : ℕ) → f (s ++ y) at ≡ Ok p → p ≤ length s → f s at ≡ Ok p
  pub onward : (s : List ℕ) (at p : ℕ) → f s at ≡ Ok p → at ≤ p
  pub filled : (s : List ℕ) (at p : ℕ) → f s at ≡ Ok p → at < p → p ≤ length s

-- what is read where a check accepts depends on those bytes only
pub record Reads {A : Type 0} (f : List ℕ → ℕ → Result ℕ Refusal) (v : List ℕ → ℕ → A) : Type 0 where
  pub same-shifted : (x s : List ℕ) (at : ℕ) → v (x ++ s) (length x + at) ≡ v s at
  pub same_extended : (s y : List ℕ) (at p : ℕ) → f s at ≡ Ok p → v (s ++ y) at ≡ v s at

-- z says how many bytes an accepting check passes over
pub record Sized (f : List ℕ → ℕ → Result ℕ Refusal) (z : List ℕ → ℕ → ℕ) : Type 0 where
  pub reads : Reads f z
  pub passes : (s : List ℕ) (at p : ℕ) → f s at ≡ Ok p → p ≡ at + z s at

-- a check that begins in the text ends in it
pub ends-inside : (f : List ℕ → ℕ → Result ℕ Refusal) → Local f → (s : List ℕ) (at p : ℕ) → f s at ≡ Ok p → at ≤ length s → p ≤ length s
ends-inside f F s at p e h =
    by_lt at p (λ (l : at < p). F.filled s at p e l) (λ (l : p ≤ at). omega arith)

-- ---- Cases

-- one check and then another came through: so did each
pub after-cases {ℓ} : {P : Type ℓ} (x : Result ℕ Refusal) (more : ℕ → Result ℕ Refusal) (q : ℕ) → after x more ≡ Ok q
    → ((p : ℕ) → x ≡ Ok p → more p ≡ Ok q → P) → P
after-cases (Ok p) more q e k = k p refl e
after-cases (Err r) more q e k = err_ok r q e

-- a field that was accepted had room
pub room-cases {ℓ} : {P : Type ℓ} (n : ℕ) (s : List ℕ) (at : ℕ) (seen : Result ℕ Refusal) (q : ℕ) → room n s at seen ≡ Ok q
    → (at + n ≤ length s → seen ≡ Ok q → P) → P
room-cases n s at seen q e k =
    by_le (at + n) (length s)
    (λ (h : at + n ≤ length s). k h (rw (le-leb (at + n) (length s) h) at e))
    (λ (h : length s < at + n). stop_next WrongEnd at q (rw (lt-leb (at + n) (length s) h) at e))

-- ---- Parts of a text

-- a part with bytes put before the text
pub part-shift : (n : ℕ) (x s : List ℕ) (at : ℕ) → part (length x + at) n (x ++ s) ≡ part at n s
part-shift n x s at = ap (take n) (drop-append-add x s at)

-- a part with bytes put behind the text
pub part-extend : (n : ℕ) (s y : List ℕ) (at : ℕ) → at + n ≤ length s → part at n (s ++ y) ≡ part at n s
part-extend n s y at h =
    rw (drop-append-le at s y (omega arith))
    (take-append-le n (drop at s) y (omega (arith, length-drop at s)))

-- a byte of a part
pub part-byte : (n : ℕ) (s : List ℕ) (at i : ℕ) → i < n → get_or (part at n s) i 0 ≡ get_or s (at + i) 0
part-byte n s at i h = get_or-take n (drop at s) i 0 h ∙ get_or-drop at s i 0

-- ---- One field: n bytes and a test of them, which answers a code where it refuses them

-- where a field comes to, by what the test answered
abbrev pub outcome : Option Code → ℕ → ℕ → Result ℕ Refusal
outcome None at next = Ok next
outcome (Some code) at next = refuse code at

-- n bytes, and a test of them
abbrev pub field : ℕ → (List ℕ → Option Code) → List ℕ → ℕ → Result ℕ Refusal
field n test s at = room n s at (outcome (test (part at n s)) at (at + n))

outcome-shift : (code : Option Code) (m at n : ℕ) → outcome code (m + at) (m + at + n) ≡ shifted m (outcome code at (at + n))
outcome-shift None m at n = ap Ok (add_assoc m at n)
outcome-shift (Some code) m at n = refl

outcome-next : (code : Option Code) (at next p : ℕ) → outcome code at next ≡ Ok p → p ≡ next
outcome-next None at next p e = cc
outcome-next (Some code) at next p e = stop_next code at p e

field-shift : (n : ℕ) (test : List ℕ → Option Code) (x s : List ℕ) (at : ℕ)
    → field n test (x ++ s) (length x + at) ≡ shifted (length x) (field n test s at)
field-shift n test x s at =
    by_le (at + n) (length s)
    (λ (h : at + n ≤ length s).
    rw (part-shift n x s at, le-leb (at + n) (length s) h, le-leb (length x + at + n) (length (x ++ s)) (simp length-append (omega arith)))
    (outcome-shift (test (part at n s)) (length x) at n))
    (λ (h : length s < at + n).
    rw (lt-leb (at + n) (length s) h, lt-leb (length x + at + n) (length (x ++ s)) (simp length-append (omega arith))))

-- a field's end, and that its bytes are there
pub field-cases {ℓ} : {P : Type ℓ} (n : ℕ) (test : List ℕ → Option Code) (s : List ℕ) (at p : ℕ) → field n test s at ≡ Ok p
    → (at + n ≤ length s → p ≡ at + n → outcome (test (part at n s)) at (at + n) ≡ Ok p → P) → P
field-cases n test s at p e k =
    room-cases n s at (outcome (test (part at n s)) at (at + n)) p e
    (λ (h : at + n ≤ length s) (o : outcome (test (part at n s)) at (at + n) ≡ Ok p).
    k h (outcome-next (test (part at n s)) at (at + n) p o) o)

-- every field is local
pub field_local : (n : ℕ) (test : List ℕ → Option Code) → Local (field n test)
field_local n test =
    record {
      shift = field-shift n test;
      extend = λ s y at p e.
          field-cases n test s at p e
          (λ (h : at + n ≤ length s) q (o : outcome (test (part at n s)) at (at + n) ≡ Ok p).
          rw (part-extend n s y at h, le-leb (at + n) (length (s ++ y)) (simp length-append (omega arith))) o);
      shrink = λ s y at p e h.
          field-cases n test (s ++ y) at p e
          (λ k (q : p ≡ at + n) (o : outcome (test (part at n (s ++ y))) at (at + n) ≡ Ok p).
          let l : at + n ≤ length s = omega arith in
          rw (le-leb (at + n) (length s) l) (rw (part-extend n s y at l) at o));
      onward = λ s at p e. field-cases n test s at p e (λ k (q : p ≡ at + n) o. omega arith);
      filled = λ s at p e h. field-cases n test s at p e (λ (k : at + n ≤ length s) (q : p ≡ at + n) o. omega arith);
    }

-- what a field's bytes are read as
pub field-reads : {A : Type 0} (n : ℕ) (test : List ℕ → Option Code) (r : List ℕ → A) → Reads (field n test) (λ s at. r (part at n s))
field-reads n test r =
    record {
      same-shifted = λ x s at. ap r (part-shift n x s at);
      same_extended = λ s y at p e.
          field-cases n test s at p e (λ (h : at + n ≤ length s) q o. ap r (part-extend n s y at h));
    }

-- and as long as it says
pub field-sized : (n : ℕ) (test : List ℕ → Option Code) → Sized (field n test) (λ s at. n)
field-sized n test =
    record {
      reads = field-reads n test (λ b. n);
      passes = λ s at p e. field-cases n test s at p e (λ (h : at + n ≤ length s) (q : p ≡ at + n) o. q);
    }

-- ---- Readings put together

module _ {A : Type 0} (f : List ℕ → ℕ → Result ℕ Refusal) where
  -- what is always the same
  pub reads_fixed : (a : A) → Reads f (λ s at. a)
  reads_fixed a = record { same-shifted = λ x s at. refl; same_extended = λ s y at p e. refl }

  -- two readings together
  pub reads_with : {B C : Type 0} (v : List ℕ → ℕ → A) (w : List ℕ → ℕ → B) (h : A → B → C) → Reads f v → Reads f w
      → Reads f (λ s at. h (v s at) (w s at))
  reads_with v w h R W =
      record {
        same-shifted = λ x s at. rw (R.same-shifted x s at, W.same-shifted x s at);
        same_extended = λ s y at p e. rw (R.same_extended s y at p e, W.same_extended s y at p e);
      }

  -- what is read where f accepts is read where a stricter check does
  pub reads-under : (g : List ℕ → ℕ → Result ℕ Refusal) (v : List ℕ → ℕ → A) → Reads f v
      → ((s : List ℕ) (at p : ℕ) → g s at ≡ Ok p → (q : ℕ) × f s at ≡ Ok q) → Reads g v
  reads-under g v R k =
      record {
        same-shifted = R.same-shifted;
        same_extended = λ s y at p e. R.same_extended s y at (k s at p e).0 (k s at p e).1;
      }

  -- the same reading in other words
  pub reads_same : (v w : List ℕ → ℕ → A) → ((s : List ℕ) (at : ℕ) → v s at ≡ w s at) → Reads f w → Reads f v
  reads_same v w same W =
      record {
        same-shifted = λ x s at. same (x ++ s) (length x + at) ∙ W.same-shifted x s at ∙ sym (same s at);
        same_extended = λ s y at p e. same (s ++ y) at ∙ W.same_extended s y at p e ∙ sym (same s at);
      }

-- the same check in other words
module _ (f g : List ℕ → ℕ → Result ℕ Refusal) (same : (s : List ℕ) (at : ℕ) → f s at ≡ g s at) where
  -- it is local
  pub local_same : Local g → Local f
  local_same L =
      record {
        shift = λ x s at. rw (same (x ++ s) (length x + at), same s at) (L.shift x s at);
        extend = λ s y at p e. same (s ++ y) at ∙ L.extend s y at p (sym (same s at) ∙ e);
        shrink = λ s y at p e h. same s at ∙ L.shrink s y at p (sym (same (s ++ y) at) ∙ e) h;
        onward = λ s at p e. L.onward s at p (sym (same s at) ∙ e);
        filled = λ s at p e h. L.filled s at p (sym (same s at) ∙ e) h;
      }

  -- the same is read there
  pub same_reads : {A : Type 0} (v : List ℕ → ℕ → A) → Reads g v → Reads f v
  same_reads v R = reads-under g f v R (λ s at p e. (p, sym (same s at) ∙ e))

  -- and it is as long
  pub same-sized : (z : List ℕ → ℕ → ℕ) → Sized g z → Sized f z
  same-sized z Z = record { reads = same_reads z Z.reads; passes = λ s at p e. Z.passes s at p (sym (same s at) ∙ e) }
