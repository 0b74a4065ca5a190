-- Checks one after the other, judged by what they read, or repeated: they look only at the bytes that they pass over.
use mathlib.Core.Path.{◌≡◌, refl}
use mathlib.Core.Bool.{Bool, true, false, cond}
use mathlib.Core.List.{List, ◌++◌}
use Prim.Native.Nat.{ℕ, zero, suc, ◌+◌, ◌*◌, ◌≤◌, ◌<◌}
use native.Mathlib.Omega.{arith}
use native.Mathlib.Nat.{add_assoc}
use lib.ListN.{length}
use Rattle.text.proofs.Cases.{by_lt}
use Rattle.field.specs.Fields.{repeat}
use Rattle.text.specs.Checks.{after, refuse}
use Rattle.text.proofs.Checks.{err_ok}
use Rattle.field.proofs.Accepted.{stop_next}
use Rattle.field.proofs.Local.{shifted, Local, Reads, Sized, after-cases, reads_fixed, reads_with, reads-under}
use Rattle.std.specs.Prelude.{Result, Ok, Err}
use Rattle.text.specs.declared.Refusal.{Refusal}
use Rattle.text.specs.declared.Code.{Code}

-- ---- One check and then another, which may depend on what the first read

-- f, and then g at what v read
abbrev pub bound : {A : Type 0} → (List ℕ → ℕ → Result ℕ Refusal) → (List ℕ → ℕ → A) → (A → List ℕ → ℕ → Result ℕ Refusal) → List ℕ → ℕ → Result ℕ Refusal
bound f v g s at = after (f s at) (g (v s at) s)

module _ {A : Type 0} (f : List ℕ → ℕ → Result ℕ Refusal) (v : List ℕ → ℕ → A) (g : A → List ℕ → ℕ → Result ℕ Refusal) where
  bound-shift : (a : A) (x s : List ℕ) → Local (g a) → (r : Result ℕ Refusal)
      → after (shifted (length x) r) (g a (x ++ s)) ≡ shifted (length x) (after r (g a s))
  bound-shift a x s G (Ok p) = G.shift x s p
  bound-shift a x s G (Err r) = refl

  -- local checks one after the other are local
  pub bound_local : Local f → Reads f v → ((a : A) → Local (g a)) → Local (bound f v g)
  bound_local F R G =
      record {
        shift = λ x s at. rw (F.shift x s at, R.same-shifted x s at) (bound-shift (v s at) x s (G (v s at)) (f s at));
        extend = λ s y at q e.
            after-cases (f s at) (g (v s at) s) q e
            (λ p (d : f s at ≡ Ok p) (c : g (v s at) s p ≡ Ok q).
            rw (F.extend s y at p d, R.same_extended s y at p d) ((G (v s at)).extend s y p q c));
        shrink = λ s y at q e h.
            after-cases (f (s ++ y) at) (g (v (s ++ y) at) (s ++ y)) q e
            (λ p (d : f (s ++ y) at ≡ Ok p) (c : g (v (s ++ y) at) (s ++ y) p ≡ Ok q).
            let o = (G (v (s ++ y) at)).onward (s ++ y) p q c in
            let i : f s at ≡ Ok p = F.shrink s y at p d (omega arith) in
            rw i ((G (v s at)).shrink s y p q (rw (R.same_extended s y at p i) at c) h));
        onward = λ s at q e.
            after-cases (f s at) (g (v s at) s) q e
            (λ p d c. let o = F.onward s at p d in let i = (G (v s at)).onward s p q c in omega arith);
        filled = λ s at q e h.
            after-cases (f s at) (g (v s at) s) q e
            (λ p (d : f s at ≡ Ok p) (c : g (v s at) s p ≡ Ok q).
            by_lt p q
            (λ (l : p < q). (G (v s at)).filled s p q c l)
            (λ (l : q ≤ p). let i = F.filled s at p d (omega arith) in omega arith));
      }

  -- what the first reads
  pub bound-first : {B : Type 0} (u : List ℕ → ℕ → B) → Reads f u → Reads (bound f v g) u
  bound-first u U =
      reads-under f (bound f v g) u U (λ s at q e. after-cases (f s at) (g (v s at) s) q e (λ p d c. (p, d)))

  -- what the second reads behind it
  pub bound-second : {B : Type 0} (z : List ℕ → ℕ → ℕ) (w : A → List ℕ → ℕ → B) → Reads f v → Sized f z → ((a : A) → Reads (g a) (w a))
      → Reads (bound f v g) (λ s at. w (v s at) s (at + z s at))
  bound-second z w R Z W =
      record {
        same-shifted = λ x s at.
            rw (R.same-shifted x s at, Z.reads.same-shifted x s at, add_assoc (length x) at (z s at))
            ((W (v s at)).same-shifted x s (at + z s at));
        same_extended = λ s y at q e.
            after-cases (f s at) (g (v s at) s) q e
            (λ p (d : f s at ≡ Ok p) (c : g (v s at) s p ≡ Ok q).
            rw (R.same_extended s y at p d, Z.reads.same_extended s y at p d)
            ((W (v s at)).same_extended s y (at + z s at) q (rw (Z.passes s at p d) at c)));
      }

  -- together they are as long as both
  pub bound-sized : (z : List ℕ → ℕ → ℕ) (y : A → List ℕ → ℕ → ℕ) → Reads f v → Sized f z → ((a : A) → Sized (g a) (y a))
      → Sized (bound f v g) (λ s at. z s at + y (v s at) s (at + z s at))
  bound-sized z y R Z Y =
      record {
        reads =
            reads_with (bound f v g) z (λ s at. y (v s at) s (at + z s at)) (λ m n. m + n) (bound-first z Z.reads)
            (bound-second z y R Z (λ a. (Y a).reads));
        passes = λ s at q e.
            after-cases (f s at) (g (v s at) s) q e
            (λ p (d : f s at ≡ Ok p) (c : g (v s at) s p ≡ Ok q).
            let i = Z.passes s at p d in
            let j = (Y (v s at)).passes s (at + z s at) q (rw i at c) in
            omega arith);
      }

-- ---- A check and then a test of what it read: a refusal comes at the check's own start

-- f, and then a test of what v read
abbrev pub judged : {A : Type 0} → (List ℕ → ℕ → Result ℕ Refusal) → (List ℕ → ℕ → A) → (A → Bool) → Code → List ℕ → ℕ → Result ℕ Refusal
judged f v test code s at = after (f s at) (λ end. cond (test (v s at)) (Ok end) (refuse code at))

module _ {A : Type 0} (f : List ℕ → ℕ → Result ℕ Refusal) (v : List ℕ → ℕ → A) (test : A → Bool) (code : Code) where
  judge_shift : (ok : Bool) (n at : ℕ) (r : Result ℕ Refusal)
      → after (shifted n r) (λ end. cond ok (Ok end) (refuse code (n + at))) ≡ shifted n (after r (λ end. cond ok (Ok end) (refuse code at)))
  judge_shift true n at (Ok p) = refl
  judge_shift false n at (Ok p) = refl
  judge_shift true n at (Err r) = refl
  judge_shift false n at (Err r) = refl

  judge_next : (ok : Bool) (at q : ℕ) (r : Result ℕ Refusal) → after r (λ end. cond ok (Ok end) (refuse code at)) ≡ Ok q
      → (r ≡ Ok q) × (ok ≡ true)
  judge_next true at q (Ok p) e = (e, refl)
  judge_next false at q (Ok p) e = stop_next code at q e
  judge_next ok at q (Err r) e = err_ok r q e

  -- an accepting judgement: the check accepted, and what it read passed
  pub judged-next : (s : List ℕ) (at q : ℕ) → judged f v test code s at ≡ Ok q → (f s at ≡ Ok q) × (test (v s at) ≡ true)
  judged-next s at q e = judge_next (test (v s at)) at q (f s at) e

  -- a judgement of a local check is local
  pub judged_local : Local f → Reads f v → Local (judged f v test code)
  judged_local F R =
      record {
        shift = λ x s at. rw (F.shift x s at, R.same-shifted x s at) (judge_shift (test (v s at)) (length x) at (f s at));
        extend = λ s y at q e.
            let d = judged-next s at q e in
            rw (F.extend s y at q d.0, R.same_extended s y at q d.0, d.1);
        shrink = λ s y at q e h.
            let d = judged-next (s ++ y) at q e in
            let i : f s at ≡ Ok q = F.shrink s y at q d.0 h in
            rw (i, ← (R.same_extended s y at q i), d.1);
        onward = λ s at q e. F.onward s at q (judged-next s at q e).0;
        filled = λ s at q e h. F.filled s at q (judged-next s at q e).0 h;
      }

  -- what the check reads
  pub judged-reads : {B : Type 0} (u : List ℕ → ℕ → B) → Reads f u → Reads (judged f v test code) u
  judged-reads u U = reads-under f (judged f v test code) u U (λ s at q e. (q, (judged-next s at q e).0))

  -- it is as long as the check
  pub judged-sized : (z : List ℕ → ℕ → ℕ) → Sized f z → Sized (judged f v test code) z
  judged-sized z Z =
      record { reads = judged-reads z Z.reads; passes = λ s at q e. Z.passes s at q (judged-next s at q e).0 }

-- ---- The same check again and again

-- no check at all
pub nothing_local : Local (λ s at. Ok at)
nothing_local =
    record {
      shift = λ x s at. refl;
      extend = λ s y at p e. e;
      shrink = λ s y at p e h. e;
      onward = λ s at p e. let d : at ≡ p = cc in omega arith;
      filled = λ s at p e h. let d : at ≡ p = cc in absurd (omega arith);
    }

-- n entries, one after the other
abbrev pub several : (List ℕ → ℕ → Result ℕ Refusal) → ℕ → List ℕ → ℕ → Result ℕ Refusal
several entry n s at = repeat (entry s) n at

-- n local entries are local
pub several_local : (entry : List ℕ → ℕ → Result ℕ Refusal) → Local entry → (n : ℕ) → Local (several entry n)
unfolding repeat
several_local entry E zero = nothing_local
several_local entry E (suc n) =
    bound_local {A = ℕ} entry (λ s at. 0) (λ a. several entry n) E (reads_fixed entry 0) (λ a. several_local entry E n)

-- entries of one length
pub several-passes : (entry : List ℕ → ℕ → Result ℕ Refusal) (w : ℕ) → Sized entry (λ s at. w) → (n : ℕ) (s : List ℕ) (at p : ℕ)
    → several entry n s at ≡ Ok p → p ≡ at + w * n
unfolding repeat
several-passes entry w E zero s at p e = let d : at ≡ p = cc in omega arith
several-passes entry w E (suc n) s at q e =
    after-cases (entry s at) (repeat (entry s) n) q e
    (λ p (d : entry s at ≡ Ok p) (c : repeat (entry s) n p ≡ Ok q).
    let i = E.passes s at p d in
    let j = several-passes entry w E n s p q c in
    omega arith)

-- n entries of w bytes are n times w long
pub several-sized : (entry : List ℕ → ℕ → Result ℕ Refusal) (w : ℕ) → Sized entry (λ s at. w) → (n : ℕ) → Sized (several entry n) (λ s at. w * n)
several-sized entry w E n = record { reads = reads_fixed (several entry n) (w * n); passes = several-passes entry w E n }
