-- What a look over the slots finds, in the functions that take one slot more.
use mathlib.Core.Path.{◌≡◌, refl, sym, ap, ◌∙◌}
use mathlib.Core.Bool.{Bool, true, false, not, ◌&&◌, ◌||◌, and_assoc, and-true}
use mathlib.Core.List.{List, [], ◌∷◌}
use Prim.Native.Nat.{ℕ, suc, ◌+◌, ◌*◌, ◌≤◌, ◌<◌, ◌%◌}
use native.Mathlib.Numerals.{add-one}
use native.Mathlib.Omega.{arith}
use lib.Dec.{leb, eqb}
use lib.ListN.{length, get_or, take, drop, drop_of_length-le}
use lib.Seq.{take_all, take-length, length-take-le, drop-cons, drop-length}
use borrow.Author.Tests.{lt-leb, lt-ltb, le-ltb, not-false}
use Rattle.std.proofs.lemmas.List.{get_or_default}
use Rattle.std.specs.Prelude.{Option}
use Rattle.text.specs.Equal.{same_bytes}
use Rattle.text.proofs.Cases.{by_le, by_lt, by_test}
use Rattle.text.proofs.Parts.{part_bytes}
use Rattle.command.specs.Text.{longest}
use Rattle.board.specs.Lent.{no_slot}
use Rattle.board.specs.Inner.{Wanted, is_used, used_for, none_for, alone_in, is_before, is_looked_at, until_at, first_of, step_of, scan_from, scanned}
use Rattle.board.proofs.Scanned.{step_bad, step-free}
use Rattle.board.specs.declared.Slot.{Slot}
use Rattle.board.specs.declared.Findings.{Findings}

-- a list of six is its six elements
pub six : (l : List ℕ) → length l ≡ 6
    → l ≡ get_or l 0 0 ∷ get_or l 1 0 ∷ get_or l 2 0 ∷ get_or l 3 0 ∷ get_or l 4 0 ∷ get_or l 5 0 ∷ []
six l e = sym (take_all 6 l (omega arith)) ∙ part_bytes 6 0 l (omega arith)

abbrev alike : List ℕ → List ℕ → Bool
alike a b =
    eqb (get_or a 0 0) (get_or b 0 0)
    && eqb (get_or a 1 0) (get_or b 1 0)
    && eqb (get_or a 2 0) (get_or b 2 0)
    && eqb (get_or a 3 0) (get_or b 3 0)
    && eqb (get_or a 4 0) (get_or b 4 0)
    && eqb (get_or a 5 0) (get_or b 5 0)

-- six bytes compared one by one
pub same_six : (a b : List ℕ) → length a ≡ 6 → length b ≡ 6 → alike a b ≡ same_bytes a b
unfolding same_bytes
same_six a b e f =
    sym (ap (λ (l : List ℕ). same_bytes l b) (six a e)
    ∙ ap (same_bytes (get_or a 0 0 ∷ get_or a 1 0 ∷ get_or a 2 0 ∷ get_or a 3 0 ∷ get_or a 4 0 ∷ get_or a 5 0 ∷ [])) (six b f)
    ∙ simp (and_assoc, and-true))

-- the area's length is asked for only where there are at most 64 slots
pub start-bytes : (n bytes : ℕ) → (leb n 64 && eqb bytes (longest * (n % 65))) ≡ (leb n 64 && eqb bytes (longest * n))
start-bytes n bytes =
    by_le n 64
    (λ (h : n ≤ 64). let e : n % 65 ≡ n = omega arith in rw e)
    (λ (h : 64 < n). rw (lt-leb n 64 h))

-- ---- The slots behind one

module _ (a : Findings) (x : Slot) (i : ℕ) where
  -- the look ends at a slot, or behind the last
  pub until_le : (n r : ℕ) → r ≡ until_at a x i n → r ≤ n
  unfolding until_at
  until_le n r e =
      rw e
      (by_test (a.valid && is_used x)
      (λ (t : (a.valid && is_used x) ≡ true).
      rw t (by_lt i n (λ (l : i < n). rw (lt-ltb i n l) (omega arith)) (λ (l : n ≤ i). rw (le-ltb i n l) (omega arith))))
      (λ (t : (a.valid && is_used x) ≡ false). rw t (omega arith)))

  -- and sees all that is asked for
  pub until_from : (ys : List Slot) (r : ℕ) → r ≡ until_at a x i (length ys)
      → alone_in a x (take i ys) ≡ (true && none_for x.designator (drop 0 (take r ys)))
  unfolding until_at alone_in none_for
  until_from ys r e =
      by_test (a.valid && is_used x)
      (λ (t : (a.valid && is_used x) ≡ true).
      by_lt i (length ys)
      (λ (l : i < length ys). let f : r ≡ i = e ∙ rw (t, lt-ltb i (length ys) l) in rw (t, f))
      (λ (l : length ys ≤ i).
      let f : r ≡ length ys = e ∙ rw (t, le-ltb i (length ys) l) in
      rw (t, f, take_all i ys l, take-length ys)))
      (λ (t : (a.valid && is_used x) ≡ false). let f : r ≡ 0 = e ∙ rw t in rw (t, f))

-- one slot more, of those that are looked at
pub apart_next : (d : List ℕ) (ys : List Slot) (j : ℕ) (c r w : Bool) → j < length ys → w ≡ (c && none_for d (drop j ys))
    → r ≡ (c && not (used_for d (get_or ys j no_slot))) → w ≡ (r && none_for d (drop (j + 1) ys))
unfolding none_for
apart_next d ys j c r w l h e =
    h ∙ rw (e, add-one, drop-cons ys j no_slot l)
    (sym (and_assoc c (not (used_for d (get_or ys j no_slot))) (none_for d (drop (suc j) ys))))

-- and none left
pub apart_end : (d : List ℕ) (ys : List Slot) (j : ℕ) (c w : Bool) → length ys ≤ j → w ≡ (c && none_for d (drop j ys)) → c ≡ w
unfolding none_for
apart_end d ys j c w l h = sym (h ∙ rw (drop_of_length-le ys {i = j} l) (and-true c))

neither_left : (s t : Bool) → (s || t) ≡ false → s ≡ false
neither_left true t e = e
neither_left false t e = refl

neither_right : (s t : Bool) → (s || t) ≡ false → t ≡ false
neither_right true t e = let z : ◌≡◌ {A = ℕ} 0 1 = cc in absurd (omega arith)
neither_right false t e = e

-- a free slot behind a free one changes nothing
tells_nothing : (area : List ℕ) (w : Wanted) (a : Findings) (x : Slot) (c : Bool) (i : ℕ) → is_used x ≡ false → is_before a.free i ≡ true → step_of area w a x c i ≡ a
tells_nothing area w a x c i u l =
    by_test a.valid
    (λ (t : a.valid ≡ true).
    let same : first_of a.free i ≡ a.free = rw l in
    step-free area w a x c i t u
    ∙ ap (λ (k : Option ℕ). record { valid = true; length = a.length; own = a.own; free = k }) same
    ∙ ap (λ (v : Bool). record { valid = v; length = a.length; own = a.own; free = a.free }) (sym t))
    (λ (t : a.valid ≡ false). step_bad area w a x c i t)

-- ---- The look over the slots, from a slot on, with what was found before it

module _ (area : List ℕ) (w : Wanted) (ys : List Slot) (i : ℕ) (a : Findings) where
  -- one slot more
  pub look-next : (r : Findings) (c : Bool) → i < length ys → scanned area w ys ≡ scan_from area w ys a i (drop i ys)
      → c ≡ alone_in a (get_or ys i no_slot) (take i ys) → r ≡ step_of area w a (get_or ys i no_slot) c i
      → scanned area w ys ≡ scan_from area w ys r (i + 1) (drop (i + 1) ys)
  unfolding scan_from
  look-next r c l h e f = h ∙ rw (f, e, add-one, drop-cons ys i no_slot l)

  -- one that tells nothing
  pub look-past : i < length ys → scanned area w ys ≡ scan_from area w ys a i (drop i ys) → is_looked_at a (get_or ys i no_slot) i ≡ false
      → scanned area w ys ≡ scan_from area w ys a (i + 1) (drop (i + 1) ys)
  unfolding scan_from
  look-past l h t =
      let x = get_or ys i no_slot in
      h
      ∙ rw (add-one, drop-cons ys i no_slot l)
      (ap (λ (z : Findings). scan_from area w ys z (suc i) (drop (suc i) ys))
      (tells_nothing area w a x (alone_in a x (take i ys)) i (neither_left (is_used x) (not (is_before a.free i)) t) (not-false (is_before a.free i) (neither_right (is_used x) (not (is_before a.free i)) t))))

  -- and none left
  pub look_end : i ≡ length ys → scanned area w ys ≡ scan_from area w ys a i (drop i ys) → a ≡ scanned area w ys
  unfolding scan_from
  look_end e h = sym (h ∙ ap (λ (l : List Slot). scan_from area w ys a i l) (ap (λ (j : ℕ). drop j ys) e ∙ drop-length ys))

-- for the loop over the slots before one, and for the loop over all
pub ruleset until_steps = (until_le, until_from, length-take-le)

pub ruleset look_steps = (look-next, look-past, look_end, get_or_default)
