-- What a join does inside a grant: a command of the office itself is joined there as it is everywhere, one of the other office changes
-- nothing.
use mathlib.Core.Path.{◌≡◌, refl, sym, ap, ap₂, ◌∙◌}
use mathlib.Core.Bool.{Bool, true, false, cond, not, ◌&&◌}
use mathlib.Core.List.{List, [], ◌∷◌}
use Prim.Native.Nat.{ℕ, zero, suc, ◌+◌, ◌-◌, ◌≤◌, ◌<◌}
use native.Mathlib.Omega.{arith}
use lib.Dec.{eqb}
use lib.ListN.{length, get_or, drop, length-drop}
use lib.Seq.{length-take-le}
use borrow.Author.Tests.{eqb-true, ne_eqb}
use Rattle.text.specs.Parts.{part}
use Rattle.text.specs.Checks.{is_fine}
use Rattle.text.proofs.Cases.{by_test}
use Rattle.text.proofs.Checks.{fine-is}
use Rattle.field.proofs.Local.{part-byte}
use Rattle.command.specs.Text.{is_named, check_command}
use Rattle.command.specs.Sections.{bytes_of}
use Rattle.command.proofs.Parts.{body_of}
use Rattle.command.proofs.Accepted.{Accepted, accepted}
use Rattle.command.proofs.Standing.{bytes-body}
use Rattle.join.specs.Join.{choose, join_text}
use Rattle.join.proofs.Places.{later, none-later}
use Rattle.join.proofs.Parts.{join-parts}
use Rattle.commute.specs.Commute.{flag_of}
use Rattle.commute.proofs.Numbered.{numbered, of_number}
use Rattle.board.specs.History.{onto}
use Rattle.board.proofs.Steps.{accepted-some, joins}
use Rattle.offices.specs.Offices.{any_place, both_grant, ungranted, overlap, outside}
use Rattle.offices.specs.Own.{grants_flag, grants_section, Full, flag_in, section_in, SameOwn}
use Rattle.offices.specs.declared.Grant.{Grant}
use Rattle.offices.proofs.Places.{neither_left, neither_right, none-at}

-- ---- Small facts

choose-at : (n : ℕ) (fs gs : List ℕ) (i : ℕ) → i < length fs → i < length gs
    → get_or (choose n fs gs) i 0 ≡ cond (eqb (get_or gs i 0) n) (get_or fs i 0) (get_or gs i 0)
unfolding choose
choose-at n [] gs i h k = absurd (omega arith)
choose-at n (f ∷ fs) [] i h k = absurd (omega arith)
choose-at n (f ∷ fs) (g ∷ gs) zero h k = refl
choose-at n (f ∷ fs) (g ∷ gs) (suc i) h k = choose-at n fs gs i (omega arith) (omega arith)

-- the first of two that do not hold together
not-both : (s t : Bool) → (s && t) ≡ false → s ≡ true → t ≡ false
not-both s t e h = rw h at e

-- a byte that is not ungranted, at a place that is not granted, sets nothing
sets-none : (s t : Bool) → (not s && not t) ≡ false → t ≡ false → s ≡ true
sets-none true t e h = refl
sets-none false true e h = let z : ◌≡◌ {A = Bool} true false = h in cc
sets-none false false e h = let z : ◌≡◌ {A = Bool} true false = e in cc

-- nothing waits, or an accepted text does
pub data Waiting (w : List ℕ) : Type 0 where
  Nothing : w ≡ [] → Waiting w
  Text : is_fine (check_command w) ≡ true → Waiting w

seven : (s : List ℕ) → Accepted s → length (part 5 7 s) ≡ 7
seven s x = let i = x.head.inside in length-take-le 7 (drop 5 s) (omega (arith, length-drop 5 s))

eight : (s : List ℕ) → Accepted s → length (part 13 8 s) ≡ 8
eight s x = let i = x.head.inside in length-take-le 8 (drop 13 s) (omega (arith, length-drop 13 s))

-- ---- A command more

module _ (t : List ℕ) (f : is_fine (check_command t) ≡ true) where
  ok : Accepted t
  ok = accepted t (fine-is (check_command t) f)

  pub onto-waits : (w : List ℕ) → Waiting w → Waiting (onto w t)
  onto-waits [] p = Text f
  onto-waits (b ∷ w) (Nothing e) = let z : length (b ∷ w) ≡ 0 = ap length e in absurd (omega arith)
  onto-waits (b ∷ w) (Text g) = Text (joins (b ∷ w) t g f)

  flag-onto : (w : List ℕ) → Waiting w → (i : ℕ) → i < 7 → flag_in (onto w t) i ≡ cond (eqb (flag_of t i) 57) (flag_in w i) (flag_of t i)
  flag-onto [] p i h =
      rw (accepted-some t f)
      (by_test (eqb (flag_of t i) 57) (λ (e : eqb (flag_of t i) 57 ≡ true). rw e (eqb-true (flag_of t i) 57 e)) (λ (e : eqb (flag_of t i) 57 ≡ false). rw e))
  flag-onto (b ∷ w) (Nothing e) i h = let z : length (b ∷ w) ≡ 0 = ap length e in absurd (omega arith)
  flag-onto (b ∷ w) (Text g) i h =
      let x : Accepted (b ∷ w) = accepted (b ∷ w) (fine-is (check_command (b ∷ w)) g) in
      let l = seven (b ∷ w) x in
      let m = seven t ok in
      let j : List ℕ = join_text (b ∷ w) t in
      let k : flag_of j i ≡ cond (eqb (flag_of t i) 57) (flag_of (b ∷ w) i) (flag_of t i) =
      sym (part-byte 7 j 5 i h)
      ∙ ap (λ (fs : List ℕ). get_or fs i 0) (join-parts (b ∷ w) t x ok).flags
      ∙ choose-at 57 (part 5 7 (b ∷ w)) (part 5 7 t) i (omega arith) (omega arith)
      ∙ rw (part-byte 7 (b ∷ w) 5 i h, part-byte 7 t 5 i h) in
      rw (accepted-some j (joins (b ∷ w) t g f)) k

  section-onto : (w : List ℕ) → Waiting w → (k : ℕ) → 2 ≤ k → k ≤ 9 → section_in (onto w t) k ≡ later (section_in w k) (bytes_of t k)
  section-onto [] p k lo hi = rw (accepted-some t f) (sym (none-later (bytes_of t k)))
  section-onto (b ∷ w) (Nothing e) k lo hi = let z : length (b ∷ w) ≡ 0 = ap length e in absurd (omega arith)
  section-onto (b ∷ w) (Text g) k lo hi =
      let x : Accepted (b ∷ w) = accepted (b ∷ w) (fine-is (check_command (b ∷ w)) g) in
      let j : List ℕ = join_text (b ∷ w) t in
      let n = numbered k lo hi in
      let e : bytes_of j k ≡ later (bytes_of (b ∷ w) k) (bytes_of t k) =
      bytes-body j k n
      ∙ of_number (λ i. body_of j i ≡ later (body_of (b ∷ w) i) (body_of t i)) (join-parts (b ∷ w) t x ok).sections k lo hi
      ∙ sym (ap₂ later (bytes-body (b ∷ w) k n) (bytes-body t k n)) in
      rw (accepted-some j (joins (b ∷ w) t g f)) e

  -- the office's own: what was the same stays the same
  pub own-onto : (g : Grant) (w u : List ℕ) → Waiting w → Waiting u → SameOwn g w u → SameOwn g (onto w t) (onto u t)
  own-onto g w u p q same =
      record {
        flags = λ i h a.
            flag-onto w p i h
            ∙ ap (λ (n : ℕ). cond (eqb (flag_of t i) 57) n (flag_of t i)) (same.flags i h a)
            ∙ sym (flag-onto u q i h);
        sections = λ k lo hi a.
            section-onto w p k lo hi
            ∙ ap (λ (l : List ℕ). later l (bytes_of t k)) (same.sections k lo hi a)
            ∙ sym (section-onto u q k lo hi);
      }

  -- the other office's, within its grant h
  module _ (g h : Grant) (full : Full g) (full' : Full h) (apart : overlap g h ≡ false) (inside : outside h t ≡ false) where
    other-flag : (i : ℕ) → i < 7 → grants_flag g i ≡ true → eqb (flag_of t i) 57 ≡ true
    unfolding overlap outside
    other-flag i l a =
        let m = seven t ok in
        let n = full.seven in
        let n' = full'.seven in
        let not-its : grants_flag h i ≡ false =
        not-both (grants_flag g i) (grants_flag h i)
        (none-at both_grant g.flags h.flags (neither_left (any_place both_grant g.flags h.flags) _ apart) i (omega arith) (omega arith)) a in
        let none = none-at (ungranted 57) (part 5 7 t) h.flags (neither_left (any_place (ungranted 57) (part 5 7 t) h.flags) _ inside) i (omega arith) (omega arith) in
        sets-none (eqb (flag_of t i) 57) (grants_flag h i) (rw (part-byte 7 t 5 i l) at none) not-its

    other-section : (k : ℕ) → 2 ≤ k → k ≤ 9 → grants_section g k ≡ true → is_named t k ≡ false
    unfolding overlap outside
    other-section k lo hi a =
        let m = eight t ok in
        let n = full.eight in
        let n' = full'.eight in
        let at : 13 + (k - 2) ≡ 11 + k = omega arith in
        let rest = neither_right (any_place both_grant g.flags h.flags) _ apart in
        let not-its : grants_section h k ≡ false =
        not-both (grants_section g k) (grants_section h k)
        (none-at both_grant g.sections h.sections (neither_left (any_place both_grant g.sections h.sections) _ rest) (k - 2) (omega arith) (omega arith)) a in
        let rest' = neither_right (any_place (ungranted 57) (part 5 7 t) h.flags) _ inside in
        let none = none-at (ungranted 48) (part 13 8 t) h.sections (neither_left (any_place (ungranted 48) (part 13 8 t) h.sections) _ rest') (k - 2) (omega arith) (omega arith) in
        let zero-there : get_or t (11 + k) 0 ≡ 48 =
        eqb-true (get_or t (11 + k) 0) 48
        (sets-none (eqb (get_or t (11 + k) 0) 48) (grants_section h k)
        (rw at at (rw (part-byte 8 t 13 (k - 2) (omega arith)) at none)) not-its) in
        rw zero-there (ne_eqb 48 (48 + k) (λ (z : 48 ≡ 48 + k). omega arith))

    pub other-onto : (w u : List ℕ) → Waiting w → SameOwn g w u → SameOwn g (onto w t) u
    other-onto w u p same =
        record {
          flags = λ i l a. flag-onto w p i l ∙ rw (other-flag i l a) (same.flags i l a);
          sections = λ k lo hi a. section-onto w p k lo hi ∙ rw (other-section k lo hi a) (same.sections k lo hi a);
        }
