-- Document 02's words for grants, and the tests that the code makes.
use mathlib.Core.Path.{◌≡◌, refl, sym, ap, ◌∙◌, subst}
use mathlib.Core.Bool.{Bool, true, false, not, ◌&&◌}
use mathlib.Core.List.{List, [], ◌∷◌}
use Prim.Native.Nat.{ℕ, zero, suc, ◌+◌, ◌-◌, ◌≤◌, ◌<◌}
use native.Mathlib.Omega.{arith}
use lib.Dec.{eqb}
use lib.ListN.{length, get_or, drop, length-drop}
use lib.Seq.{length-take-le}
use borrow.Author.Tests.{not-true, eqb-true, ne_eqb}
use Rattle.text.specs.Parts.{part}
use Rattle.text.proofs.Cases.{by_test, both_left, both_right}
use Rattle.field.proofs.Local.{part-byte}
use Rattle.section.specs.Layout.{layout_of, is_empty}
use Rattle.command.specs.Text.{is_indicator, check_command}
use Rattle.command.proofs.Accepted.{Accepted, accepted, indicators_are}
use Rattle.commute.specs.Commute.{sets, flag_of}
use Rattle.commute.proofs.Numbered.{of_number}
use Rattle.board.proofs.WaitingSlots.{never, both}
use Rattle.decide.proofs.Tests.{Says}
use Rattle.offices.specs.Offices.{is_grant, any_place, both_grant, ungranted, overlap, outside}
use Rattle.offices.specs.Own.{grants_flag, grants_section, Full}
use Rattle.offices.specs.declared.Grant.{Grant}
use Rattle.offices.proofs.Places.{neither_left, neither_right, none-at, at_none}
use Rattle.promises.specs.OfficeRuns.{Apart, Outside, Flag, Section, Downlink}
use Rattle.std.specs.Prelude.{Ok}

not_together : (s t : Bool) → (s ≡ true → t ≡ true → ⊥) → (s && t) ≡ false
not_together true true f = absurd (f refl refl)
not_together true false f = refl
not_together false t f = refl

two_back : (i : ℕ) → i + 2 - 2 ≡ i
two_back i = omega arith

-- ---- Grants that are apart

pub apart-no : (g h : Grant) → Full g → Full h → Apart g h → overlap g h ≡ false
unfolding overlap
apart-no g h full full' a =
    let n = full.seven in
    let m = full.eight in
    rw (
      at_none both_grant g.flags h.flags (λ i l k. not_together (grants_flag g i) (grants_flag h i) (a.flags i (omega arith))),
      at_none both_grant g.sections h.sections
          (λ i l k.
          not_together (is_grant (get_or g.sections i 0)) (is_grant (get_or h.sections i 0))
          (subst (λ (j : ℕ). is_grant (get_or g.sections j 0) ≡ true → is_grant (get_or h.sections j 0) ≡ true → ⊥) (two_back i) (a.sections (i + 2) (omega arith) (omega arith)))),
    )
    (not_together (is_grant g.downlinks) (is_grant h.downlinks) a.downlinks)

pub no-apart : (g h : Grant) → Full g → Full h → overlap g h ≡ false → Apart g h
unfolding overlap
no-apart g h full full' e =
    let rest = neither_right (any_place both_grant g.flags h.flags) _ e in
    let n = full.seven in
    let n' = full'.seven in
    let m = full.eight in
    let m' = full'.eight in
    record {
      flags = λ i l a b.
          never (both (grants_flag g i) (grants_flag h i) a b)
          (none-at both_grant g.flags h.flags (neither_left (any_place both_grant g.flags h.flags) _ e) i (omega arith) (omega arith));
      sections = λ k lo hi a b.
          never (both (grants_section g k) (grants_section h k) a b)
          (none-at both_grant g.sections h.sections (neither_left (any_place both_grant g.sections h.sections) _ rest) (k - 2) (omega arith) (omega arith));
      downlinks = λ a b.
          never (both (is_grant g.downlinks) (is_grant h.downlinks) a b) (neither_right (any_place both_grant g.sections h.sections) _ rest);
    }

pub apart-turned : (g h : Grant) → Apart g h → Apart h g
apart-turned g h a =
    record {
      flags = λ i l b c. a.flags i l c b;
      sections = λ k lo hi b c. a.sections k lo hi c b;
      downlinks = λ b c. a.downlinks c b;
    }

-- ---- Commands outside a grant

record Found (test : ℕ → ℕ → Bool) (a b : List ℕ) : Type 0 where
  place : ℕ
  inside : place < length a
  passes : test (get_or a place 0) (get_or b place 0) ≡ true

found : (test : ℕ → ℕ → Bool) (a b : List ℕ) → any_place test a b ≡ true → Found test a b
unfolding any_place
found test [] b e = never e refl
found test (x ∷ a) [] e = never e refl
found test (x ∷ a) (y ∷ b) e =
    by_test (test x y)
    (λ p. record { place = zero; inside = omega arith; passes = p })
    (λ p.
    let f = found test a b (rw p at e) in
    let l = f.inside in
    record { place = suc f.place; inside = omega arith; passes = f.passes })

named-byte : (k b : ℕ) → is_indicator k b ≡ true → eqb b 48 ≡ false → eqb b (48 + k) ≡ true
named-byte k b i n = both_right (not (is_empty (layout_of k))) (eqb b (48 + k)) (rw n at i)

named_other : (k b : ℕ) → 2 ≤ k → eqb b (48 + k) ≡ true → not (eqb b 48) ≡ true
named_other k b lo s = let z = eqb-true b (48 + k) s in rw (ne_eqb b 48 (λ (y : b ≡ 48). omega arith))

module _ (g : Grant) (t : List ℕ) (full : Full g) (fine : check_command t ≡ (Ok tt)) where
  ok : Accepted t
  ok = accepted t fine

  seven : length (part 5 7 t) ≡ 7
  seven = let i = ok.head.inside in length-take-le 7 (drop 5 t) (omega (arith, length-drop 5 t))

  eight : length (part 13 8 t) ≡ 8
  eight = let i = ok.head.inside in length-take-le 8 (drop 13 t) (omega (arith, length-drop 13 t))

  section-byte : (k : ℕ) → 2 ≤ k → k ≤ 9 → get_or (part 13 8 t) (k - 2) 0 ≡ get_or t (11 + k) 0
  section-byte k lo hi =
      let e : 13 + (k - 2) ≡ 11 + k = omega arith in
      part-byte 8 t 13 (k - 2) (omega arith) ∙ ap (λ (i : ℕ). get_or t i 0) e

  is-flag : Found (ungranted 57) (part 5 7 t) g.flags → Outside g t
  is-flag f =
      let i : ℕ = f.place in
      let l = f.inside in
      let m = seven in
      let b : i < 7 = omega arith in
      let p : (sets (flag_of t i) && not (grants_flag g i)) ≡ true = rw (part-byte 7 t 5 i b) at f.passes in
      Flag i b (both_left (sets (flag_of t i)) (not (grants_flag g i)) p) (not-true (grants_flag g i) (both_right (sets (flag_of t i)) (not (grants_flag g i)) p))

  is-section : (k : ℕ) → 2 ≤ k → k ≤ 9 → (not (eqb (get_or t (11 + k) 0) 48) && not (grants_section g k)) ≡ true → Outside g t
  is-section k lo hi p =
      let b : ℕ = get_or t (11 + k) 0 in
      Section k lo hi
      (named-byte k b (of_number (λ j. is_indicator j (get_or t (11 + j) 0) ≡ true) (indicators_are t ok) k lo hi)
      (not-true (eqb b 48) (both_left (not (eqb b 48)) (not (grants_section g k)) p)))
      (not-true (grants_section g k) (both_right (not (eqb b 48)) (not (grants_section g k)) p))

  found-section : Found (ungranted 48) (part 13 8 t) g.sections → Outside g t
  found-section f =
      let l = f.inside in
      let m = eight in
      let k : ℕ = f.place + 2 in
      let lo : 2 ≤ k = omega arith in
      let hi : k ≤ 9 = omega arith in
      is-section k lo hi
      (subst (λ (b : ℕ). (not (eqb b 48) && not (grants_section g k)) ≡ true) (section-byte k lo hi)
      (subst (λ (i : ℕ). ungranted 48 (get_or (part 13 8 t) i 0) (get_or g.sections i 0) ≡ true) (sym (two_back f.place)) f.passes))

  pub outside-said : Says (outside g t) (Outside g t)
  unfolding outside
  outside-said =
      record {
        yes_so = λ e.
            by_test (any_place (ungranted 57) (part 5 7 t) g.flags)
            (λ p. is-flag (found (ungranted 57) (part 5 7 t) g.flags p))
            (λ p.
            by_test (any_place (ungranted 48) (part 13 8 t) g.sections)
            (λ q. found-section (found (ungranted 48) (part 13 8 t) g.sections q))
            (λ q.
            let z : (not (eqb (get_or t 12 0) 48) && not (is_grant g.downlinks)) ≡ true = rw (p, q) at e in
            Downlink (not-true (eqb (get_or t 12 0) 48) (both_left (not (eqb (get_or t 12 0) 48)) (not (is_grant g.downlinks)) z))
            (not-true (is_grant g.downlinks) (both_right (not (eqb (get_or t 12 0) 48)) (not (is_grant g.downlinks)) z))));
        so_yes = λ o. by_test (outside g t) (λ e. e) (λ e. absurd (none e o));
      }
    where
      none : outside g t ≡ false → Outside g t → ⊥
      none e (Flag i l s n) =
          let m = seven in
          let k = full.seven in
          never (both (sets (flag_of t i)) (not (grants_flag g i)) s (ap not n))
          (rw (part-byte 7 t 5 i l) at (none-at (ungranted 57) (part 5 7 t) g.flags (neither_left (any_place (ungranted 57) (part 5 7 t) g.flags) _ e) i (omega arith) (omega arith)))
      none e (Section k lo hi s n) =
          let m = eight in
          let j = full.eight in
          let rest = neither_right (any_place (ungranted 57) (part 5 7 t) g.flags) _ e in
          let b : ℕ = get_or t (11 + k) 0 in
          let other : not (eqb b 48) ≡ true = named_other k b lo s in
          never (both (not (eqb b 48)) (not (grants_section g k)) other (ap not n))
          (subst (λ (c : ℕ). (not (eqb c 48) && not (grants_section g k)) ≡ false) (section-byte k lo hi)
          (none-at (ungranted 48) (part 13 8 t) g.sections (neither_left (any_place (ungranted 48) (part 13 8 t) g.sections) _ rest) (k - 2) (omega arith) (omega arith)))
      none e (Downlink s n) =
          let rest = neither_right (any_place (ungranted 57) (part 5 7 t) g.flags) _ e in
          never (both (not (eqb (get_or t 12 0) 48)) (not (is_grant g.downlinks)) (ap not s) (ap not n))
          (neither_right (any_place (ungranted 48) (part 13 8 t) g.sections) _ rest)
