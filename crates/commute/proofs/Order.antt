-- Document 02, §12: two accepted commands give the same configuration in both orders, from every valid one, exactly when each flag and
-- section that both set has the same contents in both. In that case the joined texts are the same bytes.
use mathlib.Core.Path.{◌≡◌, refl, sym, ap, ap₂, ◌∙◌}
use mathlib.Core.Logic.{◌↔◌}
use mathlib.Core.Bool.{true, false, cond, not}
use mathlib.Core.List.{List, [], ◌∷◌}
use Prim.Native.Nat.{ℕ, suc, ◌-◌, ◌≤◌, ◌<◌}
use native.Mathlib.Omega.{arith}
use lib.Dec.{eqb}
use lib.ListN.{length, get_or}
use borrow.Author.Tests.{eqb-true, not-true}
use Rattle.text.specs.Parts.{part}
use Rattle.text.proofs.Cases.{by_test}
use Rattle.field.proofs.Local.{part-byte}
use Rattle.section.specs.Layout.{numbers}
use Rattle.settings.specs.Settings.{contents_of, settings_from}
use Rattle.settings.specs.Valid.{reset}
use Rattle.settings.specs.declared.Settings.{Settings}
use Rattle.command.specs.Text.{is_flag, is_named, check_command}
use Rattle.command.specs.Sections.{held_in}
use Rattle.command.proofs.Each.{each_map}
use Rattle.command.proofs.Head.{passes-length}
use Rattle.command.proofs.Parts.{present, body_of, parts_of, flag_tests}
use Rattle.command.proofs.Accepted.{Accepted, accepted, sound, flag-byte}
use Rattle.config.specs.Config.{apply_to}
use Rattle.config.proofs.Apply.{flag-after, flags-length, section-after}
use Rattle.config.proofs.Valid.{reset-valid}
use Rattle.join.specs.Join.{choose, join_text}
use Rattle.join.proofs.Places.{later}
use Rattle.join.proofs.Parts.{text-alike, join_parts, join-text, join-accepted, join-parts}
use Rattle.join.proofs.Laws.{join-acts}
use Rattle.commute.specs.Commute.{sets, flag_of}
use Rattle.commute.specs.Order.{EitherWay, Agree}
use Rattle.commute.proofs.Numbered.{of_number, each_number}
use Rattle.commute.proofs.Same.{some-named, held_bytes}
use Rattle.std.specs.Prelude.{Ok}

-- ---- At one place

chosen_turns : (n f g : ℕ) → (eqb f n ≡ false → eqb g n ≡ false → f ≡ g) → cond (eqb g n) f g ≡ cond (eqb f n) g f
chosen_turns n f g h =
    by_test (eqb g n)
    (λ (e : eqb g n ≡ true).
    by_test (eqb f n)
    (λ (d : eqb f n ≡ true). rw (e, d) (eqb-true f n d ∙ sym (eqb-true g n e)))
    (λ (d : eqb f n ≡ false). rw (e, d)))
    (λ (e : eqb g n ≡ false).
    by_test (eqb f n) (λ (d : eqb f n ≡ true). rw (e, d)) (λ (d : eqb f n ≡ false). rw (e, d) (sym (h d e))))

-- where those that both set are the same, the flags may be joined either way round
choose_turns : (n : ℕ) (fs gs : List ℕ) → length fs ≡ length gs
    → ((i : ℕ) → i < length fs → eqb (get_or fs i 0) n ≡ false → eqb (get_or gs i 0) n ≡ false → get_or fs i 0 ≡ get_or gs i 0)
    → choose n fs gs ≡ choose n gs fs
unfolding choose
choose_turns n [] [] l h = refl
choose_turns n [] (g ∷ gs) l h = absurd (omega arith)
choose_turns n (f ∷ fs) [] l h = absurd (omega arith)
choose_turns n (f ∷ fs) (g ∷ gs) l h =
    ap₂ ◌∷◌ (chosen_turns n f g (h 0 (omega arith))) (choose_turns n fs gs (omega arith) (λ i k. h (suc i) (omega arith)))

-- and so may a section's bytes
later_turns : (x y : List ℕ) → (present x ≡ true → present y ≡ true → x ≡ y) → later x y ≡ later y x
later_turns [] [] h = refl
later_turns [] (b ∷ y) h = refl
later_turns (a ∷ x) [] h = refl
later_turns (a ∷ x) (b ∷ y) h = sym (h refl refl)

chosen_earlier : (n f g : ℕ) → cond (eqb (cond (eqb g n) f g) n) g (cond (eqb g n) f g) ≡ cond (eqb g n) f g
chosen_earlier n f g =
    by_test (eqb g n)
    (λ (e : eqb g n ≡ true).
    by_test (eqb f n)
    (λ (d : eqb f n ≡ true). rw (e, d) (eqb-true g n e ∙ sym (eqb-true f n d)))
    (λ (d : eqb f n ≡ false). rw (e, d)))
    (λ (e : eqb g n ≡ false). rw (e, e))

-- an earlier copy of the second alters nothing
choose_earlier : (n : ℕ) (fs gs : List ℕ) → choose n gs (choose n fs gs) ≡ choose n fs gs
unfolding choose
choose_earlier n [] [] = refl
choose_earlier n [] (g ∷ gs) = refl
choose_earlier n (f ∷ fs) [] = refl
choose_earlier n (f ∷ fs) (g ∷ gs) = ap₂ ◌∷◌ (chosen_earlier n f g) (choose_earlier n fs gs)

later_earlier : (x y : List ℕ) → later y (later x y) ≡ later x y
later_earlier [] [] = refl
later_earlier (a ∷ x) [] = refl
later_earlier x (b ∷ y) = refl

-- a flag's byte is `0` at the least
pub flag-least : (b : ℕ) → is_flag b ≡ true → 48 ≤ b
flag-least b f =
    by_test (eqb b 48)
    (λ (p : eqb b 48 ≡ true). omega (arith, eqb-true b 48 p))
    (λ (p : eqb b 48 ≡ false).
    by_test (eqb b 49)
    (λ (q : eqb b 49 ≡ true). omega (arith, eqb-true b 49 q))
    (λ (q : eqb b 49 ≡ false).
    let nine : eqb b 57 ≡ true = rw (p, q) at f in
    omega (arith, eqb-true b 57 nine)))

-- ---- Two accepted commands

seven : (s : List ℕ) → length (apply_to reset s).flags ≡ 7
unfolding reset settings_from
seven s = flags-length reset s

module _ (a b : List ℕ) (x : check_command a ≡ (Ok tt)) (y : check_command b ≡ (Ok tt)) where
  abbrev A : Accepted a
  A = accepted a x

  abbrev B : Accepted b
  B = accepted b y

  -- where they agree the joined texts are the same bytes; the larger downlink digit is the same either way round
  pub agree-joins : Agree a b → join_text a b ≡ join_text b a
  agree-joins h =
      let m = passes-length flag_tests (part 5 7 a) (sound a A).flags in
      let n = passes-length flag_tests (part 5 7 b) (sound b B).flags in
      join-text a b A B
      ∙ text-alike (join_parts (parts_of a) (parts_of b)) (join_parts (parts_of b) (parts_of a))
      (record {
        flags =
            choose_turns 57 (part 5 7 a) (part 5 7 b) (m ∙ sym n)
            (λ i l d e.
            let k : i < 7 = omega (arith, m) in
            let p = part-byte 7 a 5 i k in
            let q = part-byte 7 b 5 i k in
            p
            ∙ h.flags i k (ap not (ap (λ (v : ℕ). eqb v 57) (sym p) ∙ d)) (ap not (ap (λ (v : ℕ). eqb v 57) (sym q) ∙ e))
            ∙ sym q);
        downlink = omega arith;
        sections =
            each_number (λ k. later (body_of a k) (body_of b k) ≡ later (body_of b k) (body_of a k))
            (λ k lo hi.
            later_turns (body_of a k) (body_of b k)
            (λ p q.
            let s = some-named a A k lo hi p in
            let t = some-named b B k lo hi q in
            held_bytes a b A B k lo hi s t (h.sections k lo hi s t)));
      })
      ∙ sym (join-text b a B A)

  -- so both orders give the same, from every configuration
  agree_either : Agree a b → EitherWay a b
  agree_either h g v = sym (join-acts a b x y g) ∙ ap (apply_to g) (agree-joins h) ∙ join-acts b a y x g

  -- the valid configuration after reset tells apart those that do not agree: each order ends in what its last command sets
  module _ (here : apply_to (apply_to reset a) b ≡ apply_to (apply_to reset b) a) where
    flag_same : (i : ℕ) → i < 7 → sets (flag_of a i) ≡ true → sets (flag_of b i) ≡ true → flag_of a i ≡ flag_of b i
    flag_same i l p q =
        let s : get_or (apply_to (apply_to reset b) a).flags i 0 ≡ flag_of a i - 48 =
        flag-after (apply_to reset b) a i A (seven b) l ∙ rw (not-true (eqb (flag_of a i) 57) p) in
        let t : get_or (apply_to (apply_to reset a) b).flags i 0 ≡ flag_of b i - 48 =
        flag-after (apply_to reset a) b i B (seven a) l ∙ rw (not-true (eqb (flag_of b i) 57) q) in
        let e : flag_of a i - 48 ≡ flag_of b i - 48 = sym s ∙ ap (λ (g : Settings). get_or g.flags i 0) (sym here) ∙ t in
        omega (arith, e, flag-least (flag_of a i) (flag-byte a A i l), flag-least (flag_of b i) (flag-byte b B i l))

    section-same : (k : ℕ) → 2 ≤ k → k ≤ 9 → is_named a k ≡ true → is_named b k ≡ true → held_in a k ≡ held_in b k
    section-same k lo hi p q =
        let ba : Settings = apply_to reset b in
        let ab : Settings = apply_to reset a in
        let s : contents_of (apply_to ba a) k ≡ held_in a k =
        of_number (λ j. contents_of (apply_to ba a) j ≡ cond (is_named a j) (held_in a j) (contents_of ba j)) (section-after ba a A) k lo hi ∙ rw p in
        let t : contents_of (apply_to ab b) k ≡ held_in b k =
        of_number (λ j. contents_of (apply_to ab b) j ≡ cond (is_named b j) (held_in b j) (contents_of ab j)) (section-after ab b B) k lo hi ∙ rw q in
        sym s ∙ ap (λ (g : Settings). contents_of g k) (sym here) ∙ t

    pub reset-agree : Agree a b
    reset-agree = record { flags = flag_same; sections = section-same }

  -- the same configuration in both orders, from every valid one, exactly when each flag and section that both set has the same contents
  pub either_way : EitherWay a b ↔ Agree a b
  either_way = (λ h. reset-agree (h reset reset-valid), agree_either)

  -- in that case the joined texts are the same bytes
  pub either_joins : EitherWay a b → join_text a b ≡ join_text b a
  either_joins h = agree-joins (either_way.0 h)

  -- an earlier copy of the second in front of a join changes nothing
  pub join_earlier : join_text b (join_text a b) ≡ join_text a b
  join_earlier =
      let both = join_parts (parts_of a) (parts_of b) in
      let ab = join_text a b in
      let p = join-parts a b A B in
      join-text b ab B (join-accepted a b A B)
      ∙ text-alike (join_parts (parts_of b) (parts_of ab)) both
      (record {
        flags = rw p.flags (choose_earlier 57 (part 5 7 a) (part 5 7 b));
        downlink = rw p.downlink (omega arith);
        sections =
            each_map (λ k. body_of ab k ≡ later (body_of a k) (body_of b k))
            (λ k. later (body_of b k) (body_of ab k) ≡ later (body_of a k) (body_of b k))
            (λ k e. rw e (later_earlier (body_of a k) (body_of b k))) numbers p.sections;
      })
      ∙ sym (join-text a b A B)
