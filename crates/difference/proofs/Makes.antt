-- Document 02, §5: the command makes the first configuration into the second and sets exactly what differs; every accepted command that
-- does so sets all of that; and of those that set no more and ask for no downlink it is the only one.
use mathlib.Core.Path.{◌≡◌, refl, sym, ap, ◌∙◌}
use mathlib.Core.Logic.{◌↔◌}
use mathlib.Core.Bool.{Bool, true, false, cond, ◌&&◌, not}
use mathlib.Core.List.{List, [], ◌∷◌}
use Prim.Native.Nat.{ℕ, ◌+◌, ◌-◌, ◌≤◌, ◌<◌}
use native.Mathlib.Omega.{arith}
use lib.Dec.{leb, eqb}
use lib.ListN.{length, get_or, replicate}
use borrow.Author.Tests.{eqb-true, eq-eqb, ne_eqb, not-true, not-false}
use Rattle.text.specs.Parts.{part}
use Rattle.text.specs.Table.{values}
use Rattle.text.proofs.Cases.{by_test, both_left, both_right}
use Rattle.text.proofs.Table.{agree}
use Rattle.field.proofs.Local.{part-byte}
use Rattle.section.specs.Layout.{numbers, layout_of}
use Rattle.section.specs.Contents.{contents_at}
use Rattle.settings.specs.Settings.{contents_of, settings_from, regions_hold, airports_hold, regions_from, airports_from}
use Rattle.settings.specs.Valid.{flags_valid, sections_valid, valid}
use Rattle.settings.specs.declared.Airports.{Airports}
use Rattle.settings.specs.declared.ByPhase.{ByPhase}
use Rattle.settings.specs.declared.Regions.{Regions}
use Rattle.settings.specs.declared.Settings.{Settings}
use Rattle.settings.proofs.Pieces.{seven}
use Rattle.command.specs.Text.{is_named, longest, check_command}
use Rattle.command.specs.Sections.{held_in}
use Rattle.command.specs.Record.{flags_of, command_of, command_text}
use Rattle.command.specs.declared.Command.{Command}
use Rattle.command.proofs.Head.{passes-length}
use Rattle.command.proofs.Parts.{present, body_of, holds, parts_of, flag_tests}
use Rattle.command.proofs.Accepted.{Accepted, accepted, sound, spelt, flag-byte, held-own, named-present}
use Rattle.command_write.specs.Filled.{Filled}
use Rattle.command_write.proofs.ReadBack.{read_held}
use Rattle.command_write.proofs.RoundTrip.{write_read, written-short}
use Rattle.config.specs.Config.{new_flag, new_flags, apply_to}
use Rattle.config.proofs.Apply.{settings-own, settings-same, flag-after, section-after, applies_nothing}
use Rattle.config.proofs.Seven.{new_seven}
use Rattle.join.specs.Join.{no_change_text}
use Rattle.join.proofs.Laws.{no-change-fine}
use Rattle.join.proofs.Parts.{text-alike}
use Rattle.commute.specs.Commute.{sets, flag_of}
use Rattle.commute.proofs.Numbered.{each_of, numbered, of_number, each_number}
use Rattle.commute.proofs.Order.{flag-least}
use Rattle.commute.proofs.Same.{named_some, held_bytes}
use Rattle.difference.specs.Same.{same_contents}
use Rattle.difference.specs.Difference.{flag_differs, section_differs, items, by_item, those, differing, set_by, between, answered, difference}
use Rattle.difference.proofs.Equal.{same_contents_lem}
use Rattle.difference.proofs.List.{each_item, flag_item, section_item, by_flag_lem, by_section, those-none, none_pass, those_fewer}
use Rattle.difference.proofs.Marks.{flags_to, valid-flag, flag_at, held_back, between-allowed}
use Rattle.std.specs.Prelude.{Result, Ok, Err}
use Rattle.text.specs.declared.Code.{Code}
use Rattle.text.specs.declared.Code.TheVariants.{NoRoom, SettingsInvalid}
use Rattle.difference.specs.declared.Differing.{Differing}

-- ---- Differing, as a test and as a fact

pub flag-differs : (a b : Settings) (i : ℕ) → (flag_differs a b i ≡ true) ↔ ((get_or a.flags i 0 ≡ get_or b.flags i 0) → ⊥)
flag-differs a b i =
    let v = get_or a.flags i 0 in
    let w = get_or b.flags i 0 in (
      λ e s. let n = not-true (eqb v w) e in let y = eq-eqb v w s in let z : ◌≡◌ {A = ℕ} 0 1 = cc in absurd (omega arith),
      λ n. rw (ne_eqb v w n),
    )

pub section-differs : (a b : Settings) (k : ℕ) → (section_differs a b k ≡ true) ↔ ((contents_of a k ≡ contents_of b k) → ⊥)
section-differs a b k =
    let t = same_contents (contents_of a k) (contents_of b k) in
    let same = same_contents_lem (contents_of a k) (contents_of b k) in (
      λ e s. let n = not-true t e in let y = same.1 s in let z : ◌≡◌ {A = ℕ} 0 1 = cc in absurd (omega arith),
      λ n. by_test t (λ y. absurd (n (same.0 y))) (λ m. rw m),
    )

pub flag_same : (a b : Settings) (i : ℕ) → flag_differs a b i ≡ false → get_or a.flags i 0 ≡ get_or b.flags i 0
flag_same a b i e = eqb-true _ _ (not-false _ e)

pub section-same : (a b : Settings) (k : ℕ) → section_differs a b k ≡ false → contents_of a k ≡ contents_of b k
section-same a b k e = (same_contents_lem (contents_of a k) (contents_of b k)).0 (not-false _ e)

-- ---- Lists of seven

values_same : (f g : ℕ → ℕ) → ((i : ℕ) → i < 7 → f i ≡ g i) → values f 0 7 ≡ values g 0 7
values_same f g h =
    rw (h 0 (omega arith), h 1 (omega arith), h 2 (omega arith), h 3 (omega arith), h 4 (omega arith), h 5 (omega arith), h 6 (omega arith))

same-seven : (l m : List ℕ) → length l ≡ 7 → length m ≡ 7 → ((i : ℕ) → i < 7 → get_or l i 0 ≡ get_or m i 0) → l ≡ m
same-seven l m p q h = seven l p ∙ values_same (λ i. get_or l i 0) (λ i. get_or m i 0) h ∙ sym (seven m q)

-- ---- A named section of an accepted text

holds-some : (k : ℕ) (b : List ℕ) → present b ≡ true → holds k b ≡ contents_at (layout_of k) b 0
holds-some k [] e = let z : ◌≡◌ {A = ℕ} 0 1 = cc in absurd (omega arith)
holds-some k (c ∷ b) e = refl

module _ (s : List ℕ) (x : Accepted s) (k : ℕ) (lo : 2 ≤ k) (hi : k ≤ 9) where
  -- what it holds is what its record holds
  named-held : is_named s k ≡ true → contents_of (command_of s).settings k ≡ held_in s k
  unfolding command_of
  named-held n =
      of_number (λ j. (b : List ℕ) → held_in s j ≡ contents_at (layout_of j) b 0 → contents_of (settings_from (flags_of s) (held_in s)) j ≡ held_in s j)
      (read_held (flags_of s) (held_in s)) k lo hi (body_of s k)
      (held-own s x k (numbered k lo hi) ∙ holds-some k (body_of s k) (named_some s x k lo hi n))

  -- one that isn't named has no bytes
  unnamed-none : is_named s k ≡ false → body_of s k ≡ []
  unnamed-none n = go (body_of s k) (sym (of_number (λ j. is_named s j ≡ present (body_of s j)) (named-present s x) k lo hi) ∙ n)
    where
      go : (b : List ℕ) → present b ≡ false → b ≡ []
      go [] e = refl
      go (c ∷ b) e = cc

-- ---- Every accepted command that makes the first into the second

module _ (a b : Settings) (s : List ℕ) (x : Accepted s) (makes : apply_to a s ≡ b) where
  -- sets each flag that differs
  pub sets-flag : length a.flags ≡ 7 → (i : ℕ) → i < 7 → flag_differs a b i ≡ true → sets (flag_of s i) ≡ true
  sets-flag l i h d =
      by_test (eqb (flag_of s i) 57)
      (λ (n : eqb (flag_of s i) 57 ≡ true).
      absurd ((flag-differs a b i).0 d (sym (rw n at (flag-after a s i x l h)) ∙ ap (λ (g : Settings). get_or g.flags i 0) makes)))
      (λ (n : eqb (flag_of s i) 57 ≡ false). rw n)

  after : (k : ℕ) → 2 ≤ k → k ≤ 9 → contents_of b k ≡ cond (is_named s k) (held_in s k) (contents_of a k)
  after k lo hi =
      ap (λ (g : Settings). contents_of g k) (sym makes)
      ∙ of_number (λ j. contents_of (apply_to a s) j ≡ cond (is_named s j) (held_in s j) (contents_of a j)) (section-after a s x) k lo hi

  -- and names each section that does
  pub names-section : (k : ℕ) → 2 ≤ k → k ≤ 9 → section_differs a b k ≡ true → is_named s k ≡ true
  names-section k lo hi d =
      by_test (is_named s k) (λ y. y)
      (λ (n : is_named s k ≡ false). absurd ((section-differs a b k).0 d (sym (rw n at (after k lo hi)))))

  -- so it sets no fewer
  pub sets-fewest : length a.flags ≡ 7 → length (differing a b) ≤ length (those (set_by s) items)
  unfolding differing
  sets-fewest l =
      those_fewer (by_item (flag_differs a b) (section_differs a b)) (set_by s) items
      (each_item (λ j. by_item (flag_differs a b) (section_differs a b) j ≡ true → set_by s j ≡ true)
      (λ i h d.
      by_flag_lem (λ i. sets (flag_of s i)) (is_named s) i h ∙ sets-flag l i h (sym (by_flag_lem (flag_differs a b) (section_differs a b) i h) ∙ d))
      (λ k lo hi d.
      by_section (λ i. sets (flag_of s i)) (is_named s) k
      ∙ names-section k lo hi (sym (by_section (flag_differs a b) (section_differs a b) k) ∙ d)))

  -- what it sets is what the second has
  set_value : length a.flags ≡ 7 → (i : ℕ) → i < 7 → sets (flag_of s i) ≡ true → flag_of s i ≡ 48 + get_or b.flags i 0
  set_value l i h t =
      let e = rw (not-true (eqb (flag_of s i) 57) t) at (flag-after a s i x l h) in
      let v : get_or b.flags i 0 ≡ flag_of s i - 48 = ap (λ (g : Settings). get_or g.flags i 0) (sym makes) ∙ e in
      omega (arith, v, flag-least (flag_of s i) (flag-byte s x i h))

  named_value : (k : ℕ) → 2 ≤ k → k ≤ 9 → is_named s k ≡ true → held_in s k ≡ contents_of b k
  named_value k lo hi n =
      let e : cond (is_named s k) (held_in s k) (contents_of a k) ≡ held_in s k = rw n in
      sym (after k lo hi ∙ e)

-- two such commands that set the same and ask for the same downlinks are the same bytes
module _ (a b : Settings) (s t : List ℕ) (x : Accepted s) (y : Accepted t) (first : apply_to a s ≡ b) (second : apply_to a t ≡ b) (l : length a.flags ≡ 7) where
  abbrev SameSet : Type 0
  SameSet = (i : ℕ) → i < 7 → sets (flag_of s i) ≡ sets (flag_of t i)

  abbrev SameNamed : Type 0
  SameNamed = (k : ℕ) → 2 ≤ k → k ≤ 9 → is_named s k ≡ is_named t k

  flag-bytes : SameSet → (i : ℕ) → i < 7 → flag_of s i ≡ flag_of t i
  flag-bytes f i h =
      by_test (sets (flag_of s i))
      (λ (e : sets (flag_of s i) ≡ true).
      set_value a b s x first l i h e ∙ sym (set_value a b t y second l i h (sym (f i h) ∙ e)))
      (λ (e : sets (flag_of s i) ≡ false).
      eqb-true (flag_of s i) 57 (not-false (eqb (flag_of s i) 57) e)
      ∙ sym (eqb-true (flag_of t i) 57 (not-false (eqb (flag_of t i) 57) (sym (f i h) ∙ e))))

  section-bytes : SameNamed → (k : ℕ) → 2 ≤ k → k ≤ 9 → body_of s k ≡ body_of t k
  section-bytes n k lo hi =
      by_test (is_named s k)
      (λ (e : is_named s k ≡ true).
      let d : is_named t k ≡ true = sym (n k lo hi) ∙ e in
      held_bytes s t x y k lo hi e d (named_value a b s x first k lo hi e ∙ sym (named_value a b t y second k lo hi d)))
      (λ (e : is_named s k ≡ false). unnamed-none s x k lo hi e ∙ sym (unnamed-none t y k lo hi (sym (n k lo hi) ∙ e)))

  pub same_text : SameSet → SameNamed → get_or s 12 0 ≡ get_or t 12 0 → s ≡ t
  same_text f n d =
      spelt s x
      ∙ text-alike (parts_of s) (parts_of t)
      (record {
        flags =
            same-seven (part 5 7 s) (part 5 7 t) (passes-length flag_tests (part 5 7 s) (sound s x).flags) (passes-length flag_tests (part 5 7 t) (sound t y).flags)
            (λ i h. part-byte 7 s 5 i h ∙ flag-bytes f i h ∙ sym (part-byte 7 t 5 i h));
        downlink = d;
        sections = each_number (λ k. body_of s k ≡ body_of t k) (section-bytes n);
      })
      ∙ sym (spelt t y)

-- ---- The command that changes nothing

no-change-sets : (i : ℕ) → i < 7 → sets (flag_of no_change_text i) ≡ false
unfolding no_change_text
no-change-sets i h = rw (agree (flag_of no_change_text) (λ (i : ℕ). 57) 7 refl i h)

no-change-names : (k : ℕ) → 2 ≤ k → k ≤ 9 → is_named no_change_text k ≡ false
unfolding no_change_text
no-change-names k lo hi =
    let there : 13 + (k - 2) ≡ 11 + k = omega arith in
    let byte : get_or no_change_text (11 + k) 0 ≡ 48 =
    ap (λ (n : ℕ). get_or no_change_text n 0) (sym there) ∙ agree (λ (i : ℕ). get_or no_change_text (13 + i) 0) (λ (i : ℕ). 48) 8 refl (k - 2) (omega arith) in
    rw byte (ne_eqb 48 (48 + k) (λ (e : 48 ≡ 48 + k). omega arith))

no-change-digit : get_or no_change_text 12 0 ≡ 48
unfolding no_change_text
no-change-digit = refl

no-change-acts : (x : Settings) → apply_to x no_change_text ≡ x
unfolding no_change_text
no-change-acts x = applies_nothing x no_change_text nines (each_number (λ k. is_named no_change_text k ≡ false) no-change-names)
  where
    nines : flags_of no_change_text ≡ replicate 7 9
    nines = refl

-- ---- The command that is written

-- a configuration's record as C holds it, its arrays as long as they are declared
abbrev pub holding : Settings → Command
holding x = record { settings = x; downlink = 0; named = replicate 8 0; spare = 0 }

regions-full : (t : Bool) (x : Regions) → length x.reporting.regions ≡ 16 → length x.inhibiting.regions ≡ 16
    → let y = regions_from (cond t (regions_hold x) []) in (length y.reporting.regions ≡ 16) × (length y.inhibiting.regions ≡ 16)
unfolding regions_from
regions-full true x p q = (p, q)
regions-full false x p q = (refl, refl)

abbrev PhasesFull : ByPhase → Type 0
PhasesFull x = (length x.ascent.names ≡ 80) × (length x.descent.names ≡ 80)

airports-full : (t : Bool) (x : Airports) → PhasesFull x.selected → PhasesFull x.inhibited
    → let y = airports_from (cond t (airports_hold x) []) in PhasesFull y.selected × PhasesFull y.inhibited
unfolding airports_from
airports-full true x p q = (p, q)
airports-full false x p q = ((refl, refl), (refl, refl))

module _ (a b : Settings) where
  abbrev pub text : List ℕ
  text = command_text (between a b)

  -- its bytes: the flags, the downlink digit, the indicators
  flag-of : (i : ℕ) → i < 7 → flag_of text i ≡ 48 + cond (flag_differs a b i) (get_or b.flags i 0) 9
  unfolding command_text between settings_from
  flag-of i h = agree (λ i. flag_of text i) (λ i. 48 + cond (flag_differs a b i) (get_or b.flags i 0) 9) 7 refl i h

  pub text-digit : get_or text 12 0 ≡ 48
  unfolding command_text between settings_from
  text-digit = refl

  mark_of : (k : ℕ) → 2 ≤ k → k ≤ 9 → get_or text (11 + k) 0 ≡ 48 + cond (section_differs a b k) k 0
  unfolding command_text between settings_from
  mark_of k lo hi =
      let back : k - 2 + 2 ≡ k = omega arith in
      let there : 13 + (k - 2) ≡ 11 + k = omega arith in
      ap (λ (n : ℕ). get_or text n 0) (sym there)
      ∙ agree (λ (i : ℕ). get_or text (13 + i) 0) (λ (i : ℕ). 48 + cond (section_differs a b (i + 2)) (i + 2) 0) 8 refl (k - 2) (omega arith)
      ∙ ap (λ (n : ℕ). 48 + cond (section_differs a b n) n 0) back

  -- it names exactly the sections that differ
  pub text-names : (k : ℕ) → 2 ≤ k → k ≤ 9 → is_named text k ≡ section_differs a b k
  text-names k lo hi = rw (mark_of k lo hi) (go (section_differs a b k))
    where
      go : (t : Bool) → eqb (48 + cond t k 0) (48 + k) ≡ t
      go true = eq-eqb (48 + k) (48 + k) refl
      go false = ne_eqb 48 (48 + k) (λ (e : 48 ≡ 48 + k). omega arith)

  module _ (ok : valid b ≡ true) where
    flag-low : (i : ℕ) → get_or b.flags i 0 ≤ 1
    unfolding valid
    flag-low i = valid-flag b.flags (both_left (flags_valid b.flags) (sections_valid numbers b) ok) i

    -- and sets exactly the flags that do
    pub text-sets : (i : ℕ) → i < 7 → sets (flag_of text i) ≡ flag_differs a b i
    text-sets i h = rw (flag-of i h) (go (flag_differs a b i))
      where
        go : (t : Bool) → not (eqb (48 + cond t (get_or b.flags i 0) 9) 57) ≡ t
        go true = rw (ne_eqb (48 + get_or b.flags i 0) 57 (λ (e : 48 + get_or b.flags i 0 ≡ 57). omega (arith, flag-low i)))
        go false = refl

    module _ (full : Filled (holding b)) where
      between-full : Filled (between a b)
      unfolding between settings_from contents_of
      between-full =
          let two = regions-full (section_differs a b 2) b.regions full.reporting full.inhibiting in
          let three = airports-full (section_differs a b 3) b.airports full.selected full.inhibited in
          record {
            flags = refl;
            named = refl;
            reporting = two.0;
            inhibiting = two.1;
            selected = three.0;
            inhibited = three.1;
          }

      text-back : (check_command text ≡ (Ok tt)) × (command_of text ≡ between a b)
      text-back = write_read (between a b) between-full (between-allowed a b ok)

      -- it is accepted
      pub text-fine : check_command text ≡ (Ok tt)
      text-fine = text-back.0

      -- and no longer than the longest
      pub text-short : length text ≤ longest
      text-short = written-short (between a b) between-full (between-allowed a b ok)

      flags-to : flags_of text ≡ flags_to a b
      unfolding command_of between settings_from
      flags-to = flags-read (command_of text) (between a b) text-back.1
        where
          flags-read : (c d : Command) → c ≡ d → c.settings.flags ≡ d.settings.flags
          flags-read c d e = rw e

      new_flag_lem : (i : ℕ) → i < 7 → new_flag (get_or a.flags i 0) (get_or (flags_to a b) i 0) ≡ get_or b.flags i 0
      new_flag_lem i h =
          let low = flag-low i in
          rw (flag_at (λ (i : ℕ). cond (flag_differs a b i) (get_or b.flags i 0) 9) i h)
          (by_test (flag_differs a b i)
          (λ (d : flag_differs a b i ≡ true). rw (d, ne_eqb (get_or b.flags i 0) 9 (λ (e : get_or b.flags i 0 ≡ 9). omega arith)))
          (λ (d : flag_differs a b i ≡ false). rw d (flag_same a b i d)))

      new_flags_lem : length a.flags ≡ 7 → new_flags a.flags (flags_of text) ≡ b.flags
      new_flags_lem l =
          ap (new_flags a.flags) flags-to
          ∙ new_seven a.flags (flags_to a b) l refl
          ∙ values_same (λ i. new_flag (get_or a.flags i 0) (get_or (flags_to a b) i 0)) (λ i. get_or b.flags i 0) new_flag_lem
          ∙ sym (seven b.flags full.flags)

      -- what it names holds what the second has
      held_to_lem : (k : ℕ) → 2 ≤ k → k ≤ 9 → cond (is_named text k) (held_in text k) (contents_of a k) ≡ contents_of b k
      held_to_lem k lo hi =
          by_test (section_differs a b k)
          (λ (d : section_differs a b k ≡ true).
          let n : is_named text k ≡ true = text-names k lo hi ∙ d in
          let e : cond (is_named text k) (held_in text k) (contents_of a k) ≡ held_in text k = rw n in
          e
          ∙ sym (named-held text (accepted text text-fine) k lo hi n)
          ∙ ap (λ (c : Command). contents_of c.settings k) text-back.1
          ∙ of_number (λ j. section_differs a b j ≡ true → contents_of (between a b).settings j ≡ contents_of b j) (held_back a b) k lo hi d)
          (λ (d : section_differs a b k ≡ false).
          let n : is_named text k ≡ false = text-names k lo hi ∙ d in
          let e : cond (is_named text k) (held_in text k) (contents_of a k) ≡ contents_of a k = rw n in
          e ∙ section-same a b k d)

      -- it makes the first into the second
      pub makes : length a.flags ≡ 7 → apply_to a text ≡ b
      unfolding apply_to
      makes l =
          settings-same (new_flags a.flags (flags_of text)) (λ k. cond (is_named text k) (held_in text k) (contents_of a k)) (contents_of b)
          (each_number (λ k. cond (is_named text k) (held_in text k) (contents_of a k) ≡ contents_of b k) held_to_lem)
          ∙ ap (λ (fs : List ℕ). settings_from fs (contents_of b)) (new_flags_lem l)
          ∙ settings-own b

      -- ---- Equal configurations

      module _ (l : length a.flags ≡ 7) where
        abbrev differs : ℕ → Bool
        differs = by_item (flag_differs a b) (section_differs a b)

        none_differ : differing a b ≡ [] → a ≡ b
        unfolding differing
        none_differ e =
            let none = none_pass differs items e in
            let flag : (i : ℕ) → i < 7 → get_or a.flags i 0 ≡ get_or b.flags i 0 =
            λ i h.
            flag_same a b i
            (sym (by_flag_lem (flag_differs a b) (section_differs a b) i h) ∙ each_of (λ j. differs j ≡ false) items none (i + 1) (flag_item i h)) in
            let section : (k : ℕ) → 2 ≤ k → k ≤ 9 → contents_of a k ≡ contents_of b k =
            λ k lo hi.
            section-same a b k
            (sym (by_section (flag_differs a b) (section_differs a b) k) ∙ each_of (λ j. differs j ≡ false) items none (k + 10) (section_item k lo hi)) in
            sym (settings-own a)
            ∙ settings-same a.flags (contents_of a) (contents_of b) (each_number (λ k. contents_of a k ≡ contents_of b k) section)
            ∙ ap (λ (fs : List ℕ). settings_from fs (contents_of b)) (same-seven a.flags b.flags l full.flags flag)
            ∙ settings-own b

        not_flag : a ≡ b → (i : ℕ) → flag_differs a b i ≡ false
        not_flag e i = rw (eq-eqb (get_or a.flags i 0) (get_or b.flags i 0) (ap (λ (g : Settings). get_or g.flags i 0) e))

        not-section : a ≡ b → (k : ℕ) → section_differs a b k ≡ false
        not-section e k = rw ((same_contents_lem (contents_of a k) (contents_of b k)).1 (ap (λ (g : Settings). contents_of g k) e))

        equal-none : a ≡ b → differing a b ≡ []
        unfolding differing
        equal-none e =
            those-none differs items
            (each_item (λ j. differs j ≡ false)
            (λ i h. by_flag_lem (flag_differs a b) (section_differs a b) i h ∙ not_flag e i)
            (λ k lo hi. by_section (flag_differs a b) (section_differs a b) k ∙ not-section e k))

        -- nothing is listed just where the two are equal
        pub none_equal : (differing a b ≡ []) ↔ (a ≡ b)
        none_equal = (none_differ, equal-none)

        -- and just there the command is the one that changes nothing
        pub none-no-change : (differing a b ≡ []) ↔ (text ≡ no_change_text)
        none-no-change = (
          λ e.
              let same = none_differ e in
              same_text a b text no_change_text (accepted text text-fine) (accepted no_change_text no-change-fine) (makes l) (no-change-acts a ∙ same) l
              (λ i h. text-sets i h ∙ not_flag same i ∙ sym (no-change-sets i h))
              (λ k lo hi. text-names k lo hi ∙ not-section same k ∙ sym (no-change-names k lo hi))
              (text-digit ∙ sym no-change-digit),
          λ e. equal-none (sym (no-change-acts a) ∙ ap (apply_to a) (sym e) ∙ makes l),
        )

-- the length that is answered is no more than the longest command's
pub answer-short : (a b : Settings) (room : ℕ) → Filled (holding b) → (d : Differing) → difference a b room ≡ Ok d → d.length ≤ longest
unfolding difference
answer-short a b room full d e =
    by_test (valid a && valid b)
    (λ ok.
    by_test (leb (length (text a b)) room)
    (λ t.
    let same : ◌≡◌ {A = Result Differing Code} (Ok (answered (differing a b) (length (text a b)))) (Ok d) = rw (ok, t) at e in
    let is : answered (differing a b) (length (text a b)) ≡ d = cc in
    rw (← is) (text-short a b (both_right (valid a) (valid b) ok) full))
    (λ t. let z : ◌≡◌ {A = Result Differing Code} (Err NoRoom) (Ok d) = rw (ok, t) at e in cc))
    (λ no. let z : ◌≡◌ {A = Result Differing Code} (Err SettingsInvalid) (Ok d) = rw no at e in cc)
