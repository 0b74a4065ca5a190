-- Demand 3 on the bytes of commands: two accepted commands join into one accepted command that acts as the first and then the
-- second and asks for the larger downlink; grouping never alters a byte; the no-change command alters nothing on either side.
use mathlib.Core.Path.{◌≡◌, refl, sym, ap, ◌∙◌}
use mathlib.Core.List.{List, []}
use Prim.Native.Nat.{ℕ, ◌≤◌, max}
use native.Mathlib.Omega.{arith}
use lib.Dec.{leb}
use lib.ListN.{length, get_or, replicate}
use borrow.Author.Tests.{leb-true}
use Rattle.text.specs.Parts.{part}
use Rattle.text.specs.Equal.{same_bytes}
use Rattle.text.proofs.Cases.{both_left}
use Rattle.field.specs.Fields.{check_delimiter}
use Rattle.section.specs.Layout.{layout_of, table_of, items_most, numbers}
use Rattle.settings.specs.Settings.{contents_of, settings_from}
use Rattle.settings.specs.declared.Settings.{Settings}
use Rattle.command.specs.Text.{check_each, check_awr04, check_head, check_from, sections_most, longest, check_command}
use Rattle.command.specs.Record.{flags_of, downlink_of}
use Rattle.command.proofs.Each.{each_all, each_with}
use Rattle.command.proofs.Head.{passes-length}
use Rattle.command.proofs.Parts.{Parts, body_from, body_of, parts_of, flag_tests}
use Rattle.command.proofs.Accepted.{Accepted, accepted, accepts, sound, spelt}
use Rattle.config.specs.Config.{new_flags, apply_to}
use Rattle.config.proofs.Apply.{set_by, settings-same, apply-own, section-own, flags-own, applies_nothing}
use Rattle.join.specs.Join.{choose, join_text, no_change_text}
use Rattle.join.proofs.Places.{choose_assoc, choose-none, none-choose, choose_self, new_flags_lem, later, later_assoc, none-later, later_self, set-later}
use Rattle.join.proofs.Parts.{Alike, text-alike, join_parts, join-alike, join-text, join-accepted, join-parts}
use Rattle.std.specs.Prelude.{Ok}

module _ (a b : List ℕ) (x : check_command a ≡ (Ok tt)) (y : check_command b ≡ (Ok tt)) where
  abbrev ok : Accepted (join_text a b)
  ok = join-accepted a b (accepted a x) (accepted b y)

  -- two accepted commands join into one accepted command
  pub join-fine : check_command (join_text a b) ≡ (Ok tt)
  join-fine = accepts (join_text a b) ok

  -- in no more bytes than the longest command
  pub join-short : length (join_text a b) ≤ longest
  join-short = ok.short

  -- it asks for the larger of their two downlinks
  pub join-downlink : downlink_of (join_text a b) ≡ max (downlink_of a) (downlink_of b)
  join-downlink = rw (join-parts a b (accepted a x) (accepted b y)).downlink (omega arith)

  flags_joined : (os : List ℕ) → new_flags os (flags_of (join_text a b)) ≡ new_flags (new_flags os (flags_of a)) (flags_of b)
  flags_joined os =
      let m = passes-length flag_tests (part 5 7 a) (sound a (accepted a x)).flags in
      let n = passes-length flag_tests (part 5 7 b) (sound b (accepted b y)).flags in
      rw (join-parts a b (accepted a x) (accepted b y)).flags (new_flags_lem os (part 5 7 a) (part 5 7 b) (m ∙ sym n))

  -- and acts on every configuration as the first and then the second
  pub join-acts : (g : Settings) → apply_to g (join_text a b) ≡ apply_to (apply_to g a) b
  join-acts g =
      let A = accepted a x in
      let B = accepted b y in
      let ab = join_text a b in
      let h : Settings = apply_to g a in
      apply-own g ab ok
      ∙ settings-same (new_flags g.flags (flags_of ab)) (λ k. set_by k (body_of ab k) (contents_of g k)) (λ k. set_by k (body_of b k) (contents_of h k))
      (each_with (λ k. body_of ab k ≡ later (body_of a k) (body_of b k)) (λ k. contents_of h k ≡ set_by k (body_of a k) (contents_of g k))
      (λ k. set_by k (body_of ab k) (contents_of g k) ≡ set_by k (body_of b k) (contents_of h k))
      (λ k e f. rw (e, f) (set-later k (body_of a k) (body_of b k) (contents_of g k))) numbers
      (join-parts a b A B).sections (section-own g a A))
      ∙ ap (λ (fs : List ℕ). settings_from fs (λ k. set_by k (body_of b k) (contents_of h k)))
      (flags_joined g.flags ∙ ap (λ (os : List ℕ). new_flags os (flags_of b)) (sym (flags-own g a)))
      ∙ sym (apply-own h b B)

-- ---- Grouping

parts_assoc : (p q r : Parts) → Alike (join_parts (join_parts p q) r) (join_parts p (join_parts q r))
parts_assoc p q r =
    record {
      flags = choose_assoc 57 p.flags q.flags r.flags;
      downlink = omega arith;
      sections =
          each_all (λ k. later (later (p.sections k) (q.sections k)) (r.sections k) ≡ later (p.sections k) (later (q.sections k) (r.sections k)))
          (λ k. later_assoc (p.sections k) (q.sections k) (r.sections k)) numbers;
    }

alike_self : (p : Parts) → Alike p p
alike_self p = record { flags = refl; downlink = refl; sections = each_all (λ k. p.sections k ≡ p.sections k) (λ k. refl) numbers }

-- grouping of three never alters a byte
pub join_groups : (a b c : List ℕ) → check_command a ≡ (Ok tt) → check_command b ≡ (Ok tt) → check_command c ≡ (Ok tt)
    → join_text (join_text a b) c ≡ join_text a (join_text b c)
join_groups a b c x y z =
    let A = accepted a x in
    let B = accepted b y in
    let C = accepted c z in
    let p = parts_of a in
    let q = parts_of b in
    let r = parts_of c in
    join-text (join_text a b) c (join-accepted a b A B) C
    ∙ text-alike (join_parts (parts_of (join_text a b)) r) (join_parts (join_parts p q) r)
    (join-alike (parts_of (join_text a b)) (join_parts p q) r r (join-parts a b A B) (alike_self r))
    ∙ text-alike (join_parts (join_parts p q) r) (join_parts p (join_parts q r)) (parts_assoc p q r)
    ∙ sym
    (join-text a (join_text b c) A (join-accepted b c B C)
    ∙ text-alike (join_parts p (parts_of (join_text b c))) (join_parts p (join_parts q r))
    (join-alike p p (parts_of (join_text b c)) (join_parts q r) (alike_self p) (join-parts b c B C)))

-- ---- The no-change command

-- it is accepted
pub no-change-fine : check_command no_change_text ≡ (Ok tt)
unfolding no_change_text check_command sections_most layout_of table_of items_most check_head check_awr04 same_bytes check_each check_delimiter check_from
no-change-fine = refl

no-change-accepted : Accepted no_change_text
no-change-accepted = accepted no_change_text no-change-fine

no-change-flags : part 5 7 no_change_text ≡ replicate 7 57
unfolding no_change_text
no-change-flags = refl

no-change-digit : get_or no_change_text 12 0 ≡ 48
unfolding no_change_text
no-change-digit = refl

no-change-bodies : (k : ℕ) → body_of no_change_text k ≡ []
unfolding no_change_text body_from
no-change-bodies k = refl

module _ (a : List ℕ) (x : check_command a ≡ (Ok tt)) where
  abbrev A : Accepted a
  A = accepted a x

  seven : length (part 5 7 a) ≡ 7
  seven = passes-length flag_tests (part 5 7 a) (sound a A).flags

  digit : 48 ≤ get_or a 12 0
  digit = leb-true 48 (get_or a 12 0) (both_left (leb 48 (get_or a 12 0)) (leb (get_or a 12 0) 50) (sound a A).downlink)

  -- joined on the left it alters nothing
  pub no-change-join : join_text no_change_text a ≡ a
  no-change-join =
      join-text no_change_text a no-change-accepted A
      ∙ text-alike (join_parts (parts_of no_change_text) (parts_of a)) (parts_of a)
      (record {
        flags =
            ap (λ (fs : List ℕ). choose 57 fs (part 5 7 a)) no-change-flags
            ∙ ap (λ (n : ℕ). choose 57 (replicate n 57) (part 5 7 a)) (sym seven)
            ∙ none-choose 57 (part 5 7 a);
        downlink = omega (arith, no-change-digit, digit);
        sections =
            each_all (λ k. later (body_of no_change_text k) (body_of a k) ≡ body_of a k)
            (λ k. ap (λ (b : List ℕ). later b (body_of a k)) (no-change-bodies k) ∙ none-later (body_of a k)) numbers;
      })
      ∙ sym (spelt a A)

  -- nor on the right
  pub join-no-change : join_text a no_change_text ≡ a
  join-no-change =
      join-text a no_change_text A no-change-accepted
      ∙ text-alike (join_parts (parts_of a) (parts_of no_change_text)) (parts_of a)
      (record {
        flags =
            ap (λ (fs : List ℕ). choose 57 (part 5 7 a) fs) no-change-flags
            ∙ ap (λ (n : ℕ). choose 57 (part 5 7 a) (replicate n 57)) (sym seven)
            ∙ choose-none 57 (part 5 7 a);
        downlink = omega (arith, no-change-digit, digit);
        sections =
            each_all (λ k. later (body_of a k) (body_of no_change_text k) ≡ body_of a k)
            (λ k. ap (λ (b : List ℕ). later (body_of a k) b) (no-change-bodies k)) numbers;
      })
      ∙ sym (spelt a A)

  -- a command joined with itself is that command
  pub join-same : join_text a a ≡ a
  join-same =
      join-text a a A A
      ∙ text-alike (join_parts (parts_of a) (parts_of a)) (parts_of a)
      (record {
        flags = choose_self 57 (part 5 7 a);
        downlink = omega arith;
        sections = each_all (λ k. later (body_of a k) (body_of a k) ≡ body_of a k) (λ k. later_self (body_of a k)) numbers;
      })
      ∙ sym (spelt a A)

-- applied, it changes nothing
pub no-change_applies : (g : Settings) → apply_to g no_change_text ≡ g
unfolding no_change_text
no-change_applies g = applies_nothing g no_change_text refl (refl, (refl, (refl, (refl, (refl, (refl, (refl, (refl, tt))))))))
