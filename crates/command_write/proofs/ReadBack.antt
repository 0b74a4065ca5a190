-- The command read out of an accepted text: it is allowed, and it is written back as the same bytes.
use mathlib.Core.Path.{◌≡◌, refl, sym, ap, ap₂, ◌∙◌}
use mathlib.Core.Bool.{Bool, true, false, ◌&&◌, not}
use mathlib.Core.List.{List, [], ◌∷◌, ◌++◌, map}
use Prim.Native.Nat.{ℕ, zero, suc, ◌+◌, ◌-◌, ◌≤◌}
use native.Mathlib.Omega.{arith}
use lib.Dec.{leb, eqb}
use lib.ListN.{length, get_or}
use borrow.Author.Tests.{eqb-true, leb-true, le-leb, eq-eqb, ne_eqb}
use Rattle.text.specs.Parts.{part}
use Rattle.text.proofs.Cases.{by_test, by_eq, both_left, both_right}
use Rattle.lists.specs.Lists.{all_zero, regions_zero}
use Rattle.section.specs.Layout.{layout_of, table_of, is_empty, numbers}
use Rattle.section.specs.Contents.{Content, contents_at, contents_allowed}
use Rattle.settings.specs.Settings.{contents_of, fixed_hold, settings_from, regions_from, airports_from, enroute_from, ascent_from, hours_from}
use Rattle.section.proofs.Allowed.{contents_fine}
use Rattle.section.proofs.Own.{own-some}
use Rattle.section.proofs.RoundTrip.{own-written}
use Rattle.command.specs.Text.{is_flag, is_indicator, is_named}
use Rattle.command.specs.Record.{digits_of, flags_of, command_of, flag_allowed, flags_allowed, named_allowed, names, section_text, sections_allowed, command_allowed, digit_bytes, sections_text, command_text}
use Rattle.settings.specs.Valid.{are_zero}
use Rattle.command.specs.Sections.{held_in}
use Rattle.settings.specs.Inner.{text_if}
use Rattle.command.specs.declared.Command.{Command}
use Rattle.command.proofs.Allowed.{indicated}
use Rattle.command.proofs.Each.{Each, Rising, each_with}
use Rattle.command.proofs.Head.{passes}
use Rattle.command.proofs.Parts.{present, bodies, text_of, body_of, Place, Absent, Present, holds}
use Rattle.command.proofs.Marks.{byte_of, indicators}
use Rattle.command.proofs.Accepted.{Accepted, rising, sound, marked, spelt, indicators_are, named-present, held-each, downlink-byte}
use Rattle.command_write.proofs.Writing.{text-first}
use Rattle.std.specs.Prelude.{Ok}

-- ---- Digits

flag-low : (b : ℕ) → is_flag b ≡ true → 48 ≤ b
flag-low b e =
    by_eq b 48 (λ (h : b ≡ 48). omega arith)
    (λ (h : b ≡ 48 → ⊥).
    by_eq b 49 (λ (g : b ≡ 49). omega arith)
    (λ (g : b ≡ 49 → ⊥). let z : b ≡ 57 = eqb-true b 57 (rw (ne_eqb b 48 h, ne_eqb b 49 g) at e) in omega arith))

flag-fine : (b : ℕ) → is_flag b ≡ true → flag_allowed (b - 48) ≡ true
flag-fine b e =
    by_eq b 48 (λ (h : b ≡ 48). rw h)
    (λ (h : b ≡ 48 → ⊥).
    by_eq b 49 (λ (g : b ≡ 49). rw g)
    (λ (g : b ≡ 49 → ⊥). let z : b ≡ 57 = eqb-true b 57 (rw (ne_eqb b 48 h, ne_eqb b 49 g) at e) in rw z))

-- n flags
abbrev pub flags_n : ℕ → List (ℕ → Bool)
flags_n zero = []
flags_n (suc n) = is_flag ∷ flags_n n

-- flags are digits, allowed, and written back
flags-back : (n place : ℕ) (bs : List ℕ) → passes (flags_n n) bs ≡ true → (digit_bytes (digits_of bs) ≡ bs) × (flags_allowed place (digits_of bs) ≡ (Ok tt))
unfolding passes flags_allowed
flags-back zero place [] e = (refl, refl)
flags-back zero place (b ∷ bs) e = let z : ◌≡◌ {A = ℕ} 0 1 = cc in absurd (omega arith)
flags-back (suc n) place [] e = let z : ◌≡◌ {A = ℕ} 0 1 = cc in absurd (omega arith)
flags-back (suc n) place (b ∷ bs) e =
    let f = both_left (is_flag b) (passes (flags_n n) bs) e in
    let r = flags-back n (place + 1) bs (both_right (is_flag b) (passes (flags_n n) bs) e) in
    let low = flag-low b f in
    let same : 48 + (b - 48) ≡ b = omega arith in
    (ap₂ ◌∷◌ same r.0, rw (flag-fine b f) r.1)

-- an indicator
module _ (k b : ℕ) (some : 1 ≤ k) (i : is_indicator k b ≡ true) where
  is_either : {P : Type 0} → (b ≡ 48 → P) → (b ≡ 48 + k → not (is_empty (layout_of k)) ≡ true → P) → P
  is_either f g =
      by_test (eqb b 48)
      (λ (h : eqb b 48 ≡ true). f (eqb-true b 48 h))
      (λ (h : eqb b 48 ≡ false).
      let j : (not (is_empty (layout_of k)) && eqb b (48 + k)) ≡ true = rw h at i in
      g (eqb-true b (48 + k) (both_right (not (is_empty (layout_of k))) (eqb b (48 + k)) j)) (both_left (not (is_empty (layout_of k))) (eqb b (48 + k)) j))

  -- a digit
  pub indicator-low : 48 ≤ b
  indicator-low = is_either (λ (h : b ≡ 48). omega arith) (λ (h : b ≡ 48 + k) t. omega arith)

  -- its value is allowed
  pub indicator-fine : indicated k (b - 48) ≡ true
  indicator-fine =
      is_either (λ (h : b ≡ 48). rw h)
      (λ (h : b ≡ 48 + k) (t : not (is_empty (layout_of k)) ≡ true).
      let v : b - 48 ≡ k = omega arith in
      rw (v, t, eq-eqb k k refl, ne_eqb k 0 (λ (z : k ≡ 0). omega arith)))

  -- and names the section that it named
  pub indicator-names : eqb (b - 48) k ≡ eqb b (48 + k)
  indicator-names =
      is_either (λ (h : b ≡ 48). rw (h, ne_eqb 0 k (λ (z : 0 ≡ k). omega arith), ne_eqb 48 (48 + k) (λ (z : 48 ≡ 48 + k). omega arith)))
      (λ (h : b ≡ 48 + k) t.
      let v : b - 48 ≡ k = omega arith in
      rw (v, h, eq-eqb k k refl, eq-eqb (48 + k) (48 + k) refl))

-- the indicators are allowed and written back
named_back : (ks : List ℕ) (lo place : ℕ) (g : ℕ → ℕ) → 1 ≤ lo → Rising lo ks → Each (λ k. is_indicator k (g k) ≡ true) ks
    → (digit_bytes (digits_of (map g ks)) ≡ map g ks) × (named_allowed ks place (digits_of (map g ks)) ≡ (Ok tt))
unfolding named_allowed
named_back [] lo place g some r i = (refl, refl)
named_back (k ∷ ks) lo place g some r i =
    let h = r.0 in
    let rest = named_back ks (suc k) (place + 1) g (omega arith) r.1 i.1 in
    let low = indicator-low k (g k) (omega arith) i.0 in
    let same : 48 + (g k - 48) ≡ g k = omega arith in
    (ap₂ ◌∷◌ same rest.0, rw (indicator-fine k (g k) (omega arith) i.0) rest.1)

-- ---- Sections

module _ (fs : List ℕ) (h : ℕ → List Content) where
  -- what the record holds of a section that was read is what was read
  pub read_held : Each (λ k. (b : List ℕ) → h k ≡ contents_at (layout_of k) b 0 → contents_of (settings_from fs h) k ≡ h k) numbers
  unfolding contents_of fixed_hold settings_from regions_from airports_from enroute_from ascent_from hours_from layout_of table_of contents_at
  read_held =
      (λ b e. rw e, (λ b e. rw e, (λ b e. rw e, (λ b e. rw e, (λ b e. rw e, (λ b e. rw e, (λ b e. rw e, (λ b e. rw e, tt))))))))

  -- and of one that wasn't named nothing: all zero
  pub unread_zero : Each (λ k. h k ≡ [] → are_zero (contents_of (settings_from fs h) k) ≡ true) numbers
  unfolding contents_of fixed_hold settings_from regions_from airports_from enroute_from ascent_from hours_from are_zero all_zero regions_zero
  unread_zero = (λ e. rw e, (λ e. rw e, (λ e. rw e, (λ e. rw e, (λ e. rw e, (λ e. rw e, (λ e. rw e, (λ e. rw e, tt))))))))

-- a section of a record that is fine: allowed where it is named, else zero
pub record Good (c : Command) (k : ℕ) : Type 0 where
  pub allowed : names c k ≡ true → (place : ℕ) → contents_allowed (layout_of k) place (contents_of c.settings k) ≡ (Ok tt)
  pub unused : names c k ≡ false → are_zero (contents_of c.settings k) ≡ true

-- sections that are fine are allowed
pub sections-fine : (ks : List ℕ) (place : ℕ) (c : Command) → Each (Good c) ks → sections_allowed ks place c ≡ (Ok tt)
unfolding sections_allowed
sections-fine [] place c g = refl
sections-fine (k ∷ ks) place c g =
    by_test (names c k)
    (λ (n : names c k ≡ true). rw (n, g.0.allowed n place) (sections-fine ks (place + length (section_text c k)) c g.1))
    (λ (n : names c k ≡ false). rw (n, g.0.unused n) (sections-fine ks place c g.1))

-- sections that have the bytes f are those bytes, one after the other
pub texts_are : (ks : List ℕ) (c : Command) (f : ℕ → List ℕ) → Each (λ k. text_if (names c k) k (contents_of c.settings k) ≡ f k) ks
    → sections_text ks c ≡ bodies f ks
unfolding sections_text bodies
texts_are [] c f e = refl
texts_are (k ∷ ks) c f e = text-first k ks c ∙ ap₂ ◌++◌ e.0 (texts_are ks c f e.1)

-- one section of the record that was read
section-back : (c : Command) (k : ℕ) (b : List ℕ) (cs : List Content) → Place k b → names c k ≡ present b → cs ≡ holds k b
    → ((y : List ℕ) → cs ≡ contents_at (layout_of k) y 0 → contents_of c.settings k ≡ cs)
    → (cs ≡ [] → are_zero (contents_of c.settings k) ≡ true)
    → (text_if (names c k) k (contents_of c.settings k) ≡ b) × Good c k
section-back c k b cs (Absent none) n e held unread =
    let off : names c k ≡ false = n ∙ ap present none in
    let nothing : cs ≡ [] = e ∙ ap (holds k) none in (
      rw (off, none),
      record { allowed = λ t. let z : ◌≡◌ {A = ℕ} 0 1 = cc in absurd (omega arith); unused = λ t. unread nothing },
    )
section-back c k [] cs (Present some own) n e held unread = absurd (omega (arith, own-some (layout_of k) [] own))
section-back c k (x ∷ b) cs (Present some own) n e held unread =
    let is : contents_of c.settings k ≡ contents_at (layout_of k) (x ∷ b) 0 = held (x ∷ b) e ∙ e in (
      rw (n, is) (own-written (layout_of k) (x ∷ b) own),
      record {
        allowed = λ t place. rw is (contents_fine (layout_of k) (x ∷ b) 0 (length (x ∷ b)) place own);
        unused = λ t. let z : ◌≡◌ {A = ℕ} 0 1 = cc in absurd (omega arith);
      },
    )

each_left : (P Q : ℕ → Type 0) (ks : List ℕ) → Each (λ k. P k × Q k) ks → Each P ks
each_left P Q [] e = tt
each_left P Q (k ∷ ks) e = (e.0.0, each_left P Q ks e.1)

each_right : (P Q : ℕ → Type 0) (ks : List ℕ) → Each (λ k. P k × Q k) ks → Each Q ks
each_right P Q [] e = tt
each_right P Q (k ∷ ks) e = (e.0.1, each_right P Q ks e.1)

-- ---- The whole command

module _ (s : List ℕ) (a : Accepted s) where
  abbrev c : Command
  c = command_of s

  long : 21 ≤ length s
  long = omega (arith, a.head.inside)

  low-at : (k : ℕ) → 1 ≤ k → is_indicator k (byte_of s k) ≡ true → eqb (byte_of s k - 48) k ≡ is_named s k
  low-at k some i = indicator-names k (byte_of s k) some i

  -- the record names the sections that the text names
  pub names_same : Each (λ k. names c k ≡ is_named s k) numbers
  unfolding command_of
  names_same =
      let i = indicators_are s a in
      rw (indicators s long) (
        low-at 2 (omega arith) i.0,
        (
          low-at 3 (omega arith) i.1.0,
          (
            low-at 4 (omega arith) i.1.1.0,
            (
              low-at 5 (omega arith) i.1.1.1.0,
              (
                low-at 6 (omega arith) i.1.1.1.1.0,
                (
                  low-at 7 (omega arith) i.1.1.1.1.1.0,
                  (low-at 8 (omega arith) i.1.1.1.1.1.1.0, (low-at 9 (omega arith) i.1.1.1.1.1.1.1.0, tt)),
                ),
              ),
            ),
          ),
        ),
      )

  -- each section is written back, and is fine
  pub sections-back : Each (λ k. (text_if (names c k) k (contents_of c.settings k) ≡ body_of s k) × Good c k) numbers
  unfolding command_of
  sections-back =
      let fs = flags_of s in
      let h = held_in s in
      each_with (λ k. Place k (body_of s k) × (h k ≡ holds k (body_of s k)))
      (λ k.
      (names c k ≡ present (body_of s k))
      × ((y : List ℕ) → h k ≡ contents_at (layout_of k) y 0 → contents_of (settings_from fs h) k ≡ h k)
      × (h k ≡ [] → are_zero (contents_of (settings_from fs h) k) ≡ true))
      (λ k. (text_if (names c k) k (contents_of c.settings k) ≡ body_of s k) × Good c k)
      (λ k p q. section-back c k (body_of s k) (h k) p.0 q.0 p.1 q.1 q.2)
      numbers
      (each_with (λ k. Place k (body_of s k)) (λ k. h k ≡ holds k (body_of s k)) (λ k. Place k (body_of s k) × (h k ≡ holds k (body_of s k))) (λ k p e. (p, e))
      numbers (sound s a).sections (held-each s a))
      (each_with (λ k. names c k ≡ present (body_of s k))
      (λ k. ((y : List ℕ) → h k ≡ contents_at (layout_of k) y 0 → contents_of (settings_from fs h) k ≡ h k)
      × (h k ≡ [] → are_zero (contents_of (settings_from fs h) k) ≡ true))
      (λ k.
      (names c k ≡ present (body_of s k))
      × ((y : List ℕ) → h k ≡ contents_at (layout_of k) y 0 → contents_of (settings_from fs h) k ≡ h k)
      × (h k ≡ [] → are_zero (contents_of (settings_from fs h) k) ≡ true))
      (λ k n r. (n, r.0, r.1))
      numbers
      (each_with (λ k. names c k ≡ is_named s k) (λ k. is_named s k ≡ present (body_of s k)) (λ k. names c k ≡ present (body_of s k)) (λ k x y. x ∙ y)
      numbers names_same (named-present s a))
      (each_with (λ k. (y : List ℕ) → h k ≡ contents_at (layout_of k) y 0 → contents_of (settings_from fs h) k ≡ h k)
      (λ k. h k ≡ [] → are_zero (contents_of (settings_from fs h) k) ≡ true)
      (λ k. ((y : List ℕ) → h k ≡ contents_at (layout_of k) y 0 → contents_of (settings_from fs h) k ≡ h k)
      × (h k ≡ [] → are_zero (contents_of (settings_from fs h) k) ≡ true))
      (λ k x y. (x, y)) numbers (read_held fs h) (unread_zero fs h)))

  flags-both : (digit_bytes (digits_of (part 5 7 s)) ≡ part 5 7 s) × (flags_allowed 5 (digits_of (part 5 7 s)) ≡ (Ok tt))
  flags-both = flags-back 7 5 (part 5 7 s) (sound s a).flags

  named-both : (digit_bytes (digits_of (part 13 8 s)) ≡ part 13 8 s) × (named_allowed numbers 13 (digits_of (part 13 8 s)) ≡ (Ok tt))
  named-both = rw (indicators s long) (named_back numbers 2 13 (byte_of s) (omega arith) rising (indicators_are s a))

  downlink-low : 48 ≤ get_or s 12 0
  downlink-low = let b = get_or s 12 0 in leb-true 48 b (both_left (leb 48 b) (leb b 50) (downlink-byte s a))

  downlink-high : get_or s 12 0 ≤ 50
  downlink-high = let b = get_or s 12 0 in leb-true b 50 (both_right (leb 48 b) (leb b 50) (downlink-byte s a))

  -- what is read is allowed
  pub read-allowed : command_allowed c ≡ (Ok tt)
  unfolding command_allowed command_of settings_from
  read-allowed =
      rw (flags-both.1, le-leb (get_or s 12 0 - 48) 2 (omega (arith, downlink-high)), named-both.1)
      (sections-fine numbers 22 c (each_right (λ k. text_if (names c k) k (contents_of c.settings k) ≡ body_of s k) (Good c) numbers sections-back))

  -- and is written back as the same bytes
  pub read-written : command_text c ≡ s
  unfolding command_text command_of settings_from text_of
  read-written =
      let texts : sections_text numbers c ≡ bodies (body_of s) numbers =
      texts_are numbers c (body_of s) (each_left (λ k. text_if (names c k) k (contents_of c.settings k) ≡ body_of s k) (Good c) numbers sections-back) in
      let digit : 48 + (get_or s 12 0 - 48) ≡ get_or s 12 0 = omega (arith, downlink-low) in
      rw (flags-both.0, digit, named-both.0, texts, marked s a) (sym (spelt s a))
