-- The command both ways: each accepted text reads to one allowed record that is written back as the same bytes, and the text of an
-- allowed record is accepted and reads back as that record.
use mathlib.Core.Path.{◌≡◌, refl, sym, ap, ap₂, ◌∙◌}
use mathlib.Core.Bool.{Bool, true, false, cond, ◌&&◌, not}
use mathlib.Core.List.{List, [], ◌∷◌, map}
use Prim.Native.Nat.{ℕ, zero, suc, ◌+◌, ◌-◌, ◌≤◌, ◌<◌}
use native.Mathlib.Omega.{arith}
use lib.Dec.{leb, eqb, lit<}
use lib.ListN.{length, get_or}
use borrow.Author.Tests.{eqb-true, leb-true, le-leb, ne_eqb, not-true}
use Rattle.text.specs.Checks.{must, ◌and_then◌}
use Rattle.text.specs.Parts.{part}
use Rattle.text.proofs.Cases.{by_test, by_eq, both_left, both_right}
use Rattle.text.proofs.Checks.{must-held, both-fine}
use Rattle.section.specs.Layout.{layout_of, table_of, is_empty, numbers}
use Rattle.section.specs.Contents.{Content, Amount, Names, Areas, contents_text, contents_allowed}
use Rattle.settings.specs.Settings.{contents_of, fixed_hold, settings_from, regions_from, airports_from, enroute_from, ascent_from, descent_from, hours_from, amount_in}
use Rattle.section.proofs.Own.{own-some}
use Rattle.section.proofs.RoundTrip.{Shaped, written-own}
use Rattle.settings.proofs.Kept.{regions-kept, airports-kept, enroute-kept, ascent-kept, descent-kept, digit-kept, hours-kept}
use Rattle.command.specs.Text.{longest, is_flag, is_downlink, check_command}
use Rattle.command.specs.Record.{digits_of, command_of, flag_allowed, flags_allowed, named_allowed, marks_allowed, names, section_text, sections_allowed, command_allowed, digit_bytes, command_text}
use Rattle.settings.specs.Valid.{is_zero, are_zero}
use Rattle.command.specs.Sections.{held_in}
use Rattle.command_write.specs.Filled.{Filled}
use Rattle.settings.specs.Inner.{text_if}
use Rattle.command.specs.declared.Command.{Command}
use Rattle.command.proofs.Allowed.{indicated, eight-values}
use Rattle.command.proofs.Each.{Each, each_with, each_map}
use Rattle.command.proofs.Head.{passes}
use Rattle.command.proofs.Parts.{Parts, mark_of, marks, text_of, body_of, Place, Absent, Present, Sound, holds}
use Rattle.command.proofs.Walk.{holds-some}
use Rattle.command.proofs.Accepted.{accepted, held-each}
use Rattle.command.proofs.Written.{flags-back, downlink-back, marks-back, bodies-back, text-accepted, text-fine}
use Rattle.command_write.proofs.Writing.{named-at, head_allowed, allowed_halves, sections-named}
use Rattle.command_write.proofs.ReadBack.{texts_are, flags_n, read-allowed, read-written}
use Rattle.std.specs.Prelude.{Ok}
use Rattle.text.specs.declared.Code.TheVariants.{Disagree, NotAllowed}

-- each accepted text reads to an allowed record that is written back as the same bytes
pub read-write : (s : List ℕ) → check_command s ≡ (Ok tt) → (command_allowed (command_of s) ≡ (Ok tt)) × (command_text (command_of s) ≡ s)
read-write s e = let a = accepted s e in (read-allowed s a, read-written s a)

-- ---- The head of an allowed record

digits-off : (vs : List ℕ) → digits_of (digit_bytes vs) ≡ vs
digits-off [] = refl
digits-off (v ∷ vs) = let same : 48 + v - 48 ≡ v = omega arith in ap₂ ◌∷◌ same (digits-off vs)

flag-byte : (v : ℕ) → flag_allowed v ≡ true → is_flag (48 + v) ≡ true
flag-byte v e =
    by_eq v 0 (λ (h : v ≡ 0). rw h)
    (λ (h : v ≡ 0 → ⊥).
    by_eq v 1 (λ (g : v ≡ 1). rw g)
    (λ (g : v ≡ 1 → ⊥).
    by_test (leb v 1)
    (λ (l : leb v 1 ≡ true). absurd (omega (arith, leb-true v 1 l)))
    (λ (l : leb v 1 ≡ false). let n : v ≡ 9 = eqb-true v 9 (rw l at e) in rw n)))

flags_pass : (n place : ℕ) (fs : List ℕ) → length fs ≡ n → flags_allowed place fs ≡ (Ok tt) → passes (flags_n n) (digit_bytes fs) ≡ true
unfolding passes flags_allowed
flags_pass zero place [] l e = refl
flags_pass zero place (v ∷ fs) l e = absurd (omega arith)
flags_pass (suc n) place [] l e = absurd (omega arith)
flags_pass (suc n) place (v ∷ fs) l e =
    let x = both-fine (must (flag_allowed v) NotAllowed place) (flags_allowed (place + 1) fs) tt e in
    rw (flag-byte v (must-held (flag_allowed v) NotAllowed place x.0)) (flags_pass n (place + 1) fs (omega arith) x.1)

downlink_pass : (v : ℕ) → v ≤ 2 → is_downlink (48 + v) ≡ true
downlink_pass v h = rw (le-leb 48 (48 + v) (omega arith), le-leb (48 + v) 50 (omega arith))

-- ---- A section of an allowed record

-- sections that aren't named are zero
sections-zero : (ks : List ℕ) (place : ℕ) (c : Command) → sections_allowed ks place c ≡ (Ok tt)
    → Each (λ k. names c k ≡ false → are_zero (contents_of c.settings k) ≡ true) ks
unfolding sections_allowed
sections-zero [] place c e = tt
sections-zero (k ∷ ks) place c e =
    let cs = contents_of c.settings k in
    by_test (names c k)
    (λ (n : names c k ≡ true).
    let x = both-fine (contents_allowed (layout_of k) place cs) (sections_allowed ks (place + length (section_text c k)) c) tt (rw n at e) in
    (λ t. let z : true ≡ false = sym n ∙ t in cc, sections-zero ks (place + length (section_text c k)) c x.1))
    (λ (n : names c k ≡ false).
    let x = both-fine (must (are_zero cs) Disagree place) (sections_allowed ks place c) tt (rw n at e) in
    (λ t. must-held (are_zero cs) Disagree place x.0, sections-zero ks place c x.1))

-- the section k, its indicator v, and its text
pub record Kept (k v : ℕ) (named : Bool) (cs : List Content) : Type 0 where
  pub place : Place k (text_if named k cs)
  pub mark : mark_of k (text_if named k cs) ≡ 48 + v
  pub reads : holds k (text_if named k cs) ≡ cond named cs []

mark-some : (k : ℕ) (b : List ℕ) → 1 ≤ length b → mark_of k b ≡ 48 + k
mark-some k [] h = absurd (omega arith)
mark-some k (x ∷ b) h = refl

there-is : (k v : ℕ) → 1 ≤ k → indicated k v ≡ true → v ≡ k → is_empty (layout_of k) ≡ false
there-is k v some i e =
    let z : eqb v 0 ≡ false = ne_eqb v 0 (λ (n : v ≡ 0). omega arith) in
    let j : (not (is_empty (layout_of k)) && eqb v k) ≡ true = rw z at i in
    not-true (is_empty (layout_of k)) (both_left (not (is_empty (layout_of k))) (eqb v k) j)

none_is : (k v : ℕ) → indicated k v ≡ true → eqb v k ≡ false → v ≡ 0
none_is k v i n =
    by_test (eqb v 0)
    (λ (z : eqb v 0 ≡ true). eqb-true v 0 z)
    (λ (z : eqb v 0 ≡ false).
    let j : (not (is_empty (layout_of k)) && eqb v k) ≡ true = rw z at i in
    let y : eqb v k ≡ true = both_right (not (is_empty (layout_of k))) (eqb v k) j in
    let w : true ≡ false = sym y ∙ n in
    cc)

kept : (k v : ℕ) (cs : List Content) → 1 ≤ k → indicated k v ≡ true → Shaped (layout_of k) cs
    → (eqb v k ≡ true → contents_allowed (layout_of k) 0 cs ≡ (Ok tt)) → Kept k v (eqb v k) cs
kept k v cs some i shaped allowed =
    by_test (eqb v k)
    (λ (n : eqb v k ≡ true).
    let t = contents_text (layout_of k) cs in
    let is : v ≡ k = eqb-true v k n in
    let w = written-own (layout_of k) cs 0 shaped (allowed n) in
    let l = own-some (layout_of k) t w.0 in
    record {
      place = rw n (Present (there-is k v some i is) w.0);
      mark = rw n (mark-some k t l ∙ ap (λ (x : ℕ). 48 + x) (sym is));
      reads = rw n (sym (holds-some k t l) ∙ w.1);
    })
    (λ (n : eqb v k ≡ false).
    record {
      place = rw n (Absent refl);
      mark = rw (n, none_is k v i n);
      reads = rw n;
    })

marks-of : (f : ℕ → List ℕ) (g : ℕ → ℕ) (ks : List ℕ) → Each (λ k. mark_of k (f k) ≡ g k) ks → marks f ks ≡ map g ks
unfolding marks
marks-of f g [] e = refl
marks-of f g (k ∷ ks) e = ap₂ ◌∷◌ e.0 (marks-of f g ks e.1)

-- what is all zero has a zero first and zeros behind it
zero_more : (d : Content) (cs : List Content) → are_zero (d ∷ cs) ≡ true → (is_zero d ≡ true) × (are_zero cs ≡ true)
unfolding are_zero
zero_more d cs e = (both_left (is_zero d) (are_zero cs) e, both_right (is_zero d) (are_zero cs) e)

-- ---- The whole record

-- each section has its layout's kinds of contents
pub shaped : (c : Command) → Filled c → Each (λ k. Shaped (layout_of k) (contents_of c.settings k)) numbers
unfolding layout_of table_of contents_of fixed_hold
shaped c full =
    let ten : 1 < 10 = lit< tt in
    let sixty : 60 < 100 = lit< tt in
    let hour : 23 < 100 = lit< tt in (
      (full.reporting, (full.inhibiting, tt)),
      (
        (full.selected.0, (full.selected.1, (full.inhibited.0, (full.inhibited.1, (ten, tt))))),
        (
          (sixty, (ten, tt)),
          ((ten, (lit< tt, (lit< tt, (sixty, (lit< tt, (lit< tt, (lit< tt, (ten, tt)))))))), ((ten, tt), ((ten, (lit< tt, (lit< tt, (lit< tt, (ten, tt))))), ((ten, tt), ((hour, (hour, tt)), tt))))),
        ),
      ),
    )

module _ (c : Command) (full : Filled c) (fine : command_allowed c ≡ (Ok tt)) where
  abbrev value : ℕ → ℕ
  value k = get_or c.named (k - 2) 0

  abbrev held : ℕ → List Content
  held k = contents_of c.settings k

  abbrev body : ℕ → List ℕ
  body k = text_if (names c k) k (held k)

  abbrev parts : Parts
  parts = record { flags = digit_bytes c.settings.flags; downlink = 48 + c.downlink; sections = body }

  halves : (head_allowed c ≡ (Ok tt)) × (sections_allowed numbers 22 c ≡ (Ok tt))
  halves = both-fine (head_allowed c) (sections_allowed numbers 22 c) tt (rw (allowed_halves c) at fine)

  flags-fine : (flags_allowed 5 c.settings.flags ≡ (Ok tt)) × ((must (leb c.downlink 2) NotAllowed 12 and_then marks_allowed c) ≡ (Ok tt))
  flags-fine = both-fine (flags_allowed 5 c.settings.flags) (must (leb c.downlink 2) NotAllowed 12 and_then marks_allowed c) tt halves.0

  rest-fine : (must (leb c.downlink 2) NotAllowed 12 ≡ (Ok tt)) × (marks_allowed c ≡ (Ok tt))
  rest-fine = both-fine (must (leb c.downlink 2) NotAllowed 12) (marks_allowed c) tt flags-fine.1

  marks-fine : (named_allowed numbers 13 c.named ≡ (Ok tt)) × (must (eqb c.spare 0) Disagree 21 ≡ (Ok tt))
  marks-fine = both-fine (named_allowed numbers 13 c.named) (must (eqb c.spare 0) Disagree 21) tt rest-fine.1

  low : c.downlink ≤ 2
  low = leb-true c.downlink 2 (must-held (leb c.downlink 2) NotAllowed 12 rest-fine.0)

  at : (i : ℕ) → i < 8 → indicated (get_or numbers i 0) (get_or c.named i 0) ≡ true
  at i h = named-at numbers c.named 13 i marks-fine.0 h

  all-kept : Each (λ k. Kept k (value k) (names c k) (held k)) numbers
  all-kept =
      let s = shaped c full in
      let n = sections-named numbers 22 c halves.1 in (
        kept 2 (value 2) (held 2) (lit< tt) (at 0 (lit< tt)) s.0 n.0,
        (
          kept 3 (value 3) (held 3) (lit< tt) (at 1 (lit< tt)) s.1.0 n.1.0,
          (
            kept 4 (value 4) (held 4) (lit< tt) (at 2 (lit< tt)) s.1.1.0 n.1.1.0,
            (
              kept 5 (value 5) (held 5) (lit< tt) (at 3 (lit< tt)) s.1.1.1.0 n.1.1.1.0,
              (
                kept 6 (value 6) (held 6) (lit< tt) (at 4 (lit< tt)) s.1.1.1.1.0 n.1.1.1.1.0,
                (
                  kept 7 (value 7) (held 7) (lit< tt) (at 5 (lit< tt)) s.1.1.1.1.1.0 n.1.1.1.1.1.0,
                  (
                    kept 8 (value 8) (held 8) (lit< tt) (at 6 (lit< tt)) s.1.1.1.1.1.1.0 n.1.1.1.1.1.1.0,
                    (kept 9 (value 9) (held 9) (lit< tt) (at 7 (lit< tt)) s.1.1.1.1.1.1.1.0 n.1.1.1.1.1.1.1.0, tt),
                  ),
                ),
              ),
            ),
          ),
        ),
      )

  sound-parts : Sound parts
  sound-parts =
      record {
        flags = flags_pass 7 5 c.settings.flags full.flags flags-fine.0;
        downlink = downlink_pass c.downlink low;
        sections =
            each_map (λ k. Kept k (value k) (names c k) (held k)) (λ k. Place k (body k)) (λ k (x : Kept k (value k) (names c k) (held k)). x.place) numbers all-kept;
      }

  marks_are_named : marks body numbers ≡ digit_bytes c.named
  marks_are_named =
      marks-of body (λ (k : ℕ). 48 + value k) numbers
      (each_map (λ k. Kept k (value k) (names c k) (held k)) (λ k. mark_of k (body k) ≡ 48 + value k) (λ k (x : Kept k (value k) (names c k) (held k)). x.mark) numbers all-kept)
      ∙ ap digit_bytes (sym (eight-values c.named full.named))

  each_same : (ks : List ℕ) → Each (λ k. body k ≡ body k) ks
  each_same [] = tt
  each_same (k ∷ ks) = (refl, each_same ks)

  text-is : text_of parts ≡ command_text c
  unfolding text_of command_text
  text-is = rw (marks_are_named, ← (texts_are numbers c body (each_same numbers)))

  -- the text of an allowed record is accepted
  pub written-fine : check_command (command_text c) ≡ (Ok tt)
  written-fine = rw (← text-is) (text-fine parts sound-parts)

  -- what each section of that text holds
  held_back : Each (λ k. held_in (text_of parts) k ≡ cond (names c k) (held k) []) numbers
  held_back =
      each_with (λ k. held_in (text_of parts) k ≡ holds k (body k)) (λ k. Kept k (value k) (names c k) (held k))
      (λ k. held_in (text_of parts) k ≡ cond (names c k) (held k) [])
      (λ k (h : held_in (text_of parts) k ≡ holds k (body k)) (x : Kept k (value k) (names c k) (held k)). h ∙ x.reads)
      numbers
      (each_with (λ k. held_in (text_of parts) k ≡ holds k (body_of (text_of parts) k)) (λ k. body_of (text_of parts) k ≡ body k)
      (λ k. held_in (text_of parts) k ≡ holds k (body k)) (λ k h b. h ∙ ap (holds k) b) numbers
      (held-each (text_of parts) (text-accepted parts sound-parts)) (bodies-back parts sound-parts))
      all-kept

  -- no text is longer than the longest
  pub written-short : length (command_text c) ≤ longest
  written-short = (accepted (command_text c) written-fine).short

  unnamed : Each (λ k. names c k ≡ false → are_zero (held k) ≡ true) numbers
  unnamed = sections-zero numbers 22 c halves.1

  regions-back : regions_from (held_in (text_of parts) 2) ≡ c.settings.regions
  unfolding contents_of fixed_hold
  regions-back =
      let x = c.settings.regions in
      regions-kept x full.reporting full.inhibiting (names c 2) (held_in (text_of parts) 2) held_back.0
      (λ (n : names c 2 ≡ false).
      let a = zero_more (Areas x.reporting) (Areas x.inhibiting ∷ []) (unnamed.0 n) in
      let b = zero_more (Areas x.inhibiting) [] a.1 in
      (a.0, b.0))

  airports-back : airports_from (held_in (text_of parts) 3) ≡ c.settings.airports
  unfolding contents_of fixed_hold
  airports-back =
      let x = c.settings.airports in
      airports-kept x full.selected full.inhibited (names c 3) (held_in (text_of parts) 3) held_back.1.0
      (λ (n : names c 3 ≡ false).
      let r = Amount x.routine ∷ [] in
      let d4 = Names x.inhibited.descent ∷ r in
      let d3 = Names x.inhibited.ascent ∷ d4 in
      let d2 = Names x.selected.descent ∷ d3 in
      let a = zero_more (Names x.selected.ascent) d2 (unnamed.1.0 n) in
      let b = zero_more (Names x.selected.descent) d3 a.1 in
      let d = zero_more (Names x.inhibited.ascent) d4 b.1 in
      let e = zero_more (Names x.inhibited.descent) r d.1 in
      let f = zero_more (Amount x.routine) [] e.1 in
      ((a.0, b.0), (d.0, e.0), f.0))

  enroute-back : enroute_from (held_in (text_of parts) 4) ≡ c.settings.enroute
  unfolding contents_of fixed_hold
  enroute-back =
      let x = c.settings.enroute in
      enroute-kept x (names c 4) (held_in (text_of parts) 4) held_back.1.1.0
      (λ (n : names c 4 ≡ false).
      let a = zero_more (Amount x.interval) (Amount x.wind ∷ []) (unnamed.1.1.0 n) in
      let b = zero_more (Amount x.wind) [] a.1 in
      (a.0, b.0))

  ascent-back : ascent_from (held_in (text_of parts) 5) ≡ c.settings.ascent
  unfolding contents_of fixed_hold
  ascent-back =
      let x = c.settings.ascent in
      ascent-kept x (names c 5) (held_in (text_of parts) 5) held_back.1.1.1.0
      (λ (n : names c 5 ≡ false).
      let l8 = Amount x.timer ∷ [] in
      let l7 = Amount x.list ∷ l8 in
      let l6 = Amount x.top ∷ l7 in
      let l5 = Amount x.total ∷ l6 in
      let l4 = Amount x.interval2 ∷ l5 in
      let l3 = Amount x.duration ∷ l4 in
      let l2 = Amount x.interval1 ∷ l3 in
      let z1 = zero_more (Amount x.mode) l2 (unnamed.1.1.1.0 n) in
      let z2 = zero_more (Amount x.interval1) l3 z1.1 in
      let z3 = zero_more (Amount x.duration) l4 z2.1 in
      let z4 = zero_more (Amount x.interval2) l5 z3.1 in
      let z5 = zero_more (Amount x.total) l6 z4.1 in
      let z6 = zero_more (Amount x.top) l7 z5.1 in
      let z7 = zero_more (Amount x.list) l8 z6.1 in
      let z8 = zero_more (Amount x.timer) [] z7.1 in
      record {
        mode = z1.0;
        interval1 = z2.0;
        duration = z3.0;
        interval2 = z4.0;
        total = z5.0;
        top = z6.0;
        list = z7.0;
        timer = z8.0;
      })

  descent-back : descent_from (held_in (text_of parts) 7) ≡ c.settings.descent
  unfolding contents_of fixed_hold
  descent-back = descent-kept c.settings.descent (names c 7) (held_in (text_of parts) 7) held_back.1.1.1.1.1.0 unnamed.1.1.1.1.1.0

  routine6-back : amount_in (held_in (text_of parts) 6) 0 ≡ c.settings.routine6
  unfolding contents_of fixed_hold
  routine6-back =
      let d = c.settings.routine6 in
      digit-kept d (names c 6) (held_in (text_of parts) 6) held_back.1.1.1.1.0
      (λ (n : names c 6 ≡ false). (zero_more (Amount d) [] (unnamed.1.1.1.1.0 n)).0)

  routine8-back : amount_in (held_in (text_of parts) 8) 0 ≡ c.settings.routine8
  unfolding contents_of fixed_hold
  routine8-back =
      let d = c.settings.routine8 in
      digit-kept d (names c 8) (held_in (text_of parts) 8) held_back.1.1.1.1.1.1.0
      (λ (n : names c 8 ≡ false). (zero_more (Amount d) [] (unnamed.1.1.1.1.1.1.0 n)).0)

  hours-back : hours_from (held_in (text_of parts) 9) ≡ c.settings.hours
  unfolding contents_of fixed_hold
  hours-back =
      let x = c.settings.hours in
      hours-kept x (names c 9) (held_in (text_of parts) 9) held_back.1.1.1.1.1.1.1.0
      (λ (n : names c 9 ≡ false).
      let a = zero_more (Amount x.start) (Amount x.end ∷ []) (unnamed.1.1.1.1.1.1.1.0 n) in
      let b = zero_more (Amount x.end) [] a.1 in
      (a.0, b.0))

  all-flags : digits_of (part 5 7 (text_of parts)) ≡ c.settings.flags
  all-flags = ap digits_of (flags-back parts sound-parts) ∙ digits-off c.settings.flags

  settings-back : settings_from (digits_of (part 5 7 (text_of parts))) (held_in (text_of parts)) ≡ c.settings
  unfolding settings_from
  settings-back = rw (all-flags, regions-back, airports-back, enroute-back, ascent-back, descent-back, routine6-back, routine8-back, hours-back)

  digit-back : get_or (text_of parts) 12 0 - 48 ≡ c.downlink
  digit-back = omega (arith, downlink-back parts sound-parts)

  all_named : digits_of (part 13 8 (text_of parts)) ≡ c.named
  all_named = ap digits_of (marks-back parts sound-parts ∙ marks_are_named) ∙ digits-off c.named

  -- and reads back as that record
  pub written_read : command_of (command_text c) ≡ c
  unfolding command_of
  written_read =
      rw (← text-is, settings-back, digit-back, all_named)
      (ap (λ (n : ℕ). record { settings = c.settings; downlink = c.downlink; named = c.named; spare = n })
      (sym (eqb-true c.spare 0 (must-held (eqb c.spare 0) Disagree 21 marks-fine.1))))

-- the text of an allowed record is accepted, and reads back as that record
pub write_read : (c : Command) → Filled c → command_allowed c ≡ (Ok tt) → (check_command (command_text c) ≡ (Ok tt)) × (command_of (command_text c) ≡ c)
write_read c full fine = (written-fine c full fine, written_read c full fine)
