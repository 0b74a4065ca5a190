-- Each reason is given exactly when document 02, §1, says so, in document 01's words.
use mathlib.Core.Path.{◌≡◌, refl, sym, ap, ◌∙◌, subst}
use mathlib.Core.Logic.{◌⊎◌, inl, inr, ◌↔◌}
use mathlib.Core.Bool.{true, false, cond, ◌&&◌}
use mathlib.Core.List.{List}
use Prim.Native.Nat.{ℕ, ◌+◌, ◌-◌, ◌≤◌, ◌<◌}
use native.Mathlib.Omega.{arith}
use lib.Dec.{eqb}
use borrow.Author.Tests.{ne_eqb, lt-ltb}
use Rattle.text.proofs.Cases.{by_test, by_eq, by_lt}
use Rattle.settings.specs.declared.Settings.{Settings}
use Rattle.settings.specs.Valid.{valid}
use Rattle.decide.specs.Question.{Question}
use Rattle.decide.specs.Tests.{is_in_window, minutes, first_holding}
use Rattle.decide.specs.Reason.{decision_of, inhibiting_box, is_silent, scheme_reason, or_routine, routine_by, phase_reason, reason_for, explained}
use Rattle.decide.specs.Words.{Amdar, InhibitHours, Regions, Airports, Enroute, flag_of, InRange, FourAllowed, FirstHolding, Has, Own, own_of}
use Rattle.decide.specs.Rules.{Window, Inhibiting, Heard, Admitted, TurnedAway}
use Rattle.decide.specs.Why.{Awake, Levels, Climbs, Flies, without_lists, with_lists, DigitSays, own_section, section3, level_on, scheme_on, Quiet, level_off, silent_off, When}
use Rattle.decide.specs.declared.Reason.{Reason}
use Rattle.decide.specs.declared.Reason.TheVariants.{AmdarOff, Hours, InhibitingBox, NoReportingBox, FlagOn, Digit, FlagOff, AirfieldInhibited, AirfieldNotSelected}
use Rattle.std.specs.Prelude.{Ok}
use Rattle.decide.proofs.Answers.{small, window-holds, reporting-holds, inside, inside-said, outside-said, heard-past, scheme, given, admitted-scheme, not-admitted, turned_away}
use Rattle.decide.proofs.Determined.{bit, admitted-or-not}
use Rattle.decide.proofs.First.{Found, NotFound, first_said}
use Rattle.decide.proofs.Sound.{Sound, sound}
use Rattle.decide.proofs.Tests.{says_no, by_said, both-said, eq-said}
use Rattle.decide.proofs.Words.{has-said, range-said, airfield-said}

-- ---- The digit that makes silence routine

routine-plain : (a section own third : ℕ) (r : Reason) → a ≡ 0 → routine_by a section own third r ≡ or_routine section own r
routine-plain a section own third r e = rw e

routine-third : (a section own third : ℕ) (r : Reason) → a ≡ 1 → routine_by a section own third r ≡ or_routine 3 third r
routine-third a section own third r e = rw e

digit-on : (section : ℕ) (r : Reason) → is_silent (decision_of r) ≡ true → or_routine section 1 r ≡ Digit section
digit-on section r e = rw e

digit-off : (section : ℕ) (r : Reason) → or_routine section 0 r ≡ r
digit-off section r = by_test (is_silent (decision_of r)) (λ t. rw t) (λ t. rw t)

-- a scheme is never made routine
scheme_stays : (number a section own third : ℕ) → eqb number 6 ≡ false → routine_by a section own third (FlagOn number) ≡ FlagOn number
scheme_stays number a section own third e = by_test (eqb a 0) (λ t. rw (t, e)) (λ t. rw (t, e))

-- ---- Ascent and descent, by what the phase has of its own

module _ (x : Settings) (own : Own) (a : List ℕ) where
  -- the digit that counts
  digit-counts : (digit section : ℕ) → DigitSays x own digit section → given x own a ≡ or_routine section digit (scheme x own a)
  digit-counts digit section (own_section z d e) =
      routine-plain (flag_of x Airports) own.section_number own.section x.airports.routine (scheme x own a) z
      ∙ ap (λ (n : ℕ). or_routine own.section_number n (scheme x own a)) d
      ∙ ap (λ (n : ℕ). or_routine n digit (scheme x own a)) (sym e)
  digit-counts digit section (section3 z d e) =
      routine-third (flag_of x Airports) own.section_number own.section x.airports.routine (scheme x own a) z
      ∙ ap (λ (n : ℕ). or_routine 3 n (scheme x own a)) d
      ∙ ap (λ (n : ℕ). or_routine n digit (scheme x own a)) (sym e)

  -- a scheme that is flown
  flies_scheme : Flies x own a → scheme x own a ≡ FlagOn own.flag_number
  unfolding scheme_reason
  flies_scheme (without_lists z f) = rw (z, f)
  flies_scheme (with_lists z k) = admitted-scheme x own a z k

  flies_given : eqb own.flag_number 6 ≡ false → Flies x own a → given x own a ≡ FlagOn own.flag_number
  flies_given other f =
      ap (λ (r : Reason). routine_by (flag_of x Airports) own.section_number own.section x.airports.routine r) (flies_scheme f)
      ∙ scheme_stays own.flag_number (flag_of x Airports) own.section_number own.section x.airports.routine other

  -- what silence has against it
  off-scheme : own.flag ≡ 0 → scheme x own a ≡ FlagOff own.flag_number
  unfolding scheme_reason
  off-scheme e = rw e

  inhibited-scheme : own.flag ≡ 1 → flag_of x Airports ≡ 1 → Has own.inhibited a → scheme x own a ≡ AirfieldInhibited
  unfolding scheme_reason
  inhibited-scheme f z h = rw (f, z, (has-said a own.inhibited).so_yes h)

  unselected_scheme : own.flag ≡ 1 → flag_of x Airports ≡ 1 → ¬ Has own.inhibited a → 0 < own.selected.count
      → ¬ Has own.selected a → scheme x own a ≡ AirfieldNotSelected
  unfolding scheme_reason
  unselected_scheme f z i n h =
      rw (f, z, says_no (has-said a own.inhibited) i, ne_eqb own.selected.count 0 (λ e. omega arith), says_no (has-said a own.selected) h)

  module _ (airports : flag_of x Airports ≤ 1) (flag : own.flag ≤ 1) where
    -- a scheme is flown or not
    flies_or-not : Flies x own a ⊎ (¬ Flies x own a)
    flies_or-not =
        bit (flag_of x Airports) airports
        (λ z. bit own.flag flag (λ f. inr (grounded z f)) (λ f. inl (without_lists z f)))
        (λ z. lists z (admitted-or-not x own a flag))
      where
        grounded : flag_of x Airports ≡ 0 → own.flag ≡ 0 → ¬ Flies x own a
        grounded z f (without_lists z' f') = omega arith
        grounded z f (with_lists z' k) = omega arith

        lists : flag_of x Airports ≡ 1 → Admitted own a ⊎ TurnedAway own a → Flies x own a ⊎ (¬ Flies x own a)
        lists z (inl k) = inl (with_lists z k)
        lists z (inr t) = inr (turned z t)
          where
            turned : flag_of x Airports ≡ 1 → TurnedAway own a → ¬ Flies x own a
            turned z t (without_lists z' f) = omega arith
            turned z t (with_lists z' k) = not-admitted own a t k

    -- where none is flown, silence
    grounded_silent : ¬ Flies x own a → is_silent (decision_of (scheme x own a)) ≡ true
    unfolding scheme_reason
    grounded_silent n =
        bit (flag_of x Airports) airports
        (λ z. bit own.flag flag (λ f. rw f) (λ f. absurd (n (without_lists z f))))
        (λ z. lists z (admitted-or-not x own a flag))
      where
        lists : flag_of x Airports ≡ 1 → Admitted own a ⊎ TurnedAway own a → is_silent (decision_of (scheme x own a)) ≡ true
        lists z (inl k) = absurd (n (with_lists z k))
        lists z (inr t) = turned_away x own a z t

    module _ (section : own.section ≤ 1) (third : x.airports.routine ≤ 1) where
      -- a digit says 1 or 0
      digit_says : (P : Type 0) → ((n : ℕ) → DigitSays x own 1 n → P) → ((n : ℕ) → DigitSays x own 0 n → P) → P
      digit_says P one none =
          bit (flag_of x Airports) airports
          (λ z.
          bit own.section section (λ e. none own.section_number (own_section z e refl))
          (λ e. one own.section_number (own_section z e refl)))
          (λ z.
          bit x.airports.routine third (λ e. none 3 (section3 z e refl)) (λ e. one 3 (section3 z e refl)))

-- a reason that holds
record One (x : Settings) (q : Question) : Type 0 where
  reason : Reason
  holds : When x q reason

-- ---- The boxes

module _ (x : Settings) (q : Question) (ok : Sound x) (r : InRange q) where
  abbrev found : Type 0
  found = Found q.north q.east 1 x.regions.inhibiting.count x.regions.inhibiting.regions

  abbrev not_found : Type 0
  not_found = NotFound q.north q.east 1 x.regions.inhibiting.count x.regions.inhibiting.regions

  abbrev First : ℕ → Type 0
  First n = FirstHolding x.regions.inhibiting q.north q.east n

  looked : found ⊎ not_found
  looked =
      first_said q.north q.east (small x q ok r).0 (small x q ok r).1 1 x.regions.inhibiting.count
      x.regions.inhibiting.regions ok.regions.inhibiting.boxes

  -- the box that was found is the first
  found_first : (w : found) → First (1 + w.which)
  found_first w =
      let e : 1 + w.which - 1 ≡ w.which = omega arith in
      record {
        from_one = omega arith;
        counted = omega (arith, w.counted);
        there = omega (arith, w.there);
        holds = rw e w.holds;
        lowest = λ k l m. w.none (k - 1) (omega arith);
      }

  -- and the first box is the one that was found
  first-number : (n : ℕ) → First n
      → first_holding x.regions.inhibiting (minutes q.north) (minutes q.east) ≡ n
  first-number n f = same looked
    where
      same : found ⊎ not_found → first_holding x.regions.inhibiting (minutes q.north) (minutes q.east) ≡ n
      same (inl w) =
          w.number
          ∙ by_lt w.which (n - 1)
          (λ (l : w.which < n - 1). absurd (f.lowest (1 + w.which) (omega arith) (omega arith) (found_first w).holds))
          (λ (l : n - 1 ≤ w.which).
          by_lt (n - 1) w.which (λ (m : n - 1 < w.which). absurd (w.none (n - 1) m f.holds))
          (λ (m : w.which ≤ n - 1). omega (arith, f.from_one)))
      same (inr w) = absurd (w.none (n - 1) (omega (arith, f.from_one, f.counted)) (omega (arith, f.from_one, f.there)) f.holds)

  -- ---- A reason that holds is the one that is given

  -- neither flag nor hours
  awake-hours : Awake x q → (eqb (flag_of x InhibitHours) 1 && is_in_window x.hours.start x.hours.end q.hour) ≡ false
  awake-hours a = says_no (both-said (eq-said (flag_of x InhibitHours) 1) (window-holds x q ok r)) (asleep a.hours)
    where
      asleep : (flag_of x InhibitHours ≡ 0) ⊎ (¬ Window x q) → ¬ ((flag_of x InhibitHours ≡ 1) × Window x q)
      asleep (inl e) p = omega (arith, p.0)
      asleep (inr n) p = n p.1

  inside_is : (n : ℕ) → flag_of x Regions ≡ 1 → First n → inside x q ok r ≡ n
  unfolding inhibiting_box
  inside_is n e f = rw e (first-number n f)

  -- what the phase that is asked about has of its own
  abbrev own : Own
  own = own_of x q

  own-other : eqb own.flag_number 6 ≡ false
  unfolding own_of
  own-other = by_test (eqb q.phase 0) (λ t. rw t) (λ t. rw t)

  own-flag : own.flag ≤ 1
  unfolding own_of
  own-flag = by_test (eqb q.phase 0) (λ t. rw t (ok.flags 4)) (λ t. rw t (ok.flags 6))

  own-section : own.section ≤ 1
  unfolding own_of
  own-section = by_test (eqb q.phase 0) (λ t. rw t ok.routine6) (λ t. rw t ok.routine8)

  -- what is given in level flight
  level-given : Levels x q → (n : ℕ) (e : Reason) → flag_of x Enroute ≡ n → cond (eqb n 1) (FlagOn 6) (FlagOff 6) ≡ e → reason_for x q ≡ e
  unfolding phase_reason
  level-given l n e f k = heard-past x q ok r l.heard ∙ rw (l.level, f) k

  -- and in ascent or descent
  profile-given : Climbs x q → reason_for x q ≡ given x own q.airfield
  unfolding phase_reason own_of
  profile-given c =
      heard-past x q ok r c.heard
      ∙ rw (ne_eqb q.phase 1 c.profile) (by_test (eqb q.phase 0) (λ t. rw t) (λ t. rw t))

  -- silence: what stands against a scheme
  quiet-given : Quiet x q → reason_for x q ≡ scheme x own q.airfield
  quiet-given k =
      profile-given k.climbs
      ∙ digit-counts x own q.airfield 0 k.section k.digit
      ∙ digit-off k.section (scheme x own q.airfield)

  pub holds-given : (e : Reason) → When x q e → reason_for x q ≡ e
  unfolding reason_for
  holds-given AmdarOff w = rw w
  holds-given Hours w =
      rw (w.amdar, (both-said (eq-said (flag_of x InhibitHours) 1) (window-holds x q ok r)).so_yes (w.flag, w.window))
  holds-given (InhibitingBox n) w =
      rw (w.awake.amdar, awake-hours w.awake, inside_is n w.flag w.box, lt-ltb 0 n w.box.from_one)
  holds-given NoReportingBox w =
      rw (w.awake.amdar, awake-hours w.awake, says_no (inside-said x q ok r) (λ p. w.inside p.1), (outside-said x q ok r).so_yes (w.flag, (w.some, w.none)))
  holds-given (FlagOn n) (level_on l f e) = level-given l 1 (FlagOn n) f (ap FlagOn (sym e))
  holds-given (FlagOn n) (scheme_on c f e) = profile-given c ∙ flies_given x own q.airfield own-other f ∙ ap FlagOn (sym e)
  holds-given (Digit n) w =
      profile-given w.climbs
      ∙ digit-counts x own q.airfield 1 n w.digit
      ∙ digit-on n (scheme x own q.airfield)
      (grounded_silent x own q.airfield (ok.flags 3) own-flag w.no-scheme)
  holds-given (FlagOff n) (level_off l f e) = level-given l 0 (FlagOff n) f (ap FlagOff (sym e))
  holds-given (FlagOff n) (silent_off k f e) = quiet-given k ∙ off-scheme x own q.airfield f ∙ ap FlagOff (sym e)
  holds-given AirfieldInhibited w =
      quiet-given w.quiet ∙ inhibited-scheme x own q.airfield w.flag w.airports w.inhibited
  holds-given AirfieldNotSelected w =
      quiet-given w.quiet
      ∙ unselected_scheme x own q.airfield w.flag w.airports w.inhibited w.some w.selected

  -- ---- There is one

  level-one : Heard x q → q.phase ≡ 1 → One x q
  level-one h p =
      let l : Levels x q = record { heard = h; level = p } in
      bit (flag_of x Enroute) (ok.flags 5) (λ e. record { reason = FlagOff 6; holds = level_off l e refl })
      (λ e. record { reason = FlagOn 6; holds = level_on l e refl })

  profile-one : Climbs x q → One x q
  profile-one c = flown (flies_or-not x own q.airfield (ok.flags 3) own-flag)
    where
      -- silence, by what stands against a scheme
      silent : ¬ Flies x own q.airfield → Quiet x q → One x q
      silent n k =
          bit own.flag own-flag
          (λ f. record { reason = FlagOff own.flag_number; holds = silent_off k f refl })
          (λ f.
          bit (flag_of x Airports) (ok.flags 3) (λ z. absurd (n (without_lists z f)))
          (λ z.
          by_said (has-said q.airfield own.inhibited)
          (λ h. record { reason = AirfieldInhibited; holds = record { quiet = k; flag = f; airports = z; inhibited = h } })
          (λ i.
          by_eq own.selected.count 0
          (λ e. absurd (n (with_lists z (record { flag = f; inhibited = i; selected = inl e }))))
          (λ (m : own.selected.count ≡ 0 → ⊥).
          by_said (has-said q.airfield own.selected)
          (λ h. absurd (n (with_lists z (record { flag = f; inhibited = i; selected = inr h }))))
          (λ h.
          record {
            reason = AirfieldNotSelected;
            holds = record { quiet = k; flag = f; airports = z; inhibited = i; some = omega arith; selected = h };
          })))))

      flown : Flies x own q.airfield ⊎ (¬ Flies x own q.airfield) → One x q
      flown (inl f) = record { reason = FlagOn own.flag_number; holds = scheme_on c f refl }
      flown (inr n) =
          digit_says x own q.airfield (ok.flags 3) own-flag own-section ok.airports.routine (One x q)
          (λ s d. record { reason = Digit s; holds = record { climbs = c; no-scheme = n; digit = d } })
          (λ s d. silent n (record { climbs = c; section = s; digit = d }))

  heard-one : Heard x q → One x q
  heard-one h =
      by_eq q.phase 1 (λ p. level-one h p) (λ (n : q.phase ≡ 1 → ⊥). profile-one (record { heard = h; profile = n }))

  -- past the hours: the boxes
  awake-one : Awake x q → One x q
  awake-one a =
      bit (flag_of x Regions) (ok.flags 2) (λ e. heard-one (record { amdar = a.amdar; hours = a.hours; places = inl e }))
      (λ e. boxes e looked)
    where
      boxes : flag_of x Regions ≡ 1 → found ⊎ not_found → One x q
      boxes e (inl w) =
          record { reason = InhibitingBox (1 + w.which); holds = record { awake = a; flag = e; box = found_first w } }
      boxes e (inr w) =
          let n : ¬ Inhibiting x q = λ s. w.none s.which s.counted s.there s.holds in
          by_eq x.regions.reporting.count 0
          (λ z. heard-one (record { amdar = a.amdar; hours = a.hours; places = inr (n, inl z) }))
          (λ (m : x.regions.reporting.count ≡ 0 → ⊥).
          by_said (reporting-holds x q ok r)
          (λ i. heard-one (record { amdar = a.amdar; hours = a.hours; places = inr (n, inr i) }))
          (λ o.
          record {
            reason = NoReportingBox;
            holds = record { awake = a; flag = e; inside = n; some = omega arith; none = o };
          }))

  one : One x q
  one =
      bit (flag_of x Amdar) (ok.flags 0) (λ e. record { reason = AmdarOff; holds = e })
      (λ a.
      bit (flag_of x InhibitHours) (ok.flags 1) (λ e. awake-one (record { amdar = a; hours = inl e }))
      (λ e.
      by_said (window-holds x q ok r)
      (λ w. record { reason = Hours; holds = record { amdar = a; flag = e; window = w } })
      (λ n. awake-one (record { amdar = a; hours = inr n }))))

  -- the one that is given holds
  given_holds : When x q (reason_for x q)
  given_holds = let o = one in subst (When x q) (sym (holds-given o.reason o.holds)) o.holds

-- ---- The theorems

module _ (x : Settings) (q : Question) (v : valid x ≡ true) (r : InRange q) (a : FourAllowed q.airfield) where
  -- a question that is not refused is given a reason
  pub some-reason : explained x q ≡ Ok (reason_for x q)
  unfolding explained
  some-reason = rw (v, (range-said q).so_yes r, (airfield-said q.airfield).so_yes a)

  -- it is the reason e exactly when e holds
  pub exactly : (e : Reason) → (explained x q ≡ Ok e) ↔ When x q e
  exactly e = (out, back)
    where
      out : explained x q ≡ Ok e → When x q e
      out h = let z : reason_for x q ≡ e = cc (some-reason, h) in subst (When x q) z (given_holds x q (sound x v) r)

      back : When x q e → explained x q ≡ Ok e
      back h = some-reason ∙ ap Ok (holds-given x q (sound x v) r e h)

  -- no two hold
  pub one-reason : (d e : Reason) → When x q d → When x q e → d ≡ e
  one-reason d e h k = sym (holds-given x q (sound x v) r d h) ∙ holds-given x q (sound x v) r e k
