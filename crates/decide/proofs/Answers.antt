-- What is decided follows "Whether to report" sentence by sentence.
use mathlib.Core.Path.{◌≡◌, refl, ap, ◌∙◌}
use mathlib.Core.Logic.{◌⊎◌, inl, inr}
use mathlib.Core.Bool.{Bool, true, false, cond, ◌&&◌, ◌||◌}
use mathlib.Core.List.{List}
use Prim.Native.Nat.{ℕ, ◌<◌}
use native.Mathlib.Omega.{arith}
use lib.Dec.{ltb, eqb}
use lib.Signed.{mag}
use borrow.Author.Tests.{ne_eqb, eqb-true, eqb-false}
use Rattle.text.proofs.Cases.{by_test}
use Rattle.settings.specs.declared.Settings.{Settings}
use Rattle.decide.specs.Question.{Question}
use Rattle.decide.specs.Tests.{is_in_window, minutes, first_holding, has}
use Rattle.decide.specs.Reason.{decision_of, inhibiting_box, no_reporting_box, is_silent, scheme_reason, or_routine, routine_by, phase_reason, reason_for, explained, decided}
use Rattle.decide.specs.Words.{Amdar, InhibitHours, Regions, Airports, flag_of, InRange, Has, Own, of_ascent, of_descent}
use Rattle.decide.specs.Dateline.{Longitude}
use Rattle.decide.specs.Rules.{Window, Inhibiting, Reporting, Heard, Admitted, TurnedAway, switched_off, inhibited, not_selected, Profile, Rules, Answers}
use Rattle.decide.specs.declared.Decision.{Decision}
use Rattle.decide.specs.declared.Decision.TheVariants.{Silent, Routine, Scheme}
use Rattle.decide.specs.declared.Reason.{Reason}
use Rattle.decide.specs.declared.Reason.TheVariants.{FlagOn}
use Rattle.decide.proofs.First.{some-said, none_said}
use Rattle.decide.proofs.Order.{silent-first}
use Rattle.decide.proofs.Position.{in_span}
use Rattle.decide.proofs.Sound.{Sound, sound}
use Rattle.decide.proofs.Tests.{Says, says_no, reworded, never-said, both-said, either_said, lt-said, eq-said}
use Rattle.decide.proofs.Words.{window-said, has-said, range-said, airfield-said}

-- ---- Silence, and the digit that makes it routine

silent-is : (d : Decision) → is_silent d ≡ true → d ≡ Silent
silent-is Silent e = refl
silent-is Routine e = let z : ◌≡◌ {A = ℕ} 0 1 = cc in absurd (omega arith)
silent-is Scheme e = let z : ◌≡◌ {A = ℕ} 0 1 = cc in absurd (omega arith)

module _ (section : ℕ) (r : Reason) (quiet : is_silent (decision_of r) ≡ true) where
  digit-on : decision_of (or_routine section 1 r) ≡ Routine
  digit-on = rw quiet

  digit-off : decision_of (or_routine section 0 r) ≡ Silent
  digit-off = rw quiet (silent-is (decision_of r) quiet)

-- ---- Ascent and descent, by what the phase has of its own

-- what is turned away is not admitted
pub not-admitted : (own : Own) (airfield : List ℕ) → TurnedAway own airfield → ¬ Admitted own airfield
not-admitted own airfield (switched_off e) a = omega (arith, a.flag)
not-admitted own airfield (inhibited h) a = a.inhibited h
not-admitted own airfield (not_selected n h) a = neither a.selected
  where
    neither : (own.selected.count ≡ 0) ⊎ Has own.selected airfield → ⊥
    neither (inl e) = omega arith
    neither (inr g) = h g

module _ (x : Settings) (own : Own) (airfield : List ℕ) where
  -- the scheme, or what stands against it
  abbrev pub scheme : Reason
  scheme = scheme_reason (flag_of x Airports) own.flag_number own.flag own.selected own.inhibited airfield

  -- the reason that is given for the phase
  abbrev pub given : Reason
  given = routine_by (flag_of x Airports) own.section_number own.section x.airports.routine scheme

  -- a scheme that is flown with the lists
  pub admitted-scheme : flag_of x Airports ≡ 1 → Admitted own airfield → scheme ≡ FlagOn own.flag_number
  unfolding scheme_reason
  admitted-scheme z a =
      rw (
        z,
        a.flag,
        says_no (has-said airfield own.inhibited) a.inhibited,
        (either_said (eq-said own.selected.count 0) (has-said airfield own.selected)).so_yes a.selected,
      )

  -- what is turned away flies no scheme
  pub turned_away : flag_of x Airports ≡ 1 → TurnedAway own airfield → is_silent (decision_of scheme) ≡ true
  unfolding scheme_reason
  turned_away z (switched_off e) = rw e
  turned_away z (inhibited h) =
      by_test (eqb own.flag 1) (λ t. rw (t, z, (has-said airfield own.inhibited).so_yes h)) (λ t. rw t)
  turned_away z (not_selected n h) =
      by_test (eqb own.flag 1)
      (λ t.
      by_test (has own.inhibited airfield) (λ i. rw (t, z, i))
      (λ i. rw (t, z, i, ne_eqb own.selected.count 0 (λ e. omega arith), says_no (has-said airfield own.selected) h)))
      (λ t. rw t)

  -- with airports 1 section 3's digit decides
  listed : flag_of x Airports ≡ 1 → decision_of given ≡ decision_of (or_routine 3 x.airports.routine scheme)
  listed z = rw (ne_eqb (flag_of x Airports) 0 (λ (e : flag_of x Airports ≡ 0). omega (arith, z)))

  -- the phase, whose flag is not the enroute flag, is decided as its sentences say
  profile-follows : eqb own.flag_number 6 ≡ false → Profile x own airfield (decision_of given)
  unfolding scheme_reason
  profile-follows other =
      record {
        scheme = λ z f. rw (z, f, other, other);
        routine = λ z f e. rw (z, f, e);
        silent = λ z f e. rw (z, f, e);
        listed-scheme = λ z a. listed z ∙ rw (admitted-scheme z a, other, other);
        listed-routine = λ z t e. listed z ∙ rw e (digit-on 3 scheme (turned_away z t));
        listed-silent = λ z t e. listed z ∙ rw e (digit-off 3 scheme (turned_away z t));
      }

-- ---- The rules in order

module _ (x : Settings) (q : Question) (ok : Sound x) (r : InRange q) where
  pub small : (mag q.north < 60000) × Longitude q.east
  small = ((in_span q ((range-said q).so_yes r)).0, (r.west, r.east))

  -- the hour against the window, the position against the boxes
  pub window-holds : Says (is_in_window x.hours.start x.hours.end q.hour) (Window x q)
  window-holds = window-said x.hours.start x.hours.end q.hour ok.hours.0 ok.hours.1 r.hour

  pub inhibiting-holds : Says (ltb 0 (first_holding x.regions.inhibiting (minutes q.north) (minutes q.east))) (Inhibiting x q)
  inhibiting-holds = some-said q.north q.east small.0 small.1 x.regions.inhibiting ok.regions.inhibiting.boxes

  pub reporting-holds : Says (ltb 0 (first_holding x.regions.reporting (minutes q.north) (minutes q.east))) (Reporting x q)
  reporting-holds = some-said q.north q.east small.0 small.1 x.regions.reporting ok.regions.reporting.boxes

  -- the tests of section 2 as the rules have them
  abbrev pub inside : ℕ
  inside = inhibiting_box (flag_of x Regions) x.regions.inhibiting (minutes q.north) (minutes q.east)

  abbrev pub outside : Bool
  outside = no_reporting_box (flag_of x Regions) x.regions.reporting (minutes q.north) (minutes q.east)

  pub inside-said : Says (ltb 0 inside) ((flag_of x Regions ≡ 1) × Inhibiting x q)
  unfolding inhibiting_box
  inside-said =
      by_test (eqb (flag_of x Regions) 1)
      (λ t. rw t (reworded inhibiting-holds (λ i. (eqb-true (flag_of x Regions) 1 t, i)) (λ p. p.1)))
      (λ t. rw t (never-said (λ p. eqb-false (flag_of x Regions) 1 t p.0)))

  pub outside-said : Says outside ((flag_of x Regions ≡ 1) × ((0 < x.regions.reporting.count) × ¬ Reporting x q))
  unfolding no_reporting_box
  outside-said =
      both-said (eq-said (flag_of x Regions) 1)
      (both-said (lt-said 0 x.regions.reporting.count)
      (none_said q.north q.east small.0 small.1 x.regions.reporting ok.regions.reporting.boxes))

  -- what silences every phase
  abbrev silenced : Bool
  silenced =
      eqb (flag_of x Amdar) 0
      || ((eqb (flag_of x InhibitHours) 1 && is_in_window x.hours.start x.hours.end q.hour) || (ltb 0 inside || outside))

  abbrev Quiet : Type 0
  Quiet =
      (flag_of x Amdar ≡ 0)
      ⊎ (((flag_of x InhibitHours ≡ 1) × Window x q)
      ⊎ (((flag_of x Regions ≡ 1) × Inhibiting x q) ⊎ ((flag_of x Regions ≡ 1) × ((0 < x.regions.reporting.count) × ¬ Reporting x q))))

  quiet-said : Says silenced Quiet
  quiet-said =
      either_said (eq-said (flag_of x Amdar) 0)
      (either_said (both-said (eq-said (flag_of x InhibitHours) 1) window-holds) (either_said inside-said outside-said))

  heard_loud : Heard x q → ¬ Quiet
  heard_loud h (inl e) = omega (arith, h.amdar)
  heard_loud h (inr (inl p)) = in_window h.hours
    where
      in_window : (flag_of x InhibitHours ≡ 0) ⊎ ¬ Window x q → ⊥
      in_window (inl e) = omega (arith, p.0)
      in_window (inr n) = n p.1
  heard_loud h (inr (inr p)) = in_places h.places p
    where
      in_places : (flag_of x Regions ≡ 0) ⊎ (¬ Inhibiting x q × ((x.regions.reporting.count ≡ 0) ⊎ Reporting x q))
          → ((flag_of x Regions ≡ 1) × Inhibiting x q) ⊎ ((flag_of x Regions ≡ 1) × ((0 < x.regions.reporting.count) × ¬ Reporting x q)) → ⊥
      in_places (inl e) (inl o) = omega (arith, o.0)
      in_places (inl e) (inr o) = omega (arith, o.0)
      in_places (inr (n, b)) (inl o) = n o.1
      in_places (inr (n, inl e)) (inr o) = omega (arith, o.1.0)
      in_places (inr (n, inr b)) (inr o) = o.1.1 b

  in_order_lem : decision_of (reason_for x q) ≡ cond silenced Silent (decision_of (phase_reason x q.phase q.airfield))
  unfolding reason_for
  in_order_lem =
      silent-first _ _ _ _ (phase_reason x q.phase q.airfield) refl refl refl refl (eqb (flag_of x Amdar) 0)
      (eqb (flag_of x InhibitHours) 1 && is_in_window x.hours.start x.hours.end q.hour) (ltb 0 inside) outside

  quiet-silent : Quiet → decision_of (reason_for x q) ≡ Silent
  quiet-silent e = in_order_lem ∙ rw (quiet-said.so_yes e)

  -- where nothing silences the aircraft, its phase decides
  pub heard-past : Heard x q → reason_for x q ≡ phase_reason x q.phase q.airfield
  unfolding reason_for
  heard-past h =
      let loud = heard_loud h in
      rw (
        says_no (eq-said (flag_of x Amdar) 0) (λ e. loud (inl e)),
        says_no (both-said (eq-said (flag_of x InhibitHours) 1) window-holds) (λ p. loud (inr (inl p))),
        says_no inside-said (λ p. loud (inr (inr (inl p)))),
        says_no outside-said (λ p. loud (inr (inr (inr p)))),
      )

  heard : {d : Decision} → Heard x q → decision_of (phase_reason x q.phase q.airfield) ≡ d → decision_of (reason_for x q) ≡ d
  heard h e = ap decision_of (heard-past h) ∙ e

  -- a question in range is decided as the sentences say
  rules_follow : Rules x q (decision_of (reason_for x q))
  unfolding phase_reason
  rules_follow =
      record {
        amdar-off = λ e. quiet-silent (inl e);
        in_window = λ o w. quiet-silent (inr (inl (o, w)));
        in_inhibiting = λ o i. quiet-silent (inr (inr (inl (o, i))));
        in_no-reporting = λ o s n. quiet-silent (inr (inr (inr (o, (s, n)))));
        level = λ h p. record { on = λ e. heard h (rw (p, e)); off = λ e. heard h (rw (p, e)) };
        ascent = λ h p. by_own h (of_ascent x) refl (rw p);
        descent = λ h p. by_own h (of_descent x) refl (rw p);
      }
    where
      by_own : Heard x q → (own : Own) → eqb own.flag_number 6 ≡ false
          → decision_of (phase_reason x q.phase q.airfield) ≡ decision_of (given x own q.airfield)
          → Profile x own q.airfield (decision_of (reason_for x q))
      by_own h own other e = rw (heard h e) (profile-follows x own q.airfield other)

-- ---- The theorem

-- every question to every configuration is answered as document 01 says
pub answers : (x : Settings) (q : Question) → Answers x q (decided x q)
unfolding decided explained
answers x q =
    record {
      twelve = λ v. rw v;
      five = λ v n. rw (v, says_no (range-said q) n);
      four = λ v r n. rw (v, (range-said q).so_yes r, says_no (airfield-said q.airfield) n);
      decided = λ v r a.
          record {
            decision = decision_of (reason_for x q);
            is = rw (v, (range-said q).so_yes r, (airfield-said q.airfield).so_yes a);
            rules = rules_follow x q (sound x v) r;
          };
    }
