-- The sentences of "Whether to report" leave one answer to every question: no two programs that differ follow them.
use mathlib.Core.Path.{◌≡◌, sym, ap, ◌∙◌}
use mathlib.Core.Logic.{◌⊎◌, inl, inr}
use mathlib.Core.List.{List}
use Prim.Native.Nat.{ℕ, ◌≤◌}
use native.Mathlib.Omega.{arith}
use Rattle.text.proofs.Cases.{by_test, by_eq}
use Rattle.settings.specs.declared.Settings.{Settings}
use Rattle.settings.specs.Valid.{valid}
use Rattle.decide.specs.Question.{Question}
use Rattle.decide.specs.Words.{Amdar, InhibitHours, Regions, Airports, Enroute, flag_of, InRange, Own, of_ascent, of_descent}
use Rattle.decide.specs.Rules.{Window, Heard, Level, Admitted, TurnedAway, switched_off, inhibited, not_selected, Profile, Rules, Answers}
use Rattle.decide.specs.declared.Decision.TheVariants.{Silent, Routine, Scheme}
use Rattle.std.specs.Prelude.{Result, Ok, Err}
use Rattle.text.specs.declared.Code.{Code}
use Rattle.text.specs.declared.Code.TheVariants.{NotAllowed, OutOfRange, SettingsInvalid}
use Rattle.decide.specs.declared.Decision.{Decision}
use Rattle.decide.proofs.Sound.{Sound, sound}
use Rattle.decide.proofs.Tests.{by_said}
use Rattle.decide.proofs.Words.{has-said, range-said, airfield-said}
use Rattle.decide.proofs.Answers.{window-holds, inhibiting-holds, reporting-holds}

-- what is so of one thing only
pub record Forced {A : Type 0} (R : A → Type 0) : Type 0 where
  pub value : A
  pub only : (a : A) → R a → a ≡ value

pub bit {ℓ} : (n : ℕ) {P : Type ℓ} → n ≤ 1 → (n ≡ 0 → P) → (n ≡ 1 → P) → P
bit n l f g = by_eq n 0 f (λ (m : n ≡ 0 → ⊥). g (omega arith))

-- ---- Ascent and descent

module _ (x : Settings) (own : Own) (airfield : List ℕ) (flag : own.flag ≤ 1) where
  -- what is not admitted is turned away
  pub admitted-or-not : Admitted own airfield ⊎ TurnedAway own airfield
  admitted-or-not =
      bit own.flag flag (λ f. inr (switched_off f))
      (λ f.
      by_said (has-said airfield own.inhibited) (λ h. inr (inhibited h))
      (λ n.
      by_eq own.selected.count 0 (λ z. inl (record { flag = f; inhibited = n; selected = inl z }))
      (λ (m : own.selected.count ≡ 0 → ⊥).
      by_said (has-said airfield own.selected) (λ h. inl (record { flag = f; inhibited = n; selected = inr h }))
      (λ h. inr (not_selected (omega arith) h)))))

  profile_forced : flag_of x Airports ≤ 1 → own.section ≤ 1 → x.airports.routine ≤ 1 → Forced (Profile x own airfield)
  profile_forced a s r =
      bit (flag_of x Airports) a
      (λ z.
      bit own.flag flag
      (λ f.
      bit own.section s (λ e. record { value = Silent; only = λ d p. p.silent z f e })
      (λ e. record { value = Routine; only = λ d p. p.routine z f e }))
      (λ f. record { value = Scheme; only = λ d p. p.scheme z f }))
      (λ z. listed z admitted-or-not)
    where
      listed : flag_of x Airports ≡ 1 → Admitted own airfield ⊎ TurnedAway own airfield → Forced (Profile x own airfield)
      listed z (inl m) = record { value = Scheme; only = λ d p. p.listed-scheme z m }
      listed z (inr t) =
          bit x.airports.routine r (λ e. record { value = Silent; only = λ d p. p.listed-silent z t e })
          (λ e. record { value = Routine; only = λ d p. p.listed-routine z t e })

-- ---- The rules

module _ (x : Settings) (q : Question) (ok : Sound x) (r : InRange q) where
  level_forced : Forced (Level x)
  level_forced =
      bit (flag_of x Enroute) (ok.flags 5) (λ e. record { value = Silent; only = λ d p. p.off e })
      (λ e. record { value = Routine; only = λ d p. p.on e })

  -- where nothing silences the aircraft, its phase decides
  heard_forced : Heard x q → Forced (Rules x q)
  heard_forced h =
      by_eq q.phase 1
      (λ p. let f = level_forced in record { value = f.value; only = λ d s. f.only d (s.level h p) })
      (λ (m : q.phase ≡ 1 → ⊥).
      by_eq q.phase 0
      (λ p.
      let f = profile_forced x (of_ascent x) q.airfield (ok.flags 4) (ok.flags 3) ok.routine6 ok.airports.routine in
      record { value = f.value; only = λ d s. f.only d (s.ascent h p) })
      (λ (n : q.phase ≡ 0 → ⊥).
      let p : q.phase ≡ 2 = omega (arith, r.phase) in
      let f = profile_forced x (of_descent x) q.airfield (ok.flags 6) (ok.flags 3) ok.routine8 ok.airports.routine in
      record { value = f.value; only = λ d s. f.only d (s.descent h p) }))

  rules_forced : Forced (Rules x q)
  rules_forced =
      bit (flag_of x Amdar) (ok.flags 0) (λ e. record { value = Silent; only = λ d s. s.amdar-off e })
      (λ a.
      bit (flag_of x InhibitHours) (ok.flags 1) (λ e. in_places a (inl e))
      (λ e.
      by_said (window-holds x q ok r) (λ w. record { value = Silent; only = λ d s. s.in_window e w })
      (λ n. in_places a (inr n))))
    where
      in_places : flag_of x Amdar ≡ 1 → (flag_of x InhibitHours ≡ 0) ⊎ ¬ Window x q → Forced (Rules x q)
      in_places a h =
          bit (flag_of x Regions) (ok.flags 2) (λ e. heard_forced (record { amdar = a; hours = h; places = inl e }))
          (λ e.
          by_said (inhibiting-holds x q ok r) (λ i. record { value = Silent; only = λ d s. s.in_inhibiting e i })
          (λ n.
          by_eq x.regions.reporting.count 0
          (λ z. heard_forced (record { amdar = a; hours = h; places = inr (n, inl z) }))
          (λ (m : x.regions.reporting.count ≡ 0 → ⊥).
          by_said (reporting-holds x q ok r) (λ i. heard_forced (record { amdar = a; hours = h; places = inr (n, inr i) }))
          (λ o. record { value = Silent; only = λ d s. s.in_no-reporting e (omega arith) o }))))

-- ---- The theorem

answers_forced : (x : Settings) (q : Question) → Forced (Answers x q)
answers_forced x q =
    by_test (valid x)
    (λ v.
    by_said (range-said q)
    (λ r.
    by_said (airfield-said q.airfield)
    (λ a.
    let f = rules_forced x q (sound x v) r in
    record {
      value = Ok f.value;
      only = λ d s. let k = s.decided v r a in k.is ∙ ap Ok (f.only k.decision k.rules);
    })
    (λ n. record { value = Err NotAllowed; only = λ d s. s.four v r n }))
    (λ n. record { value = Err OutOfRange; only = λ d s. s.five v n }))
    (λ n. record { value = Err SettingsInvalid; only = λ d s. s.twelve n })

-- two answers to one question that both follow the document are the same
pub one_answer : (x : Settings) (q : Question) (r s : Result Decision Code) → Answers x q r → Answers x q s → r ≡ s
one_answer x q r s a b = let f = answers_forced x q in f.only r a ∙ sym (f.only s b)
