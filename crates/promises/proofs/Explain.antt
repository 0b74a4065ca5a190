-- The promises of the explanation, kept.
use mathlib.Core.Path.{◌≡◌, refl, sym, ap, ◌∙◌}
use mathlib.Core.Logic.{◌↔◌}
use mathlib.Core.Bool.{cond}
use Prim.Native.Nat.{ℕ, ◌≤◌}
use native.Mathlib.Omega.{arith}
use lib.Dec.{eqb}
use Rattle.settings.specs.declared.Settings.{Settings}
use Rattle.decide.specs.Question.{Question}
use Rattle.decide.specs.Reason.{reason_for, explained, decided_by, decided}
use Rattle.decide.specs.Why.{When}
use Rattle.decide.specs.declared.Reason.{Reason}
use Rattle.decide.specs.declared.Reason.TheVariants.{AmdarOff, Hours, InhibitingBox, NoReportingBox, FlagOn, Digit, FlagOff, AirfieldInhibited, AirfieldNotSelected}
use Rattle.std.specs.Prelude.{Result, Ok, Err}
use Rattle.text.specs.declared.Code.{Code}
use Rattle.decide.proofs.Why.{some-reason, exactly}
use Rattle.desk.specs.Decisions.{decided_numbers, reason_code, reason_number, explained_numbers}
use Rattle.promises.specs.Explain.{told, Asked, Names, Reasons, ExplainPromises}

-- ---- The two numbers tell the reason

abbrev reason_of : ℕ → ℕ → Reason
reason_of c n =
    cond (eqb c 1) AmdarOff
    (cond (eqb c 2) Hours
    (cond (eqb c 3) (InhibitingBox n)
    (cond (eqb c 4) NoReportingBox
    (cond (eqb c 5) (FlagOn n)
    (cond (eqb c 6) (Digit n)
    (cond (eqb c 7) (FlagOff n) (cond (eqb c 8) AirfieldInhibited AirfieldNotSelected)))))))

told-apart : (r : Reason) → r ≡ reason_of (reason_code r) (reason_number r)
told-apart AmdarOff = refl
told-apart Hours = refl
told-apart (InhibitingBox n) = refl
told-apart NoReportingBox = refl
told-apart (FlagOn n) = refl
told-apart (Digit n) = refl
told-apart (FlagOff n) = refl
told-apart AirfieldInhibited = refl
told-apart AirfieldNotSelected = refl

one-to-nine : (r : Reason) → (1 ≤ reason_code r) × (reason_code r ≤ 9)
one-to-nine AmdarOff = (omega arith, omega arith)
one-to-nine Hours = (omega arith, omega arith)
one-to-nine (InhibitingBox n) = (omega arith, omega arith)
one-to-nine NoReportingBox = (omega arith, omega arith)
one-to-nine (FlagOn n) = (omega arith, omega arith)
one-to-nine (Digit n) = (omega arith, omega arith)
one-to-nine (FlagOff n) = (omega arith, omega arith)
one-to-nine AirfieldInhibited = (omega arith, omega arith)
one-to-nine AirfieldNotSelected = (omega arith, omega arith)

bare_of : (r : Reason) → ¬ (reason_code r ≡ 3) → ¬ (reason_code r ≡ 5) → ¬ (reason_code r ≡ 6) → ¬ (reason_code r ≡ 7) → reason_number r ≡ 0
bare_of AmdarOff a b c d = refl
bare_of Hours a b c d = refl
bare_of (InhibitingBox n) a b c d = absurd (a refl)
bare_of NoReportingBox a b c d = refl
bare_of (FlagOn n) a b c d = absurd (b refl)
bare_of (Digit n) a b c d = absurd (c refl)
bare_of (FlagOff n) a b c d = absurd (d refl)
bare_of AirfieldInhibited a b c d = refl
bare_of AirfieldNotSelected a b c d = refl

-- ---- A question that is not refused

module _ (x : Settings) (q : Question) (a : Asked x q) where
  is : explained x q ≡ Ok (reason_for x q)
  is = some-reason x q a.settings a.range a.airfield

  when : (e : Reason) → (explained x q ≡ Ok e) ↔ When x q e
  when e = exactly x q a.settings a.range a.airfield e

  reason-is : (told x q).reason ≡ reason_code (reason_for x q)
  reason-is = ap (λ (e : Result Reason Code). (explained_numbers e).reason) is

  number_is : (told x q).number ≡ reason_number (reason_for x q)
  number_is = ap (λ (e : Result Reason Code). (explained_numbers e).number) is

  -- the numbers that were told are those of the reason that was given
  given_is : {e : Reason} (c n : ℕ) → (told x q).reason ≡ c → (told x q).number ≡ n → reason_of c n ≡ e → explained x q ≡ Ok e
  given_is c n f g k =
      is
      ∙ ap Ok
      (told-apart (reason_for x q)
      ∙ ap (λ (m : ℕ). reason_of m (reason_number (reason_for x q))) (sym reason-is ∙ f)
      ∙ ap (reason_of c) (sym number_is ∙ g)
      ∙ k)

  -- a reason that names nothing, by its number
  plain : (c : ℕ) (e : Reason) → reason_code e ≡ c → ((n : ℕ) → reason_of c n ≡ e) → ((told x q).reason ≡ c) ↔ When x q e
  plain c e k d = (
    λ h. (when e).0 (given_is c (told x q).number h refl (d (told x q).number)),
    λ w. ap (λ (z : Result Reason Code). (explained_numbers z).reason) ((when e).1 w) ∙ k,
  )

  -- and one that names a box, a flag or a section
  naming : (c n : ℕ) (e : Reason) → reason_code e ≡ c → reason_number e ≡ n → reason_of c n ≡ e → Names x q c n ↔ When x q e
  naming c n e k m d = (
    λ h. (when e).0 (given_is c n h.0 h.1 d),
    λ w. (
      ap (λ (z : Result Reason Code). (explained_numbers z).reason) ((when e).1 w) ∙ k,
      ap (λ (z : Result Reason Code). (explained_numbers z).number) ((when e).1 w) ∙ m,
    ),
  )

  reasons : Reasons x q
  reasons =
      record {
        amdar-off = plain 1 AmdarOff refl (λ n. refl);
        hours = plain 2 Hours refl (λ n. refl);
        box = λ n. naming 3 n (InhibitingBox n) refl refl refl;
        no-box = plain 4 NoReportingBox refl (λ n. refl);
        flag-on = λ n. naming 5 n (FlagOn n) refl refl refl;
        digit = λ n. naming 6 n (Digit n) refl refl refl;
        flag_off = λ n. naming 7 n (FlagOff n) refl refl refl;
        inhibited = plain 8 AirfieldInhibited refl (λ n. refl);
        not_selected = plain 9 AirfieldNotSelected refl (λ n. refl);
        bare = λ a b c d. number_is ∙ bare_of (reason_for x q) (λ h. a (reason-is ∙ h)) (λ h. b (reason-is ∙ h)) (λ h. c (reason-is ∙ h)) (λ h. d (reason-is ∙ h));
        least = rw reason-is (one-to-nine (reason_for x q)).0;
        most = rw reason-is (one-to-nine (reason_for x q)).1;
      }

-- ---- Every question

same_code : (e : Result Reason Code) → (explained_numbers e).code ≡ (decided_numbers (decided_by e)).code
same_code (Ok r) = refl
same_code (Err code) = refl

same_place : (e : Result Reason Code) → (explained_numbers e).place ≡ (decided_numbers (decided_by e)).place
same_place (Ok r) = refl
same_place (Err code) = refl

same-decision : (e : Result Reason Code) → (explained_numbers e).decision ≡ (decided_numbers (decided_by e)).decision
same-decision (Ok r) = refl
same-decision (Err code) = refl

unnamed : (e : Result Reason Code) → ¬ ((explained_numbers e).code ≡ 0)
    → ((explained_numbers e).reason ≡ 0) × ((explained_numbers e).number ≡ 0)
unnamed (Ok r) n = absurd (n refl)
unnamed (Err code) n = (refl, refl)

no-spare : (e : Result Reason Code) → (explained_numbers e).spare ≡ 0
no-spare (Ok r) = refl
no-spare (Err code) = refl

pub explain_promises : ExplainPromises
unfolding decided
explain_promises =
    record {
      code = λ x q. same_code (explained x q);
      place = λ x q. same_place (explained x q);
      decision = λ x q. same-decision (explained x q);
      reasons = reasons;
      refused = λ x q n. unnamed (explained x q) n;
      spare = λ x q. no-spare (explained x q);
    }
