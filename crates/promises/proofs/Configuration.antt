-- The promises of the configuration, kept.
use mathlib.Core.Path.{◌≡◌, refl, sym, ◌∙◌}
use mathlib.Core.Logic.{◌↔◌}
use mathlib.Core.Bool.{Bool, true, false, cond}
use mathlib.Core.List.{List}
use Prim.Native.Nat.{ℕ, ◌-◌}
use native.Mathlib.Omega.{arith}
use lib.ListN.{get_or}
use Rattle.text.specs.Checks.{must, ◌and_then◌}
use Rattle.text.specs.Codes.{number_of}
use Rattle.text.specs.declared.Code.TheVariants.{SettingsInvalid}
use Rattle.text.proofs.Cases.{by_test}
use Rattle.text.proofs.Codes.{numbered}
use Rattle.section.specs.Layout.{layout_of}
use Rattle.section.specs.Contents.{contents_at}
use Rattle.settings.specs.Settings.{contents_of, settings_from, regions_from, airports_from, enroute_from, ascent_from, hours_from}
use Rattle.settings.specs.declared.Settings.{Settings}
use Rattle.command.specs.Text.{is_named, check_command}
use Rattle.command.specs.Sections.{held_in, place_of}
use Rattle.config.specs.Config.{outcome, applied, kept_by, kept}
use Rattle.config.specs.declared.Applied.{Applied}
use Rattle.settings.specs.Valid.{reset, valid}
use Rattle.config.proofs.Allowed.{valid_same}
use Rattle.config.proofs.Kept.{applied-ok, kept-flag, kept-section}
use Rattle.config.proofs.Valid.{applies_valid, reset-valid}
use Rattle.commute.proofs.Numbered.{of_number}
use Rattle.desk.specs.Numbers.{accepted, answer_of, check_numbers}
use Rattle.desk.specs.Outcomes.{valid_numbers, applied_numbers}
use Rattle.promises.specs.Configuration.{check, apply, ConfigurationPromises}
use Rattle.promises.proofs.Codes.{accepted-fine, fine-accepted}
use Rattle.std.specs.Prelude.{Result, Ok, Err}
use Rattle.text.specs.declared.Refusal.{Refusal}

-- ---- Validity, by the code

-- code 0 is answered just where it is
pub valid-zero : (t : Bool) → (valid_numbers t).code ≡ 0 → t ≡ true
valid-zero true e = refl
valid-zero false e = absurd (omega arith)

pub zero-valid : (t : Bool) → t ≡ true → (valid_numbers t).code ≡ 0
zero-valid t e = rw e

is-twelve : (t : Bool) → ¬ ((valid_numbers t).code ≡ 0) → (t ≡ false) × (valid_numbers t ≡ answer_of 12 0)
is-twelve true n = absurd (n refl)
is-twelve false n = (refl, refl)

-- ---- Sections by their number

section-is : (s : List ℕ) (x : Settings) (k : ℕ)
    → cond (is_named s k) (held_in s k) (contents_of x k) ≡ cond (is_named s k) (contents_at (layout_of k) s (place_of s k)) (contents_of x k)
section-is s x k = by_test (is_named s k) (λ (n : is_named s k ≡ true). rw n) (λ (n : is_named s k ≡ false). rw n)

-- ---- Refusals

twelve-first : (x : Settings) (s : List ℕ) → ¬ ((check x).code ≡ 0) → ((apply x s).code ≡ 12) × ((apply x s).place ≡ 0)
unfolding applied
twelve-first x s n = rw (is-twelve (valid x) n).0 (refl, refl)

then_text : (x : Settings) (s : List ℕ) → (check x).code ≡ 0 → ¬ ((check_numbers (check_command s)).code ≡ 0)
    → ((apply x s).code ≡ (check_numbers (check_command s)).code) × ((apply x s).place ≡ (check_numbers (check_command s)).place)
unfolding applied
then_text x s v n = rw (valid-zero (valid x) v) (go (check_command s) n)
  where
    go : (r : Result (Unit {0}) Refusal) → ¬ ((check_numbers r).code ≡ 0)
        → ((applied_numbers (r and_then Ok (outcome x s))).code ≡ (check_numbers r).code)
        × ((applied_numbers (r and_then Ok (outcome x s))).place ≡ (check_numbers r).place)
    go (Ok u) m = absurd (m refl)
    go (Err r) m = (refl, refl)

unchanged : (x : Settings) (s : List ℕ) → ¬ ((apply x s).code ≡ 0) → (kept x s ≡ x) × ((apply x s).downlink ≡ 0)
unfolding applied kept
unchanged x s n = go (valid x) (check_command s) n
  where
    go : (t : Bool) (r : Result (Unit {0}) Refusal) → ¬ ((applied_numbers (must t SettingsInvalid 0 and_then r and_then Ok (outcome x s))).code ≡ 0)
        → (cond t (kept_by r x s) x ≡ x) × ((applied_numbers (must t SettingsInvalid 0 and_then r and_then Ok (outcome x s))).downlink ≡ 0)
    go true (Ok u) m = absurd (m refl)
    go true (Err r) m = (refl, refl)
    go false r m = (refl, refl)

stays_valid : (x : Settings) (s : List ℕ) → (check x).code ≡ 0 → (check (kept x s)).code ≡ 0
unfolding kept
stays_valid x s v =
    let t = valid-zero (valid x) v in rw t (go (check_command s) refl t)
  where
    go : (r : Result (Unit {0}) Refusal) → check_command s ≡ r → valid x ≡ true → (valid_numbers (valid (kept_by r x s))).code ≡ 0
    go (Ok u) e t = zero-valid (valid (kept_by (Ok tt) x s)) (applies_valid x s t e)
    go (Err r) e t = zero-valid (valid x) t

-- ---- Applying, by the code

-- code 0 is answered just where the command is applied
pub applied-is : (x : Settings) (s : List ℕ) → (apply x s).code ≡ 0 → applied x s ≡ Ok (outcome x s)
applied-is x s e = go (applied x s) refl e
  where
    go : (r : Result Applied Refusal) → applied x s ≡ r → (applied_numbers r).code ≡ 0 → applied x s ≡ Ok (outcome x s)
    go (Ok a) k z = rw ((applied-ok x s a).0 k).2 k
    go (Err r) k z = let l = (numbered r.code).least in let w : number_of r.code ≡ 0 = z in absurd (omega arith)

pub applied-zero : (x : Settings) (s : List ℕ) → ((apply x s).code ≡ 0) ↔ ((valid x ≡ true) × (check_command s ≡ Ok tt))
applied-zero x s = (
  λ e. let f = (applied-ok x s (outcome x s)).0 (applied-is x s e) in (f.0, f.1),
  λ b. rw ((applied-ok x s (outcome x s)).1 (b.0, b.1, refl)),
)

pub applied-digit : (x : Settings) (s : List ℕ) → (apply x s).code ≡ 0 → (apply x s).downlink ≡ get_or s 12 0 - 48
applied-digit x s e = rw (applied-is x s e)

reset-is-valid : check reset ≡ accepted 0
reset-is-valid = rw reset-valid

pub configuration_promises : ConfigurationPromises
unfolding reset settings_from regions_from airports_from enroute_from ascent_from hours_from
configuration_promises =
    record {
      after-reset = refl;
      valid-is = λ x. (
        λ e. sym (valid_same x) ∙ valid-zero (valid x) e,
        λ a. zero-valid (valid x) (valid_same x ∙ a),
      );
      twelve = λ x n. (is-twelve (valid x) n).1;
      reset-valid = reset-is-valid;
      twelve-first = twelve-first;
      then_text = then_text;
      accepts = λ x s. (
        λ e. let b = (applied-zero x s).0 e in (zero-valid (valid x) b.0, fine-accepted s b.1),
        λ b. (applied-zero x s).1 (valid-zero (valid x) b.0, accepted-fine s b.1),
      );
      flags = λ x s e i l h. kept-flag x s (outcome x s) (applied-is x s e) i l h;
      sections = λ x s e k a b.
          of_number (λ (j : ℕ). contents_of (kept x s) j ≡ cond (is_named s j) (held_in s j) (contents_of x j))
          (kept-section x s (outcome x s) (applied-is x s e)) k a b
          ∙ section-is s x k;
      downlink = applied-digit;
      stays_valid = stays_valid;
      refused = unchanged;
    }
