-- Document 01, "The command": what is promised of esk_reset, esk_settings_valid and esk_apply.
use Rattle.std.specs.Prelude.{◌≡◌, ◌↔◌, true, cond, List, [], ◌∷◌, ℕ, ◌+◌, ◌-◌, ◌<◌, ◌≤◌, eqb, length, get_or}
use Rattle.section.specs.Layout.{layout_of}
use Rattle.section.specs.Contents.{contents_at}
use Rattle.settings.specs.Settings.{contents_of}
use Rattle.settings.specs.declared.Settings.{Settings}
use Rattle.command.specs.Text.{is_named, check_command}
use Rattle.command.specs.Sections.{place_of}
use Rattle.command.specs.Allowed.{allowed_settings}
use Rattle.config.specs.Config.{applied, kept}
use Rattle.settings.specs.Valid.{reset, valid}
use Rattle.desk.specs.Numbers.{accepted, answer_of, check_numbers}
use Rattle.desk.specs.Outcomes.{valid_numbers, applied_numbers}
use Rattle.desk.specs.declared.Answer.{Answer}
use Rattle.desk.specs.declared.HostApplied.{HostApplied}
use Rattle.promises.specs.Zero.{no_boxes, no_lists}

-- ---- The calls, by their contracts

abbrev pub check : Settings → Answer
check x = valid_numbers (valid x)

abbrev pub apply : Settings → List ℕ → HostApplied
apply x s = applied_numbers (applied x s)

-- ---- The promises

pub record ConfigurationPromises : Type 0 where
  -- "After reset: flags 1 0 0 0 1 1 1; counts 00; routine 0 in section 3, 1 in 6 and 8; 4 is 07, 1; 5 is 1, 06, 090, 20, 051,
  -- 200, 2, 1; 9 is 00, 00." 7 is 1, 040, 200, 2, 1 in source document 003
  pub after-reset : reset
      ≡ record {
        flags = 1 ∷ 0 ∷ 0 ∷ 0 ∷ 1 ∷ 1 ∷ 1 ∷ [];
        regions = record { reporting = no_boxes; inhibiting = no_boxes };
        airports = record { selected = no_lists; inhibited = no_lists; routine = 0 };
        enroute = record { interval = 7; wind = 1 };
        ascent = record { mode = 1; interval1 = 6; duration = 90; interval2 = 20; total = 51; top = 200; list = 2; timer = 1 };
        descent = record { mode = 1; interval = 40; top = 200; list = 2; timer = 1 };
        routine6 = 1;
        routine8 = 1;
        hours = record { start = 0; end = 0 };
      }
  -- valid: the flags are 0 or 1 and every section is within its ranges; 0 or 12
  pub valid-is : (x : Settings) → ((check x).code ≡ 0) ↔ (allowed_settings x ≡ true)
  pub twelve : (x : Settings) → ¬ ((check x).code ≡ 0) → check x ≡ answer_of 12 0
  pub reset-valid : check reset ≡ accepted 0
  -- "Applying checks the configuration (12), then the command's text."
  pub twelve-first : (x : Settings) (s : List ℕ) → ¬ ((check x).code ≡ 0) → ((apply x s).code ≡ 12) × ((apply x s).place ≡ 0)
  pub then_text : (x : Settings) (s : List ℕ) → (check x).code ≡ 0 → ¬ ((check_numbers (check_command s)).code ≡ 0)
      → ((apply x s).code ≡ (check_numbers (check_command s)).code) × ((apply x s).place ≡ (check_numbers (check_command s)).place)
  -- accepted is code 0
  pub accepts : (x : Settings) (s : List ℕ)
      → ((apply x s).code ≡ 0) ↔ (((check x).code ≡ 0) × ((check_numbers (check_command s)).code ≡ 0))
  -- "Applying sets every flag that isn't 9": byte 57
  pub flags : (x : Settings) (s : List ℕ) → (apply x s).code ≡ 0 → (i : ℕ) → length x.flags ≡ 7 → i < 7
      → get_or (kept x s).flags i 0 ≡ cond (eqb (get_or s (5 + i) 0) 57) (get_or x.flags i 0) (get_or s (5 + i) 0 - 48)
  -- "and replaces each named section whole; nothing else changes": with what stands there in the text
  pub sections : (x : Settings) (s : List ℕ) → (apply x s).code ≡ 0 → (k : ℕ) → 2 ≤ k → k ≤ 9
      → contents_of (kept x s) k ≡ cond (is_named s k) (contents_at (layout_of k) s (place_of s k)) (contents_of x k)
  -- "An accepted apply also returns the command's downlink digit."
  pub downlink : (x : Settings) (s : List ℕ) → (apply x s).code ≡ 0 → (apply x s).downlink ≡ get_or s 12 0 - 48
  -- a valid configuration stays valid
  pub stays_valid : (x : Settings) (s : List ℕ) → (check x).code ≡ 0 → (check (kept x s)).code ≡ 0
  -- a refusal leaves the configuration, and carries no digit
  pub refused : (x : Settings) (s : List ℕ) → ¬ ((apply x s).code ≡ 0) → (kept x s ≡ x) × ((apply x s).downlink ≡ 0)
