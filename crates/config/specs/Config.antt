-- Document 01, "The command": what applying a command does to the configuration.
use Rattle.std.specs.Prelude.{cond, List, [], ◌∷◌, ℕ, eqb, Result, Ok, Err}
use Rattle.text.specs.Checks.{must, ◌and_then◌}
use Rattle.settings.specs.Settings.{contents_of, settings_from}
use Rattle.settings.specs.Valid.{valid}
use Rattle.settings.specs.declared.Settings.{Settings}
use Rattle.command.specs.Text.{is_named, check_command}
use Rattle.command.specs.Sections.{held_in}
use Rattle.command.specs.Record.{flags_of, downlink_of}
use Rattle.config.specs.declared.Applied.{Applied}
use Rattle.text.specs.declared.Refusal.{Refusal}
use Rattle.text.specs.declared.Code.TheVariants.{SettingsInvalid}

-- ---- Applying sets every flag that isn't 9 and replaces each named section whole; nothing else changes

abbrev pub new_flag : ℕ → ℕ → ℕ
new_flag old v = cond (eqb v 9) old v

unfoldable pub new_flags : List ℕ → List ℕ → List ℕ
new_flags [] vs = []
new_flags (o ∷ os) [] = o ∷ os
new_flags (o ∷ os) (v ∷ vs) = new_flag o v ∷ new_flags os vs

unfoldable pub apply_to : Settings → List ℕ → Settings
apply_to x s =
    settings_from (new_flags x.flags (flags_of s)) (λ (k : ℕ). cond (is_named s k) (held_in s k) (contents_of x k))

-- ---- The answer: a configuration that isn't valid is refused, then come the command's own refusals

abbrev pub outcome : Settings → List ℕ → Applied
outcome x s = record { downlink = downlink_of s; settings = apply_to x s }

unfoldable pub applied : Settings → List ℕ → Result Applied Refusal
applied x s = must (valid x) SettingsInvalid 0 and_then check_command s and_then Ok (outcome x s)

-- what the caller's own record holds afterwards
abbrev pub kept_by : Result (Unit {0}) Refusal → Settings → List ℕ → Settings
kept_by (Ok u) x s = apply_to x s
kept_by (Err r) x s = x

unfoldable pub kept : Settings → List ℕ → Settings
kept x s = cond (valid x) (kept_by (check_command s) x s) x
