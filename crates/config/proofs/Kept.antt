-- What applying leaves: the new settings where it gives some, and the old ones where it refuses.
use mathlib.Core.Path.{◌≡◌, refl, sym, ap}
use mathlib.Core.Logic.{◌↔◌}
use mathlib.Core.Bool.{Bool, true, false, cond}
use mathlib.Core.List.{List}
use Prim.Native.Nat.{ℕ, ◌+◌, ◌-◌, ◌<◌}
use lib.Dec.{eqb}
use lib.ListN.{length, get_or}
use Rattle.text.specs.Checks.{must, ◌and_then◌}
use Rattle.text.proofs.Checks.{must-held, both-fine}
use Rattle.settings.specs.Settings.{contents_of}
use Rattle.settings.specs.declared.Settings.{Settings}
use Rattle.command.specs.Text.{is_named, check_command}
use Rattle.section.specs.Layout.{numbers}
use Rattle.command.specs.Sections.{held_in}
use Rattle.command.proofs.Accepted.{accepted}
use Rattle.command.proofs.Each.{Each}
use Rattle.config.specs.Config.{outcome, applied, kept_by, kept}
use Rattle.config.specs.declared.Applied.{Applied}
use Rattle.settings.specs.Valid.{valid}
use Rattle.config.proofs.Apply.{flag-after, section-after}
use Rattle.std.specs.Prelude.{Result, Ok, Err}
use Rattle.text.specs.declared.Refusal.{Refusal}
use Rattle.text.specs.declared.Code.TheVariants.{SettingsInvalid}

module _ (x : Settings) (s : List ℕ) where
  -- applying gives something just where the configuration is valid and the command's text accepted
  pub applied-ok : (a : Applied) → (applied x s ≡ Ok a) ↔ ((valid x ≡ true) × (check_command s ≡ Ok tt) × (outcome x s ≡ a))
  unfolding applied
  applied-ok a = (
    λ e.
        let v = both-fine (must (valid x) SettingsInvalid 0) (check_command s and_then Ok (outcome x s)) a e in
        let c = both-fine (check_command s) (Ok (outcome x s)) a v.1 in
        (must-held (valid x) SettingsInvalid 0 v.0, c.0, cc),
    λ e. rw (e.0, e.1, e.2),
  )

  -- the settings afterwards are those of the answer
  pub kept_new : (a : Applied) → applied x s ≡ Ok a → a.settings ≡ kept x s
  unfolding kept
  kept_new a e = let f = (applied-ok a).0 e in rw (f.0, f.1, ← f.2)

  -- or what they were
  pub kept_old : (r : Refusal) → applied x s ≡ Err r → x ≡ kept x s
  unfolding applied kept
  kept_old r e = go (valid x) (check_command s) e
    where
      go : (t : Bool) (c : Result (Unit {0}) Refusal) → (must t SettingsInvalid 0 and_then c and_then Ok (outcome x s)) ≡ Err r
          → x ≡ cond t (kept_by c x s) x
      go true (Ok u) g = cc
      go true (Err d) g = refl
      go false c g = refl

-- ---- What an accepted apply does

module _ (x : Settings) (s : List ℕ) (a : Applied) (z : applied x s ≡ Ok a) where
  -- the downlink digit is the command's
  pub applied-digit : a.downlink ≡ get_or s 12 0 - 48
  applied-digit = let f = (applied-ok x s a).0 z in ap (λ (b : Applied). b.downlink) (sym f.2)

  -- flag i stays where the command's is `9`, and else is the command's
  pub kept-flag : (i : ℕ) → length x.flags ≡ 7 → i < 7
      → get_or (kept x s).flags i 0 ≡ cond (eqb (get_or s (5 + i) 0) 57) (get_or x.flags i 0) (get_or s (5 + i) 0 - 48)
  unfolding kept
  kept-flag i n h = let f = (applied-ok x s a).0 z in rw (f.0, f.1) (flag-after x s i (accepted s f.1) n h)

  -- a named section is the command's, whole, any other what it was
  pub kept-section : Each (λ k. contents_of (kept x s) k ≡ cond (is_named s k) (held_in s k) (contents_of x k)) numbers
  unfolding kept
  kept-section = let f = (applied-ok x s a).0 z in rw (f.0, f.1) (section-after x s (accepted s f.1))
