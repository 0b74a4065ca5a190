-- Document 02, §12: "two accepted commands give the same configuration in both orders, from every valid configuration, exactly when
-- each flag and section that both set has the same contents in both".
use Rattle.std.specs.Prelude.{◌≡◌, true, List, ℕ, ◌<◌, ◌≤◌}
use Rattle.settings.specs.Valid.{valid}
use Rattle.settings.specs.declared.Settings.{Settings}
use Rattle.command.specs.Text.{is_named}
use Rattle.command.specs.Sections.{held_in}
use Rattle.config.specs.Config.{apply_to}
use Rattle.commute.specs.Commute.{sets, flag_of}

-- the same configuration in both orders, from every valid one
abbrev pub EitherWay : List ℕ → List ℕ → Type 0
EitherWay a b = (x : Settings) → valid x ≡ true → apply_to (apply_to x a) b ≡ apply_to (apply_to x b) a

-- each flag and section that both set has the same contents in both
pub record Agree (a b : List ℕ) : Type 0 where
  pub flags : (i : ℕ) → i < 7 → sets (flag_of a i) ≡ true → sets (flag_of b i) ≡ true → flag_of a i ≡ flag_of b i
  pub sections : (k : ℕ) → 2 ≤ k → k ≤ 9 → is_named a k ≡ true → is_named b k ≡ true → held_in a k ≡ held_in b k
