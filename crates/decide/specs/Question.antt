-- What is asked when it is decided whether to report.
use Rattle.std.specs.Prelude.{List, ℕ, ℤ}

-- phase (0 ascent, 1 level, 2 descent), latitude and longitude in minutes, hour and airfield
pub record Question : Type 0 where
  pub phase : ℕ
  pub north : ℤ
  pub east : ℤ
  pub hour : ℕ
  pub airfield : List ℕ
