-- The derived equivalent gust, as the C host gets it.
use Rattle.std.specs.Prelude.{ℕ, ℤ, pos, Result, Ok, Err}
use Rattle.text.specs.Codes.{number_of}
use Rattle.text.specs.declared.Code.{Code}
use Rattle.desk.specs.declared.HostGust.{HostGust}

-- the place of a refusal is always 0: there is none in the answer
abbrev pub host_gust : ℤ → ℕ → HostGust
host_gust gust code = record { gust = gust; code = code; spare = 0; rest = 0 }

-- a refusal carries nothing but its code
abbrev pub gust_numbers : Result ℤ Code → HostGust
gust_numbers (Ok g) = host_gust g 0
gust_numbers (Err code) = host_gust (pos 0) (number_of code)
