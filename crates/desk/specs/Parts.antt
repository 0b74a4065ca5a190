-- The answer of finding a section, as the C host gets it.
use Rattle.std.specs.Prelude.{ℕ, Result, Ok, Err}
use Rattle.text.specs.Codes.{number_of}
use Rattle.text.specs.declared.Refusal.{Refusal}
use Rattle.finder.specs.declared.Part.{Part}
use Rattle.desk.specs.declared.HostPart.{HostPart}

abbrev pub part_or_refusal : ℕ → ℕ → ℕ → HostPart
part_or_refusal place length code = record { place = place; length = length; code = code; spare = 0; rest = 0 }

-- where the part begins and how long it is; of a refusal the code and place, and no length
abbrev pub part_numbers : Result Part Refusal → HostPart
part_numbers (Ok p) = part_or_refusal p.at p.length 0
part_numbers (Err r) = part_or_refusal r.place 0 (number_of r.code)
