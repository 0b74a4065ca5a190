-- What differs between two configurations, as the C host gets it.
use Rattle.std.specs.Prelude.{Result, Ok, Err, replicate}
use Rattle.text.specs.declared.Code.{Code}
use Rattle.difference.specs.declared.Differing.{Differing}
use Rattle.desk.specs.Numbers.{accepted, refused_by}
use Rattle.desk.specs.declared.HostDiffering.{HostDiffering}

-- the place of a refusal is 0, and its list is empty
abbrev pub difference_numbers : Result Differing Code → HostDiffering
difference_numbers (Ok d) = record { answer = accepted d.length; count = d.listed.count; items = d.listed.items }
difference_numbers (Err code) = record { answer = refused_by code; count = 0; items = replicate 15 0 }
