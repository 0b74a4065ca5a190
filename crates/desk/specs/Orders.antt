-- Whether two commands may be sent either way round, as the C host gets it: yes, and the flags and sections that say no.
use Rattle.std.specs.Prelude.{cond, ◌&&◌, ℕ, eqb, Result, Ok, Err}
use Rattle.text.specs.Codes.{number_of}
use Rattle.text.specs.declared.Refusal.{Refusal}
use Rattle.commute.specs.declared.Apart.{Apart}
use Rattle.commute.specs.declared.Fault.{Fault}
use Rattle.commute.specs.declared.Fault.TheVariants.{First, Second}
use Rattle.desk.specs.declared.HostCommute.{HostCommute}

-- yes is 1 where nothing stands against it
abbrev pub yes_number : ℕ → ℕ → ℕ
yes_number flags sections = cond (eqb flags 0 && eqb sections 0) 1 0

-- a refusal of one of the two texts carries nothing but its code and place and the text's number
abbrev pub commute_refused : ℕ → Refusal → HostCommute
commute_refused text r =
    record { place = r.place; code = number_of r.code; text = text; yes = 0; flags = 0; sections = 0; spare = 0; rest = 0 }

abbrev pub commute_numbers : Result Apart Fault → HostCommute
commute_numbers (Ok x) =
    record { place = 0; code = 0; text = 0; yes = yes_number x.flags x.sections; flags = x.flags; sections = x.sections; spare = 0; rest = 0 }
commute_numbers (Err (First r)) = commute_refused 1 r
commute_numbers (Err (Second r)) = commute_refused 2 r
