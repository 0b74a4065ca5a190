-- What the inner functions answer. No promise to a caller rests on these names.
use Rattle.std.specs.Prelude.{ℕ, Result, Ok, Err}
use Rattle.text.specs.declared.Refusal.{Refusal}
use Rattle.finder.specs.declared.Part.{Part}
use Rattle.join.specs.declared.Fault.{Fault}
use Rattle.desk.specs.Numbers.{accepted}
use Rattle.desk.specs.Joins.{fault_numbers}
use Rattle.desk.specs.declared.Answer.{Answer}

-- the numbers of a join from what it tells, which has the length in place of the text
abbrev pub told_numbers : Result ℕ Fault → Answer
told_numbers (Ok n) = accepted n
told_numbers (Err f) = fault_numbers f

-- the length that is told, 0 of a refusal
abbrev pub length_in : {E : Type 0} → Result ℕ E → ℕ
length_in (Ok n) = n
length_in (Err e) = 0

abbrev pub found_length : Result Part Refusal → ℕ
found_length (Ok p) = p.length
found_length (Err r) = 0
