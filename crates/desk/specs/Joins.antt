-- The answer of a join, as the C host gets it: "and, for a join, which text (1 or 2, else 0)".
use Rattle.std.specs.Prelude.{ℕ, length, Ok, Err}
use Rattle.text.specs.Codes.{number_of}
use Rattle.text.specs.declared.Refusal.{Refusal}
use Rattle.text.specs.declared.Code.TheVariants.{NoRoom}
use Rattle.join.specs.Join.{Joined}
use Rattle.join.specs.declared.Fault.{Fault}
use Rattle.join.specs.declared.Fault.TheVariants.{First, Second, Room}
use Rattle.desk.specs.Numbers.{accepted, refused_by}
use Rattle.desk.specs.declared.Answer.{Answer}

-- a refusal of one of the two texts
abbrev pub refused_in : ℕ → Refusal → Answer
refused_in text r = record { place = r.place; length = 0; code = number_of r.code; text = text; spare = 0 }

abbrev pub fault_numbers : Fault → Answer
fault_numbers (First r) = refused_in 1 r
fault_numbers (Second r) = refused_in 2 r
fault_numbers Room = refused_by NoRoom

abbrev pub join_numbers : Joined → Answer
join_numbers (Ok t) = accepted (length t)
join_numbers (Err f) = fault_numbers f
