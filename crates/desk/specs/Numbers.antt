-- Document 01's numbers for each case of an answer, as the C host gets them.
use Rattle.std.specs.Prelude.{ℕ, pos, Result, Ok, Err, Some, None}
use Rattle.packed.specs.Packed.{Figure}
use Rattle.text.specs.Codes.{number_of}
use Rattle.text.specs.declared.Code.{Code}
use Rattle.text.specs.declared.Refusal.{Refusal}
use Rattle.desk.specs.declared.Answer.{Answer}
use Rattle.desk.specs.declared.PackedAnswer.{PackedAnswer}

-- ---- Answers that carry a code, a place and a length

abbrev pub accepted : ℕ → Answer
accepted n = record { place = 0; length = n; code = 0; text = 0; spare = 0 }

-- a code and a place, and no length
abbrev pub answer_of : ℕ → ℕ → Answer
answer_of c p = record { place = p; length = 0; code = c; text = 0; spare = 0 }

-- a refusal by its number
abbrev pub refused : Refusal → Answer
refused r = answer_of (number_of r.code) r.place

-- a code alone: its place is 0
abbrev pub refused_by : Code → Answer
refused_by code = answer_of (number_of code) 0

-- a length, or the refusal
abbrev pub length_numbers : Result ℕ Refusal → Answer
length_numbers (Ok n) = accepted n
length_numbers (Err r) = refused r

-- a check gives no length
abbrev pub check_numbers : Result (Unit {0}) Refusal → Answer
check_numbers (Ok u) = accepted 0
check_numbers (Err r) = refused r

-- writing gives the length of the text
abbrev pub write_numbers : Result (Unit {0}) Refusal → ℕ → Answer
write_numbers (Ok u) n = accepted n
write_numbers (Err r) n = refused r

-- ---- Packed figures

abbrev pub packed_numbers : Result Figure Refusal → PackedAnswer
packed_numbers (Ok (Some x)) = record { number = x; place = 0; code = 0; given = 1 }
packed_numbers (Ok None) = record { number = pos 0; place = 0; code = 0; given = 0 }
packed_numbers (Err r) = record { number = pos 0; place = r.place; code = number_of r.code; given = 0 }

-- a lone field's writing: its length is the width
abbrev pub write_answer : Result (Unit {0}) Code → ℕ → Answer
write_answer (Ok u) w = accepted w
write_answer (Err code) w = refused_by code
