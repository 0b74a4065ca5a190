-- The answer of a search through a board's list, as the C host gets it.
use Rattle.std.specs.Prelude.{ℕ, Option, Some, None, Result, Ok, Err}
use Rattle.text.specs.Codes.{number_of}
use Rattle.text.specs.declared.Code.{Code}
use Rattle.text.specs.declared.Code.TheVariants.{NothingWaits}
use Rattle.tails.specs.declared.lent.Sought.{Sought}
use Rattle.desk.specs.declared.HostTail.{HostTail}

abbrev pub host_tail : ℕ → ℕ → ℕ → HostTail
host_tail code slot at = record { place = 0; code = code; slot = slot; at = at; spare = 0; rest = 0 }

-- the slot, and how many of the list come before the aircraft; where no slot waits for it, 11 and slot 0
abbrev pub slot_numbers : Option ℕ → ℕ → HostTail
slot_numbers (Some slot) at = host_tail 0 slot at
slot_numbers None at = host_tail (number_of NothingWaits) 0 at

abbrev pub tail_numbers : Result Sought Code → HostTail
tail_numbers (Ok s) = slot_numbers s.slot s.at
tail_numbers (Err code) = host_tail (number_of code) 0 0
