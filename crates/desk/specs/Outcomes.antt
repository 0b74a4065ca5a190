-- Whether a configuration is valid, and the answer of applying a command to it, as the C host gets them.
use Rattle.std.specs.Prelude.{Bool, cond, Result, Ok, Err}
use Rattle.text.specs.Codes.{number_of}
use Rattle.text.specs.declared.Refusal.{Refusal}
use Rattle.text.specs.declared.Code.TheVariants.{SettingsInvalid}
use Rattle.config.specs.declared.Applied.{Applied}
use Rattle.desk.specs.Numbers.{accepted, refused_by}
use Rattle.desk.specs.declared.Answer.{Answer}
use Rattle.desk.specs.declared.HostApplied.{HostApplied}

-- 12 where it isn't
abbrev pub valid_numbers : Bool → Answer
valid_numbers valid = cond valid (accepted 0) (refused_by SettingsInvalid)

-- the digit where the command is accepted
abbrev pub applied_numbers : Result Applied Refusal → HostApplied
applied_numbers (Ok x) = record { place = 0; code = 0; downlink = x.downlink; spare = 0; rest = 0 }
applied_numbers (Err r) = record { place = r.place; code = number_of r.code; downlink = 0; spare = 0; rest = 0 }
