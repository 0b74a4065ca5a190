-- The answer of reading a command, as the C host gets it.
use Rattle.std.specs.Prelude.{Result, Ok, Err}
use Rattle.text.specs.declared.Refusal.{Refusal}
use Rattle.command.specs.declared.Command.{Command}
use Rattle.command.specs.Record.{no_command}
use Rattle.desk.specs.Numbers.{accepted, refused}
use Rattle.desk.specs.declared.CommandAnswer.{CommandAnswer}

-- reading gives no length; a refusal carries the one empty command
unfoldable pub command_numbers : Result Command Refusal → CommandAnswer
command_numbers (Ok c) = record { answer = accepted 0; command = c }
command_numbers (Err r) = record { answer = refused r; command = no_command }
