-- By the walk's answer.
use mathlib.Core.Path.{sym, ◌∙◌}
use Rattle.command.specs.Record.{read_command}
use Rattle.desk.specs.Commands.{command_numbers}
use Rattle.desk.proofs.command_calls.esk_command_read.Goals as goal

pub returns-in-Err : goal.returns-in-Err
unfolding command_numbers read_command
returns-in-Err c = rw (sym c.walk.ensures.0 ∙ c.in-Err.is, c.no_command.ensures, c.refused.ensures)

pub returns-in-Ok : goal.returns-in-Ok
unfolding command_numbers read_command
returns-in-Ok c = rw (sym c.walk.ensures.0 ∙ c.in-Ok.is, c.command_of.ensures, c.accepted.ensures)
