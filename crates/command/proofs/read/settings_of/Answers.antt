-- `command::read::settings_of` meets its contract.
use mathlib.Core.Path.{◌∙◌}
use Rattle.command.specs.Record.{flags_of}
use Rattle.command.proofs.Placed.{over_nothing}
use Rattle.command.proofs.read.settings_of.Goals as goal

pub returns-then-names_lists : goal.returns-then-names_lists
returns-then-names_lists c =
    let s = c.args.s.now in
    c.settings_over.ensures ∙ rw (c.flags_of.ensures, c.no_settings.ensures) (over_nothing s (flags_of s))
