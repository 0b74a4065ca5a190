-- `difference::between::command_between` meets its contract.
use Rattle.difference.specs.Difference.{between}
use Rattle.difference.proofs.Marks.{settings-marked}
use Rattle.difference.proofs.between.command_between.Goals as goal

pub returns : goal.returns
unfolding between
returns c =
    let a = c.args in
    rw (c.settings_if.ensures, c.flags_between-flags.ensures, c.marks_between-named.ensures, settings-marked a.a a.b)
