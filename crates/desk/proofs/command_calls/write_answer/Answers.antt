use mathlib.Core.Path.{sym, ◌∙◌}
use borrow.Author.Rules.{rules}
use lib.ListN.{length}
use Rattle.command_write.specs.Filled.{Filled}
use Rattle.desk.proofs.Given.{wrote-short}
use Rattle.desk.proofs.command_calls.write_answer.Goals as goal
use Rattle.desk.proofs.command_calls.write_answer.Goals.{Start}

-- the arrays of the record have their entries: its type's own relation says so, field by field
full : (c : Start) → Filled c.args.command
full c =
    let x = c.args.command.settings in
    record {
      flags = search rules;
      named = search rules;
      reporting = search rules;
      inhibiting = search rules;
      selected = (
        search rules,
        search rules,
      );
      inhibited = (
        search rules,
        search rules,
      );
    }

pub length_of-requires : goal.length_of-requires
length_of-requires c =
    let a = c.args in
    rw (sym c.write.ensures.0 ∙ c.in-Ok.is) at (wrote-short a.command (length a.out.now) (full (goal.at.length_of-requires c).Start))
