use mathlib.Core.Path.{refl, sym, ◌∙◌}
use borrow.Author.Rules.{rules}
use lib.ListN.{length}
use Rattle.command_write.specs.Filled.{Filled}
use Rattle.difference.proofs.Makes.{holding, answer-short}
use Rattle.desk.proofs.difference_calls.difference_answer.Goals as goal
use Rattle.desk.proofs.difference_calls.difference_answer.Goals.{Start}

-- the arrays of the second have their entries: its type's own relation says so, field by field
full : (c : Start) → Filled (holding c.args.second)
full c =
    let x = c.args.second in
    record {
      flags = search rules;
      named = refl;
      reporting = search rules;
      inhibiting = search rules;
      selected = (
        search rules,
        search rules,
      );
      inhibited = (
        search rules,
        search rules,
      );
    }

pub length_of-requires : goal.length_of-requires
length_of-requires c =
    let a = c.args in
    answer-short a.first a.second (length a.out.now) (full (goal.at.length_of-requires c).Start) c.in-Ok.differing
    (sym c.differ.ensures.0 ∙ c.in-Ok.is)
