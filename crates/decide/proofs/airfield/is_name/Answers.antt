-- `decide::airfield::is_name` meets its contract.
use borrow.Author.Rules.{rules}
use mathlib.Core.Path.{◌≡◌}
use lib.ListN.{length}
use Rattle.decide.proofs.Listed.{same-four}
use Rattle.decide.proofs.airfield.is_name.Goals as goal
use Rattle.decide.proofs.airfield.is_name.Goals.{Start}

full : (c : Start) → length c.args.name ≡ 4
full c = search rules

pub returns : goal.returns
returns c = same-four c.args.a c.args.b c.args.c c.args.d c.args.name (full (goal.at.returns c).Start)
