use mathlib.Core.Path.{sym, ◌∙◌}
use lib.ListN.{length}
use Rattle.desk.proofs.Given.{told-short}
use Rattle.desk.proofs.join_calls.esk_join.Goals as goal

pub length_of-requires : goal.length_of-requires
length_of-requires c =
    let a = c.args in
    rw (sym c.join_texts.ensures.0 ∙ c.in-Ok.is) at (told-short a.first.now a.second.now (length a.out.now))
