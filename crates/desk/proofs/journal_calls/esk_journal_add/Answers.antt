-- The length is small.
use mathlib.Core.Path.{sym, ◌∙◌}
use native.Mathlib.Omega.{arith}
use Rattle.journal.proofs.Short.{added-short}
use Rattle.desk.proofs.journal_calls.esk_journal_add.Goals as goal

pub journal_answer-requires : goal.journal_answer-requires
journal_answer-requires c =
    let a = c.args in
    record { small = λ n e. omega (arith, added-short a.journal.now a.end a.designator.now a.text.now n (sym c.add.ensures.0 ∙ e)) }
