-- The length is small.
use mathlib.Core.Path.{sym, ◌∙◌}
use native.Mathlib.Omega.{arith}
use Rattle.journal.proofs.Short.{dropped-short}
use Rattle.desk.proofs.journal_calls.esk_journal_drop.Goals as goal

pub journal_answer-requires : goal.journal_answer-requires
journal_answer-requires c =
    let a = c.args in
    record { small = λ n e. omega (arith, dropped-short a.journal.now a.end a.count n (sym c.drop_last.ensures ∙ e)) }
