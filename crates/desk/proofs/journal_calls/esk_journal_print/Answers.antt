-- The length is small.
use mathlib.Core.Path.{sym, ◌∙◌}
use native.Mathlib.Omega.{arith}
use lib.ListN.{length}
use Rattle.journal.proofs.Short.{printed-short}
use Rattle.desk.proofs.journal_calls.esk_journal_print.Goals as goal

pub journal_answer-requires : goal.journal_answer-requires
journal_answer-requires c =
    let a = c.args in
    record { small = λ n e. omega (arith, printed-short a.journal.now a.end (length a.out.now) n (sym c.print.ensures.0 ∙ e)) }
