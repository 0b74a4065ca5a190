-- `journal::check::check_journal` meets its contract: the walk over the lines fails just where reading does.
use mathlib.Core.Path.{sym, ap, ◌∙◌}
use Rattle.std.specs.Prelude.{Err}
use Rattle.std.proofs.lemmas.Result.{err_from_is_err_and}
use Rattle.journal.specs.Calls.{check_journal}
use Rattle.journal.proofs.Entries.{reads}
use Rattle.journal.proofs.Lines.{size-sound, size-broken}
use Rattle.journal.proofs.check.check_journal.Goals as goal

pub returns-in_err-printed_size : goal.returns-in_err-printed_size
unfolding check_journal
returns-in_err-printed_size c =
    let a = c.args in
    let g = size-broken a.journal.now a.end _ (sym c.printed_size.ensures ∙ c.in_err-printed_size.was) in
    let p = err_from_is_err_and c.from_residual.result c.from_residual.ensures.1 in
    rw (p.1, p.2, g.1) (ap Err g.0)

pub returns : goal.returns
unfolding check_journal
returns c =
    let a = c.args in
    let f = size-sound a.journal.now a.end _ (sym c.printed_size.ensures ∙ c.in_ok-printed_size.was) in
    rw (reads a.journal.now a.end f.0 f.1)
