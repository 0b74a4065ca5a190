-- `journal::print::print` meets its contract: what the first walk tells is the length of the lines that the second writes.
use mathlib.Core.Path.{◌≡◌, refl, sym, ap, ◌∙◌}
use mathlib.Core.List.{List, []}
use native.Mathlib.Omega.{arith}
use lib.ListN.{length}
use borrow.Author.Tests.{le-leb, lt-leb}
use Rattle.journal.specs.Journal.{Entry, IsJournal}
use Rattle.journal.specs.Printed.{printed, print_seen, print_told, printed_over}
use Rattle.std.specs.Prelude.{Ok, Err}
use Rattle.std.proofs.lemmas.Result.{err_from_is_err_and}
use Rattle.journal.proofs.Entries.{reads}
use Rattle.journal.proofs.Lines.{lines-all, size-sound, size-broken}
use Rattle.journal.proofs.print.print.Goals as goal
use Rattle.journal.proofs.print.print.Goals.{In_ok-size}

-- the entries of a journal whose lines have a length
sized : (c : In_ok-size)
    → let a = c.args in
    (es : List Entry) × IsJournal a.journal.now a.end es × (c.in_ok-size.size ≡ length (printed 0 es))
sized c =
    let a = c.args in
    size-sound a.journal.now a.end c.in_ok-size.size (sym c.printed_size.ensures ∙ c.in_ok-size.was)

pub returns-then-out-size : goal.returns-then-out-size
unfolding print_seen print_told printed_over
returns-then-out-size c =
    let a = c.args in
    let f = sized (goal.at.returns-then-out-size c).In_ok-size in
    rw (reads a.journal.now a.end f.0 f.1, lt-leb (length (printed 0 f.0)) (length a.out.now) (omega (arith, f.2, c.if-out-size.true)), c.at.ensures) (refl, refl)

pub put_lines-requires : goal.put_lines-requires
put_lines-requires c =
    let a = c.args in
    let f = sized (goal.at.put_lines-requires c).In_ok-size in
    record { lines = printed 0 f.0; sound = lines-all a.journal.now f.0 a.end [] f.1; fits = omega (arith, f.2, c.if-out-size.false) }

pub returns-in_err-size : goal.returns-in_err-size
unfolding print_seen print_told printed_over
returns-in_err-size c =
    let a = c.args in
    let g = size-broken a.journal.now a.end _ (sym c.printed_size.ensures ∙ c.in_err-size.was) in
    let p = err_from_is_err_and c.from_residual.result c.from_residual.ensures.1 in
    rw (p.1, p.2, g.1) (ap Err g.0, refl)

pub returns : goal.returns
unfolding print_seen print_told printed_over
returns c =
    let a = c.args in
    let f = sized (goal.at.returns c).In_ok-size in
    rw (reads a.journal.now a.end f.0 f.1, le-leb (length (printed 0 f.0)) (length a.out.now) (omega (arith, f.2, c.if-out-size.false)))
    (ap Ok f.2, c.put_lines.ensures.written (printed 0 f.0) (lines-all a.journal.now f.0 a.end [] f.1))
