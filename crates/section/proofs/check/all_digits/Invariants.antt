-- `section::check::all_digits` meets its contract. The loop's invariant: from here on the rows that are left decide.
use mathlib.Core.Path.{◌≡◌}
use Rattle.section.specs.Layout.{table_of, digits_of}
use Rattle.section.proofs.Come.{Come}
use Rattle.section.proofs.Rows.{rows_from}
use Rattle.section.proofs.check.all_digits.Given as goal

abbrev pub invariant-loop-row : goal.invariant-loop-row
invariant-loop-row l =
    record { rows : l.row-items ≡ (table_of l.k).rows; come : Come (digits_of (table_of l.k)) l.s l.at (rows_from l.row-items l.row-index) l.p }
