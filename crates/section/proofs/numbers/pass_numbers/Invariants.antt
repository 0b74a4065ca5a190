-- `section::numbers::pass_numbers` meets its contract. The loop's invariant: the numbers so far are passed, and those that are left decide.
use mathlib.Core.Path.{◌≡◌}
use mathlib.Core.List.{map}
use Prim.Native.Nat.{◌+◌, ◌*◌, ◌≤◌}
use lib.ListN.{drop}
use Rattle.section.specs.Layout.{table_of, digits_of}
use Rattle.section.specs.Contents.{Amount}
use Rattle.section.specs.Inner.{pass_contents}
use Rattle.section.proofs.Rows.{rows_from}
use Rattle.section.proofs.numbers.pass_numbers.Given as goal

abbrev pub invariant-loop-i : goal.invariant-loop-i
invariant-loop-i l = record {
  rows : l.row-items ≡ (table_of l.k).rows;
  near : l.p ≤ l.at + 3 * l.i;
  left : pass_contents (digits_of (table_of l.k)) l.at (map Amount l.v) ≡ pass_contents (rows_from l.row-items l.i) l.p (map Amount (drop l.i l.v));
}
