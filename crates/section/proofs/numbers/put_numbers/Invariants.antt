-- `section::numbers::put_numbers` meets its contract. The loop's invariant: d is what it was with the first i numbers over its start.
use mathlib.Core.Path.{◌≡◌}
use lib.ListN.{length, take}
use Rattle.text.specs.Over.{over}
use Rattle.section.specs.Layout.{table_of}
use Rattle.section.proofs.ByRow.{digits_text}
use Rattle.section.proofs.numbers.put_numbers.Given as goal

abbrev pub invariant-loop-i : goal.invariant-loop-i
invariant-loop-i l = record {
  rows : l.row-items ≡ (table_of l.k).rows;
  room : length l.d ≡ length l.initial.d;
  ends : l.p ≡ length (digits_text (take l.i l.row-items) l.v);
  written : l.d ≡ over l.initial.d 0 (digits_text (take l.i l.row-items) l.v);
}
