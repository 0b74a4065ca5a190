-- The rows are the printed table, each of its figures.
use mathlib.Core.Path.{◌≡◌, refl}
use lib.ListN.{length}
use Rattle.gust.specs.Rows.{rows}
use Rattle.gust.specs.Printed.{places, whole, moved, words, printed_rows}

pub as_printed : rows ≡ printed_rows
unfolding rows printed_rows places whole moved words
as_printed = refl

pub count : length rows ≡ 36
unfolding rows
count = refl
