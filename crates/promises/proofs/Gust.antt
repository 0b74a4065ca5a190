-- The promises of the gust, kept.
use mathlib.Core.Path.{◌≡◌, ap, ◌∙◌}
use mathlib.Core.List.{List, map}
use Prim.Native.Nat.{ℕ}
use lib.ListN.{get_or}
use lib.IntN.{pos, negsuc}
use Rattle.gust.specs.declared.Row.{Row}
use Rattle.gust.specs.Rows.{row}
use Rattle.gust.specs.Printed.{printed_rows}
use Rattle.gust.specs.Gust.{row_at}
use Rattle.gust.proofs.Kept.{no_row, outside, some, one, by_gust, in_limits, below_them, above_them, at_rest}
use Rattle.gust.proofs.Table.{as_printed, count}
use Rattle.gust.proofs.Examples.{worked}
use Rattle.desk.specs.Gusts.{gust_numbers}
use Rattle.promises.specs.Gust.{GustPromises}

-- a row by its number is the printed one
picked : (k : ℕ) → row_at k ≡ get_or printed_rows k (row (pos 0) 0 0 0 0 0)
unfolding row_at
picked k = ap (λ (cs : List Row). get_or cs k (row (pos 0) 0 0 0 0 0)) as_printed

pub gust_promises : GustPromises
gust_promises =
    record {
      as_printed = as_printed;
      count = count;
      picked = picked;
      some = some;
      one = one;
      given = λ k h m n v r i g l w. ap gust_numbers (by_gust k h m n v r i (pos g) w ∙ in_limits g l);
      no_row = λ k h m n v r. ap gust_numbers (no_row k h m n v r);
      outside = λ k h m n v f. ap gust_numbers (outside k h m n v f);
      below = λ k h m n v r i g w. ap gust_numbers (by_gust k h m n v r i (negsuc g) w ∙ below_them g);
      above = λ k h m n v r i g l w. ap gust_numbers (by_gust k h m n v r i (pos g) w ∙ above_them g l);
      still = λ k h m v r i. ap gust_numbers (at_rest k h m v r i);
      worked = ap (map gust_numbers) worked;
    }
