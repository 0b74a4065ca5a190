-- The worked examples, and that there is no gust where there is no acceleration.
use mathlib.Core.Path.{◌≡◌, refl}
use mathlib.Core.Bool.{true}
use mathlib.Core.List.{map}
use Prim.Native.Nat.{ℕ, ◌<◌, ◌*◌}
use native.Mathlib.Nat.{zero-div}
use lib.ListN.{length}
use lib.IntN.{ℤ, pos, *ℤ-zero, ◌*ℤ◌}
use borrow.Author.Tests.{lt-ltb}
use Rattle.std.specs.Prelude.{Ok}
use Rattle.gust.specs.Floor.{◌over◌}
use Rattle.gust.specs.Rows.{rows}
use Rattle.gust.specs.Gust.{mean_a, this_a, gust_of, in_range, of_gust, row_at, derived}
use Rattle.gust.specs.Examples.{Example, examples}

pub worked : map (λ (x : Example). derived x.row x.height x.mass x.acceleration x.speed) examples
    ≡ map (λ (x : Example). x.answer) examples
unfolding derived in_range of_gust gust_of this_a mean_a ◌over◌ row_at rows
worked = refl

pub still : (k : ℕ) (h : ℤ) (m v : ℕ) → k < length rows → in_range h m 0 v ≡ true → derived k h m 0 v ≡ Ok (pos 0)
unfolding derived gust_of ◌over◌ of_gust
still k h m v r i =
    rw (lt-ltb k (length rows) r, i, *ℤ-zero (pos 10 *ℤ this_a (row_at k) h (pos m) *ℤ pos m), zero-div (1000000000 * v))
