-- Document 02, §10: the derived equivalent gust.
use Rattle.std.specs.Prelude.{ℕ, Bool, cond, ◌&&◌, leb, ltb, ℤ, pos, neg_ℤ, ◌+ℤ◌, ◌-ℤ◌, ◌*ℤ◌, length, get_or, Result, Ok, Err}
use Rattle.std.specs.Int.Signed.{le_z}
use Rattle.text.specs.Names.{between}
use Rattle.gust.specs.Floor.{◌over◌}
use Rattle.gust.specs.Rows.{row, rows}
use Rattle.gust.specs.declared.Row.{Row}
use Rattle.text.specs.declared.Code.{Code}
use Rattle.text.specs.declared.Code.TheVariants.{OutOfRange}

-- "Ā in thousandths is 1000·c1 plus 1,000,000·c2 divided by (1000·c3 + H)"
unfoldable pub mean_a : Row → ℤ → ℤ
mean_a c h = c.c1 +ℤ (c.c2 over (c.c3 +ℤ h))

-- "A in thousandths is that plus a quotient: 100·c4 times (Ā less 1000·c5) times (m less the reference mass), divided by
-- 100 times the reference mass"
unfoldable pub this_a : Row → ℤ → ℤ → ℤ
this_a c h m = mean_a c h +ℤ (c.c4 *ℤ (mean_a c h -ℤ c.c5) *ℤ (m -ℤ c.reference) over (pos 100 *ℤ c.reference))

-- "The gust is 10·A·m·n divided by 1,000,000,000·V"
unfoldable pub gust_of : Row → ℤ → ℤ → ℤ → ℤ → ℤ
gust_of c h m n v = pos 10 *ℤ this_a c h m *ℤ m *ℤ n over (pos 1000000000 *ℤ v)

-- "H in feet from -1000 to 50,000"
abbrev pub height_in : ℤ → Bool
height_in h = le_z (neg_ℤ (pos 1000)) h && le_z h (pos 50000)

-- "m from 1 to 500,000", n "0 to 5000", "V is 1 to 500 knots"
unfoldable pub in_range : ℤ → ℕ → ℕ → ℕ → Bool
in_range h m n v = height_in h && (between 1 500000 m && (leb n 5000 && between 1 500 v))

-- "5 at 0 for .. a gust below 0 or above 799"
unfoldable pub of_gust : ℤ → Result ℤ Code
of_gust g = cond (le_z (pos 0) g && le_z g (pos 799)) (Ok g) (Err OutOfRange)

-- the row of a number that has one
unfoldable pub row_at : ℕ → Row
row_at k = get_or rows k (row (pos 0) 0 0 0 0 0)

-- "5 at 0 for a row that doesn't exist, an input outside its range"
unfoldable pub derived : ℕ → ℤ → ℕ → ℕ → ℕ → Result ℤ Code
derived k h m n v =
    cond (ltb k (length rows) && in_range h m n v) (of_gust (gust_of (row_at k) h (pos m) (pos n) (pos v))) (Err OutOfRange)
