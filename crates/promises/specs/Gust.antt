-- Document 02, §10, "Gusts worked out here": what is promised of esk_gust. The formula is said in gust/specs/Words, each
-- quotient by the two products that it lies between.
use Rattle.std.specs.Prelude.{◌≡◌, map, ℕ, ◌≤◌, ◌<◌, length, get_or, ℤ, pos, negsuc, Result, Ok, Err}
use Rattle.text.specs.Codes.{number_of}
use Rattle.text.specs.declared.Code.{Code}
use Rattle.gust.specs.Rows.{row, rows}
use Rattle.gust.specs.Printed.{printed_rows}
use Rattle.gust.specs.Gust.{gust_of, row_at, derived}
use Rattle.gust.specs.Words.{Formula, InRange}
use Rattle.gust.specs.Examples.{Example, examples}
use Rattle.desk.specs.Gusts.{gust_numbers}
use Rattle.desk.specs.declared.HostGust.{HostGust}

-- what C is told
abbrev pub told : ℕ → ℤ → ℕ → ℕ → ℕ → HostGust
told k h m n v = gust_numbers (derived k h m n v)

-- the numbers that C is given
abbrev pub answer : ℤ → ℕ → HostGust
answer gust code = record { gust = gust; code = code; spare = 0; rest = 0 }

-- a refusal carries its code and a gust of 0
abbrev pub refused : HostGust
refused = answer (pos 0) 5

abbrev pub expected : Result ℤ Code → HostGust
expected (Ok g) = answer g 0
expected (Err code) = answer (pos 0) (number_of code)

-- g is the gust of row k at these inputs, below zero or beyond the greatest too
abbrev pub Gusts : ℕ → ℤ → ℕ → ℕ → ℕ → ℤ → Type 0
Gusts k h m n v g = Formula (row_at k) h (pos m) (pos n) (pos v) g

pub record GustPromises : Type 0 where
  -- "one row for each type in its table": the printed figures, in its order
  pub as_printed : rows ≡ printed_rows
  pub count : length rows ≡ 36
  pub picked : (k : ℕ) → row_at k ≡ get_or printed_rows k (row (pos 0) 0 0 0 0 0)
  -- "Use whole numbers, every division rounded down": of every row and input within its range there is one gust
  pub some : (k : ℕ) (h : ℤ) (m n v : ℕ) → k < 36 → InRange h m n v → Gusts k h m n v (gust_of (row_at k) h (pos m) (pos n) (pos v))
  pub one : (k : ℕ) (h : ℤ) (m n v : ℕ) → k < 36 → InRange h m n v → (f g : ℤ) → Gusts k h m n v f → Gusts k h m n v g → f ≡ g
  -- and it is the answer
  pub given : (k : ℕ) (h : ℤ) (m n v : ℕ) → k < 36 → InRange h m n v → (g : ℕ) → g ≤ 799 → Gusts k h m n v (pos g)
      → told k h m n v ≡ answer (pos g) 0
  -- "5 at 0 for a row that doesn't exist, an input outside its range, or a gust below 0 or above 799"
  pub no_row : (k : ℕ) (h : ℤ) (m n v : ℕ) → 36 ≤ k → told k h m n v ≡ refused
  pub outside : (k : ℕ) (h : ℤ) (m n v : ℕ) → ¬ InRange h m n v → told k h m n v ≡ refused
  pub below : (k : ℕ) (h : ℤ) (m n v : ℕ) → k < 36 → InRange h m n v → (g : ℕ) → Gusts k h m n v (negsuc g) → told k h m n v ≡ refused
  pub above : (k : ℕ) (h : ℤ) (m n v : ℕ) → k < 36 → InRange h m n v → (g : ℕ) → 799 < g → Gusts k h m n v (pos g) → told k h m n v ≡ refused
  -- no acceleration, no gust
  pub still : (k : ℕ) (h : ℤ) (m v : ℕ) → k < 36 → InRange h m 0 v → told k h m 0 v ≡ answer (pos 0) 0
  -- the worked examples
  pub worked : map (λ (x : Example). told x.row x.height x.mass x.acceleration x.speed) examples
      ≡ map (λ (x : Example). expected x.answer) examples
