-- Decimal numbers: digits, what they are worth, and how a number is spelt.
use Rattle.std.specs.Prelude.{Bool, true, ◌&&◌, List, [], ◌∷◌, ℕ, zero, suc, ◌+◌, ◌-◌, ◌*◌, ◌/◌, ◌%◌}
use Rattle.text.specs.Names.{between}

abbrev pub is_digit : ℕ → Bool
is_digit b = between 48 57 b

unfoldable pub all_digits : List ℕ → Bool
all_digits [] = true
all_digits (b ∷ bs) = is_digit b && all_digits bs

-- the number that the digits spell, n being what stands before them
unfoldable pub value_from : ℕ → List ℕ → ℕ
value_from n [] = n
value_from n (b ∷ bs) = value_from (n * 10 + (b - 48)) bs

abbrev pub value : List ℕ → ℕ
value s = value_from 0 s

-- the last w digits of v, before ds
unfoldable pub digits_before : ℕ → ℕ → List ℕ → List ℕ
digits_before zero v ds = ds
digits_before (suc w) v ds = digits_before w (v / 10) ((48 + v % 10) ∷ ds)

abbrev pub decimal : ℕ → ℕ → List ℕ
decimal w v = digits_before w v []
