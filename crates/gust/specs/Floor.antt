-- Document 02, §10: "every division rounded down".
use Rattle.std.specs.Prelude.{ℕ, suc, ◌/◌, ℤ, pos, negsuc, neg_ℤ}

-- toward minus infinity: -1 to -d give -1, -(d + 1) to -2d give -2
abbrev pub down : ℤ → ℕ → ℤ
down (pos a) d = pos (a / d)
down (negsuc a) d = negsuc (a / d)

infixl 6 ◌over◌
unfoldable pub ◌over◌ : ℤ → ℤ → ℤ
x over (pos d) = down x d
x over (negsuc d) = down (neg_ℤ x) (suc d)
