-- Limits of the rows' constants, within which every step of the formula is a number of 64 bits.
use Rattle.std.specs.Prelude.{Bool, true, ◌&&◌, List, [], ◌∷◌, ℕ, leb, ℤ, pos, nat_abs}
use Rattle.std.specs.Int.Signed.{le_z}
use Rattle.gust.specs.declared.Row.{Row}

-- no further from zero than n
abbrev pub up_to : ℕ → ℤ → Bool
up_to n x = leb (nat_abs x) n

abbrev pub limits : Row → List Bool
limits c =
    up_to 71000 c.c1 ∷
    up_to 4580000000 c.c2 ∷
    up_to 130000 c.c3 ∷
    le_z (pos 9100) c.c3 ∷
    up_to 74 c.c4 ∷
    up_to 223000 c.c5 ∷
    up_to 250000 c.reference ∷
    le_z (pos 3000) c.reference ∷
    []

unfoldable pub every : List Bool → Bool
every [] = true
every (t ∷ ts) = t && every ts

unfoldable pub all_within : List Row → Bool
all_within [] = true
all_within (c ∷ cs) = every (limits c) && all_within cs
