-- The bytes of names: "Airfield and designator bytes are `A`-`Z` or `0`-`9`."
use Rattle.std.specs.Prelude.{ℕ, Bool, true, ◌&&◌, ◌||◌, List, [], ◌∷◌, leb, eqb, length}

-- b is one of the bytes from lo up to hi
abbrev pub between : ℕ → ℕ → ℕ → Bool
between lo hi b = leb lo b && leb b hi

-- `A` is 65 and `Z` is 90, `0` is 48 and `9` is 57
unfoldable pub allowed : ℕ → Bool
allowed b = between 65 90 b || between 48 57 b

-- every byte of a text is one that a name may have
unfoldable pub all_allowed : List ℕ → Bool
all_allowed [] = true
all_allowed (b ∷ bs) = allowed b && all_allowed bs

-- a designator is six allowed bytes
abbrev pub is_designator : List ℕ → Bool
is_designator d = eqb (length d) 6 && all_allowed d
