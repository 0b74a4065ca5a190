-- A text written as its characters, and whether a byte is one of them.
use Rattle.std.specs.Prelude.{ℕ, Bool, true, false, ◌&&◌, ◌||◌, List, [], ◌∷◌, eqb}
use Prim.Native.Char.{code}
use Prim.Native.String.{String, [] as end, ◌∷◌ as ◌then◌}

-- the bytes of a text in ASCII
abbrev pub bytes : String → List ℕ
bytes end = []
bytes (c then s) = code c ∷ bytes s

unfoldable pub is_one_of : List ℕ → ℕ → Bool
is_one_of [] b = false
is_one_of (x ∷ xs) b = eqb b x || is_one_of xs b

unfoldable pub all_one_of : List ℕ → List ℕ → Bool
all_one_of xs [] = true
all_one_of xs (b ∷ bs) = is_one_of xs b && all_one_of xs bs

-- "Airfield and designator bytes are `A`-`Z` or `0`-`9`", each of them
abbrev pub name_bytes : List ℕ
name_bytes = bytes "ABCDEFGHIJKLMNOPQRSTUVWXYZ0123456789"
