-- Where the sections of an accepted text stand, their bytes, and what they hold.
use Rattle.std.specs.Prelude.{Bool, false, cond, ◌||◌, List, [], ◌∷◌, ℕ, ◌+◌, eqb}
use Rattle.text.specs.Parts.{part}
use Rattle.section.specs.Layout.{numbers, layout_of, items_size}
use Rattle.section.specs.Contents.{Content, contents_at}
use Rattle.command.specs.Text.{is_named}

-- whether j is one of the numbers
abbrev pub is_one_of : List ℕ → ℕ → Bool
is_one_of [] j = false
is_one_of (k ∷ ks) j = eqb j k || is_one_of ks j

-- where the text goes on behind section k: a section that isn't named takes no bytes
abbrev pub past : List ℕ → ℕ → ℕ → ℕ
past s k at = cond (is_named s k) (at + items_size (layout_of k) s at) at

-- where section j stands, or would
unfoldable pub place_from : List ℕ → List ℕ → ℕ → ℕ → ℕ
place_from [] s at j = at
place_from (k ∷ ks) s at j = cond (eqb j k) at (place_from ks s (past s k at) j)

abbrev pub place_of : List ℕ → ℕ → ℕ
place_of s k = place_from numbers s 22 k

-- its bytes, delimiter included: none where it isn't named
abbrev pub bytes_of : List ℕ → ℕ → List ℕ
bytes_of s k = cond (is_named s k) (part (place_of s k) (items_size (layout_of k) s (place_of s k)) s) []

-- what it holds: nothing where it isn't named
abbrev pub held_in : List ℕ → ℕ → List Content
held_in s k = cond (is_named s k) (contents_at (layout_of k) s (place_of s k)) []
