-- The tests of document 01, "Whether to report", in its words and order, and those of document 02, §2, for longitudes.
use Rattle.std.specs.Prelude.{Bool, false, cond, ◌&&◌, ◌||◌, List, [], ◌∷◌, ℕ, zero, suc, ◌*◌, leb, ltb, eqb, ℤ, pos, negsuc, length, take, drop}
use Rattle.std.specs.Int.Signed.{le_z}
use Rattle.text.specs.Names.{all_allowed}
use Rattle.text.specs.Equal.{same_bytes}
use Rattle.packed.specs.Packed.{above}
use Rattle.field.specs.Boxes.{latitude, longitude, line_of}
use Rattle.field.specs.declared.Region.{Region}
use Rattle.lists.specs.declared.Airfields.{Airfields}
use Rattle.lists.specs.declared.Boxes.{Boxes}
use Rattle.decide.specs.Question.{Question}

-- ---- Phase, hour (0-23) and position (a first observation's limits); an airfield of four allowed bytes

abbrev pub in_range : Question → Bool
in_range q =
    leb q.phase 2
    && leb q.hour 23
    && le_z (negsuc 5399) q.north
    && le_z q.north (pos 5400)
    && le_z (negsuc 10799) q.east
    && le_z q.east (pos 10800)

abbrev pub is_airfield : List ℕ → Bool
is_airfield a = eqb (length a) 4 && all_allowed a

-- ---- The window runs from the start hour up to, not including, the end hour, over midnight if needed, and equal hours
-- mean none

abbrev pub is_in_window : ℕ → ℕ → ℕ → Bool
is_in_window start end hour =
    cond (leb start end) (leb start hour && ltb hour end) (leb start hour || ltb hour end)

-- ---- Boxes; edges belong to a box

-- minutes from 1000 degrees below zero, as the lines of edges are
abbrev pub minutes : ℤ → ℕ
minutes x = above x 60000

-- whether a longitude lies between two edges or, where the first is above the second, "at or east of the first edge or at or
-- west of the second"
abbrev pub eastward : ℕ → ℕ → ℕ → Bool
eastward first second east =
    cond (leb first second) (leb first east && leb east second) (leb first east || leb east second)

-- "180W and 180E are the same meridian": the other spelling of a longitude, which 180W (49200) and 180E (70800) alone have
abbrev pub other_spelling : ℕ → ℕ
other_spelling east = cond (eqb east 49200) 70800 (cond (eqb east 70800) 49200 east)

-- whether a box holds the position, in such minutes
unfoldable pub holds : Region → ℕ → ℕ → Bool
holds b north east =
    leb (60 * line_of latitude b.south) north
    && leb north (60 * line_of latitude b.north)
    && (eastward (60 * line_of longitude b.west) (60 * line_of longitude b.east) east
    || eastward (60 * line_of longitude b.west) (60 * line_of longitude b.east) (other_spelling east))

-- the number of the first box that holds the position, where the boxes are numbered from n on; 0 where none does
unfoldable pub first_from : ℕ → List Region → ℕ → ℕ → ℕ
first_from n [] north east = 0
first_from n (b ∷ bs) north east = cond (holds b north east) n (first_from (suc n) bs north east)

-- the lowest number, from 1, of the boxes of a list that hold the position; 0 where none does
abbrev pub first_holding : Boxes → ℕ → ℕ → ℕ
first_holding l north east = first_from 1 (take l.count l.regions) north east

-- ---- Airfields

-- whether one of n airfields is this
unfoldable pub has_airfield : ℕ → List ℕ → List ℕ → Bool
has_airfield zero names a = false
has_airfield (suc n) names a = same_bytes (take 4 names) a || has_airfield n (drop 4 names) a

abbrev pub has : Airfields → List ℕ → Bool
has l a = has_airfield l.count l.names a
