-- What the inner functions answer. No promise to a caller rests on these names.
use Rattle.std.specs.Prelude.{Bool, true, false, cond, not, ◌&&◌, ◌||◌, List, [], ◌∷◌, ◌++◌, ℕ, ◌+◌, ◌-◌, ◌*◌, leb, eqb, length, get_or, Option, Some, None, Result, Ok, Err}
use Rattle.text.specs.Parts.{part}
use Rattle.text.specs.Checks.{must, ◌and_then◌, refuse}
use Rattle.field.specs.Decimal.{is_digit, all_digits, value, decimal}
use Rattle.field.specs.Boxes.{latitude, longitude, is_letter, below_zero, line_of, edge_allowed}
use Rattle.field.specs.declared.Circle.{Circle}
use Rattle.field.specs.declared.Edge.{Edge}
use Rattle.field.specs.declared.Region.{Region}
use Rattle.text.specs.declared.Refusal.{Refusal}
use Rattle.text.specs.declared.Code.{Code}
use Rattle.text.specs.declared.Code.TheVariants.{NotAllowed, OutOfRange, OtherSpelling, Disagree, WrongEnd}

-- the number that digits spell, where each byte is one
unfoldable pub number_or : List ℕ → Option ℕ
number_or ds = cond (all_digits ds) (Some (value ds)) None

-- where an edge of n degrees and a letter lies, or the code of its refusal
unfoldable pub line_or : Circle → Option ℕ → ℕ → Result ℕ Code
line_or c None l = Err NotAllowed
line_or c (Some n) l =
    cond (is_letter c l)
    (cond (below_zero c n l) (Err OtherSpelling)
    (cond (leb n c.most) (Ok (line_of c (record { degrees = n; letter = l })))
    (Err OutOfRange)))
    (Err NotAllowed)

-- the same for the edge that stands at a place of a text
unfoldable pub edge_line : Circle → List ℕ → ℕ → Result ℕ Code
edge_line c s at =
    cond (leb (at + (c.width + 1)) (length s)) (line_or c (number_or (part at c.width s)) (get_or s (at + c.width) 0)) (Err WrongEnd)

-- falling: the second does not lie above the first; else they come in any order
abbrev pub orderly : Bool → ℕ → ℕ → Bool
orderly falling x y = not falling || leb y x

abbrev pub in_order : Bool → Circle → Edge → Edge → Bool
in_order falling c a b = orderly falling (line_of c a) (line_of c b)

-- a pair of edges, at two places: the first refusal, then 7 where they are not in order
abbrev pub two_lines : Bool → Result ℕ Code → Result ℕ Code → ℕ → ℕ → ℕ → Result ℕ Refusal
two_lines falling (Err code) second at mid end = refuse code at
two_lines falling (Ok x) (Err code) at mid end = refuse code mid
two_lines falling (Ok x) (Ok y) at mid end = cond (orderly falling x y) (Ok end) (refuse Disagree mid)

-- ---- A box by the keys of its edges

-- three bytes as one number
abbrev pub key_of : ℕ → ℕ → ℕ → ℕ
key_of a b c = a * 65536 + b * 256 + c

-- the least that may stand before a letter: 000, below zero 001; before another letter nothing may
unfoldable pub least_key : Circle → ℕ → ℕ
least_key c l = cond (eqb l c.below) (key_of 48 48 49) (cond (eqb l c.above) (key_of 48 48 48) 16777216)

-- where an edge lies, by its key
unfoldable pub key_line : Circle → ℕ → ℕ → ℕ
key_line c l k = cond (eqb l c.below) (16777216 - k) (16777216 + k)

abbrev pub edge_fine : Circle → ℕ → ℕ → ℕ → ℕ → Bool
edge_fine c most k digit l = (is_digit digit && leb (least_key c l) k) && leb k most

abbrev pub latitudes_fine : ℕ → ℕ → ℕ → ℕ → ℕ → ℕ → Bool
latitudes_fine a b l d e m =
    (edge_fine latitude (key_of 48 57 48) (key_of 48 a b) b l && edge_fine latitude (key_of 48 57 48) (key_of 48 d e) e m)
    && leb (key_line latitude m (key_of 48 d e)) (key_line latitude l (key_of 48 a b))

abbrev pub longitude_fine : ℕ → ℕ → ℕ → ℕ → Bool
longitude_fine k middle last l = is_digit middle && edge_fine longitude (key_of 49 56 48) k last l

abbrev pub longitudes_fine : ℕ → ℕ → ℕ → ℕ → ℕ → ℕ → ℕ → ℕ → Bool
longitudes_fine a b d l e f g m = longitude_fine (key_of a b d) b d l && longitude_fine (key_of e f g) f g m

-- a record's pair of edges, which would stand at two places
unfoldable pub pair_allowed : Bool → Circle → Edge → Edge → ℕ → ℕ → Result (Unit {0}) Refusal
pair_allowed falling c first second at mid =
    edge_allowed c at first and_then edge_allowed c mid second and_then must (in_order falling c first second) Disagree mid

-- whether it is refused nowhere: an edge, a pair of edges, a box
abbrev pub edge_is : Circle → Edge → Bool
edge_is c e = is_letter c e.letter && not (below_zero c e.degrees e.letter) && leb e.degrees c.most

abbrev pub pair_is : Bool → Circle → Edge → Edge → Bool
pair_is falling c first second = edge_is c first && edge_is c second && in_order falling c first second

unfoldable pub region_is : Region → Bool
region_is b = pair_is true latitude b.north b.south && pair_is false longitude b.west b.east

-- the edge that stands at a place, its degrees in w digits
abbrev pub edge_from : ℕ → List ℕ → ℕ → Edge
edge_from w s at = record { degrees = value (part at w s); letter = get_or s (at + w) 0 }

-- an edge's bytes, its degrees in w digits
unfoldable pub edge_bytes : ℕ → Edge → List ℕ
edge_bytes w e = decimal w e.degrees ++ e.letter ∷ []
