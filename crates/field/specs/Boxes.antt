-- "A box is 14 bytes: two latitudes, north edge first (00-90, N or S), two longitudes, west first (000-180, E or W);
-- north not below south (else 7). Zero is spelt only 00N and 000E (else 6)." Document 02, §2: "code 7 is no longer given for
-- longitudes", in which an area runs eastward from its first and may wrap.
use Rattle.std.specs.Prelude.{Bool, cond, ◌&&◌, ◌||◌, not, List, [], ◌∷◌, ◌++◌, ℕ, ◌+◌, ◌-◌, leb, eqb, get_or, Result, Ok}
use Rattle.text.specs.Parts.{part}
use Rattle.text.specs.Checks.{must, ◌and_then◌, refuse, after}
use Rattle.field.specs.Decimal.{all_digits, value, decimal}
use Rattle.field.specs.Fields.{room}
use Rattle.field.specs.declared.Circle.{Circle}
use Rattle.field.specs.declared.Edge.{Edge}
use Rattle.field.specs.declared.Region.{Region}
use Rattle.text.specs.declared.Refusal.{Refusal}
use Rattle.text.specs.declared.Code.TheVariants.{Disagree, NotAllowed, OtherSpelling, OutOfRange}

-- ---- Edges

-- how an edge is spelt (a Circle): its digits, the most degrees, the letter at and above zero, the letter below it
abbrev pub latitude : Circle
latitude = record { width = 2; most = 90; above = 78; below = 83 }

abbrev pub longitude : Circle
longitude = record { width = 3; most = 180; above = 69; below = 87 }

abbrev pub is_letter : Circle → ℕ → Bool
is_letter c l = eqb l c.above || eqb l c.below

-- zero below zero is no spelling
abbrev pub below_zero : Circle → ℕ → ℕ → Bool
below_zero c d l = eqb d 0 && eqb l c.below

unfoldable pub edge_at : Circle → List ℕ → ℕ → Edge
edge_at c s at = record { degrees = value (part at c.width s); letter = get_or s (at + c.width) 0 }

-- each latitude or longitude with its letter is one field
unfoldable pub check_edge : Circle → List ℕ → ℕ → Result ℕ Refusal
check_edge c s at =
    room (c.width + 1) s at
    (cond (all_digits (part at c.width s) && is_letter c (get_or s (at + c.width) 0))
    (cond (below_zero c (value (part at c.width s)) (get_or s (at + c.width) 0)) (refuse OtherSpelling at)
    (cond (leb (value (part at c.width s)) c.most) (Ok (at + (c.width + 1)))
    (refuse OutOfRange at)))
    (refuse NotAllowed at))

-- a record's edge, with the place where it would stand
unfoldable pub edge_allowed : Circle → ℕ → Edge → Result (Unit {0}) Refusal
edge_allowed c at e =
    must (is_letter c e.letter) NotAllowed at
    and_then must (not (below_zero c e.degrees e.letter)) OtherSpelling at
    and_then must (leb e.degrees c.most) OutOfRange at

unfoldable pub edge_text : Circle → Edge → List ℕ
edge_text c e = decimal c.width e.degrees ++ e.letter ∷ []

-- where an edge lies, in degrees from 1000 below zero
unfoldable pub line_of : Circle → Edge → ℕ
line_of c e = cond (eqb e.letter c.below) (1000 - e.degrees) (1000 + e.degrees)

-- ---- Boxes

-- north not below south
abbrev pub north_first : Edge → Edge → Bool
north_first n s = leb (line_of latitude s) (line_of latitude n)

unfoldable pub region_at : List ℕ → ℕ → Region
region_at s at =
    record {
      north = edge_at latitude s at;
      south = edge_at latitude s (at + 3);
      west = edge_at longitude s (at + 6);
      east = edge_at longitude s (at + 10);
    }

-- code 7 comes at the second edge of its pair, after that edge's own checks
unfoldable pub check_pair : Circle → (Edge → Edge → Bool) → List ℕ → ℕ → Result ℕ Refusal
check_pair c in_order s at =
    after (check_edge c s at)
    (λ second.
    after (check_edge c s second)
    (λ end. cond (in_order (edge_at c s at) (edge_at c s second)) (Ok end) (refuse Disagree second)))

-- longitudes come in any order
unfoldable pub check_box : List ℕ → ℕ → Result ℕ Refusal
check_box s at =
    after (check_pair latitude north_first s at) (λ west. after (check_edge longitude s west) (check_edge longitude s))

unfoldable pub region_allowed : ℕ → Region → Result (Unit {0}) Refusal
region_allowed at b =
    edge_allowed latitude at b.north
    and_then edge_allowed latitude (at + 3) b.south
    and_then must (north_first b.north b.south) Disagree (at + 3)
    and_then edge_allowed longitude (at + 6) b.west
    and_then edge_allowed longitude (at + 10) b.east

unfoldable pub region_text : Region → List ℕ
region_text b =
    edge_text latitude b.north ++ (edge_text latitude b.south ++ (edge_text longitude b.west ++ edge_text longitude b.east))

-- an unused entry: all zero
abbrev pub no_region : Region
no_region =
    record {
      north = record { degrees = 0; letter = 0 };
      south = record { degrees = 0; letter = 0 };
      west = record { degrees = 0; letter = 0 };
      east = record { degrees = 0; letter = 0 };
    }
