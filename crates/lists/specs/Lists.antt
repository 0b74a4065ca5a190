-- A count of two digits and that many entries: airfields (00-20) or boxes (00-16), in a text s from a place on.
use Rattle.std.specs.Prelude.{Bool, true, ◌&&◌, List, [], ◌∷◌, ◌++◌, ℕ, zero, suc, ◌+◌, ◌-◌, ◌*◌, leb, eqb, take, drop, replicate, Result, Ok}
use Rattle.text.specs.Names.{all_allowed}
use Rattle.text.specs.Parts.{part}
use Rattle.text.specs.Checks.{must, ◌and_then◌, after}
use Rattle.field.specs.Decimal.{value, decimal}
use Rattle.field.specs.Fields.{check_number, check_airfield, repeat}
use Rattle.field.specs.Boxes.{check_box, region_at, region_allowed, region_text, no_region}
use Rattle.field.specs.declared.Edge.{Edge}
use Rattle.field.specs.declared.Region.{Region}
use Rattle.lists.specs.declared.Airfields.{Airfields}
use Rattle.lists.specs.declared.Boxes.{Boxes}
use Rattle.text.specs.declared.Refusal.{Refusal}
use Rattle.text.specs.declared.Code.TheVariants.{Disagree, NotAllowed, OutOfRange}

-- the most boxes of a list, and the most airfields
abbrev pub most_boxes : ℕ
most_boxes = 16

abbrev pub most_airfields : ℕ
most_airfields = 20

-- ---- Any counted list

abbrev pub count_at : List ℕ → ℕ → ℕ
count_at s at = value (part at 2 s)

unfoldable pub check_list : ℕ → (List ℕ → ℕ → Result ℕ Refusal) → List ℕ → ℕ → Result ℕ Refusal
check_list limit entry s at = after (check_number 2 0 limit s at) (repeat (entry s) (count_at s at))

-- ---- Airfields

abbrev pub check_airfields : List ℕ → ℕ → Result ℕ Refusal
check_airfields s at = check_list most_airfields check_airfield s at

unfoldable pub airfields_at : List ℕ → ℕ → Airfields
airfields_at s at =
    record { count = count_at s at; names = part (at + 2) (4 * count_at s at) s ++ replicate (4 * most_airfields - 4 * count_at s at) 0 }

unfoldable pub all_zero : List ℕ → Bool
all_zero [] = true
all_zero (b ∷ bs) = eqb b 0 && all_zero bs

-- n names, the first at a place
unfoldable pub names_allowed : ℕ → ℕ → List ℕ → Result (Unit {0}) Refusal
names_allowed zero at names = (Ok tt)
names_allowed (suc n) at names = must (all_allowed (take 4 names)) NotAllowed at and_then names_allowed n (at + 4) (drop 4 names)

-- unused entries that are not zero are 7 at the count, after the count's own range
unfoldable pub airfields_allowed : ℕ → Airfields → Result (Unit {0}) Refusal
airfields_allowed at l =
    must (leb l.count most_airfields) OutOfRange at
    and_then must (all_zero (drop (4 * l.count) l.names)) Disagree at
    and_then names_allowed l.count (at + 2) l.names

unfoldable pub airfields_text : Airfields → List ℕ
airfields_text l = decimal 2 l.count ++ take (4 * l.count) l.names

abbrev pub no_airfields : Airfields
no_airfields = record { count = 0; names = replicate (4 * most_airfields) 0 }

-- ---- Boxes

abbrev pub check_boxes : List ℕ → ℕ → Result ℕ Refusal
check_boxes s at = check_list most_boxes check_box s at

unfoldable pub regions_at : ℕ → List ℕ → ℕ → List Region
regions_at zero s at = []
regions_at (suc n) s at = region_at s at ∷ regions_at n s (at + 14)

unfoldable pub boxes_at : List ℕ → ℕ → Boxes
boxes_at s at =
    record { count = count_at s at; regions = regions_at (count_at s at) s (at + 2) ++ replicate (most_boxes - count_at s at) no_region }

abbrev pub edge_zero : Edge → Bool
edge_zero e = eqb e.degrees 0 && eqb e.letter 0

abbrev pub region_zero : Region → Bool
region_zero b = edge_zero b.north && edge_zero b.south && edge_zero b.west && edge_zero b.east

unfoldable pub regions_zero : List Region → Bool
regions_zero [] = true
regions_zero (b ∷ bs) = region_zero b && regions_zero bs

-- n boxes, the first at a place
unfoldable pub regions_allowed : ℕ → ℕ → List Region → Result (Unit {0}) Refusal
regions_allowed zero at bs = (Ok tt)
regions_allowed (suc n) at [] = (Ok tt)
regions_allowed (suc n) at (b ∷ bs) = region_allowed at b and_then regions_allowed n (at + 14) bs

unfoldable pub boxes_allowed : ℕ → Boxes → Result (Unit {0}) Refusal
boxes_allowed at l =
    must (leb l.count most_boxes) OutOfRange at
    and_then must (regions_zero (drop l.count l.regions)) Disagree at
    and_then regions_allowed l.count (at + 2) l.regions

unfoldable pub regions_text : List Region → List ℕ
regions_text [] = []
regions_text (b ∷ bs) = region_text b ++ regions_text bs

unfoldable pub boxes_text : Boxes → List ℕ
boxes_text l = decimal 2 l.count ++ regions_text (take l.count l.regions)

abbrev pub no_boxes : Boxes
no_boxes = record { count = 0; regions = replicate most_boxes no_region }
