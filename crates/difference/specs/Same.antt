-- Whether two sections hold the same, as a test: number by number, name by name, box by box.
use Rattle.std.specs.Prelude.{Bool, true, false, ◌&&◌, List, [], ◌∷◌, eqb}
use Rattle.text.specs.Equal.{same_bytes}
use Rattle.field.specs.declared.Edge.{Edge}
use Rattle.field.specs.declared.Region.{Region}
use Rattle.lists.specs.declared.Airfields.{Airfields}
use Rattle.lists.specs.declared.Boxes.{Boxes}
use Rattle.section.specs.Contents.{Content, Amount, Names, Areas}

-- ---- Lists

abbrev pub same_edge : Edge → Edge → Bool
same_edge e f = eqb e.degrees f.degrees && eqb e.letter f.letter

abbrev pub same_region : Region → Region → Bool
same_region a b =
    same_edge a.north b.north && same_edge a.south b.south && same_edge a.west b.west && same_edge a.east b.east

unfoldable pub same_regions : List Region → List Region → Bool
same_regions [] [] = true
same_regions [] (b ∷ bs) = false
same_regions (a ∷ rest) [] = false
same_regions (a ∷ rest) (b ∷ bs) = same_region a b && same_regions rest bs

-- ---- Sections

abbrev pub same_airfields : Airfields → Airfields → Bool
same_airfields l m = eqb l.count m.count && same_bytes l.names m.names

abbrev pub same_boxes : Boxes → Boxes → Bool
same_boxes l m = eqb l.count m.count && same_regions l.regions m.regions

abbrev pub same_content : Content → Content → Bool
same_content (Amount v) (Amount w) = eqb v w
same_content (Amount v) (Names m) = false
same_content (Amount v) (Areas m) = false
same_content (Names l) (Amount w) = false
same_content (Names l) (Names m) = same_airfields l m
same_content (Names l) (Areas m) = false
same_content (Areas l) (Amount w) = false
same_content (Areas l) (Names m) = false
same_content (Areas l) (Areas m) = same_boxes l m

unfoldable pub same_contents : List Content → List Content → Bool
same_contents [] [] = true
same_contents [] (d ∷ ds) = false
same_contents (c ∷ cs) [] = false
same_contents (c ∷ cs) (d ∷ ds) = same_content c d && same_contents cs ds
