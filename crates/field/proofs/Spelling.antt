-- The texts of edges and boxes: how long they are and what they are made of.
use mathlib.Core.Path.{◌≡◌, refl, ap, ◌∙◌}
use mathlib.Core.List.{[], ◌∷◌, ◌++◌, append_assoc}
use Prim.Native.Nat.{ℕ, ◌+◌}
use lib.ListN.{length, length-append}
use Rattle.field.specs.declared.Circle.{Circle}
use Rattle.field.specs.declared.Edge.{Edge}
use Rattle.field.specs.declared.Region.{Region}
use Rattle.field.specs.Decimal.{decimal}
use Rattle.field.specs.Boxes.{edge_text, region_text}
use Rattle.field.specs.Steps.{edge_bytes}
use Rattle.field.proofs.Decimal.{decimal-length}

-- an edge is its digits and its letter
pub bytes-length : (w : ℕ) (e : Edge) → length (edge_bytes w e) ≡ w + 1
unfolding edge_bytes
bytes-length w e = length-append (decimal w e.degrees) (e.letter ∷ []) ∙ rw (decimal-length w e.degrees)

pub bytes_are : (w : ℕ) (e : Edge) → decimal w e.degrees ++ (e.letter ∷ []) ≡ edge_bytes w e
unfolding edge_bytes
bytes_are w e = refl

edge-bytes : (c : Circle) (e : Edge) → edge_text c e ≡ edge_bytes c.width e
unfolding edge_text edge_bytes
edge-bytes c e = refl

pub edge-length : (c : Circle) (e : Edge) → length (edge_text c e) ≡ c.width + 1
edge-length c e = ap length (edge-bytes c e) ∙ bytes-length c.width e

pub pair-length : (w : ℕ) (a b : Edge) → length (edge_bytes w a ++ edge_bytes w b) ≡ w + 1 + (w + 1)
pair-length w a b = length-append (edge_bytes w a) (edge_bytes w b) ∙ rw (bytes-length w a, bytes-length w b)

-- a box is its latitudes and then its longitudes
pub region_text_lem : (b : Region)
    → (edge_bytes 2 b.north ++ edge_bytes 2 b.south) ++ (edge_bytes 3 b.west ++ edge_bytes 3 b.east) ≡ region_text b
unfolding region_text edge_text edge_bytes
region_text_lem b = append_assoc (edge_bytes 2 b.north) (edge_bytes 2 b.south) (edge_bytes 3 b.west ++ edge_bytes 3 b.east)

-- 14 bytes
pub region_length : (b : Region) → length (region_text b) ≡ 14
region_length b =
    let lat = edge_bytes 2 b.north ++ edge_bytes 2 b.south in
    let lon = edge_bytes 3 b.west ++ edge_bytes 3 b.east in
    rw (← (region_text_lem b)) (length-append lat lon ∙ rw (pair-length 2 b.north b.south, pair-length 3 b.west b.east))
