-- Fields both ways: what a record that is allowed writes is accepted and reads back, and what is accepted is written back as the same bytes.
use mathlib.Core.Path.{◌≡◌, sym, ap, ◌∙◌}
use mathlib.Core.Bool.{true, false, not}
use mathlib.Core.List.{List, [], ◌∷◌, ◌++◌}
use Prim.Native.Nat.{ℕ, ◌+◌, ◌^◌, ◌≤◌, ◌<◌}
use native.Mathlib.Omega.{arith}
use native.Mathlib.Numerals.{add-one}
use lib.Dec.{leb, lit<}
use lib.ListN.{length, get_or, drop, length-drop}
use lib.Seq.{take-suc, get_or-drop}
use borrow.Author.Tests.{le-leb, leb-true, not-true}
use Rattle.text.specs.Checks.{must, ◌and_then◌}
use Rattle.text.specs.Parts.{part}
use Rattle.text.proofs.Checks.{must-held, both-fine}
use Rattle.text.proofs.Stands.{Stands, stands-part, stands-byte, stands-left, stands_right, part-add}
use Rattle.field.specs.declared.Circle.{Circle}
use Rattle.field.specs.declared.Edge.{Edge}
use Rattle.field.specs.declared.Region.{Region}
use Rattle.field.specs.Decimal.{all_digits, value, decimal}
use Rattle.field.specs.Fields.{check_digits, check_delimiter}
use Rattle.field.specs.Boxes.{latitude, longitude, is_letter, below_zero, north_first, edge_at, edge_text, edge_allowed, check_edge, region_at, region_text, region_allowed, check_box}
use Rattle.field.proofs.Decimal.{part-long, decimal-length, decimal-digits, value-decimal, decimal-value}
use Rattle.field.proofs.Number.{digits-fine}
use Rattle.field.proofs.Accepted.{number, edge, box, box-next}
use Rattle.field.proofs.Spelling.{edge-length}
use Rattle.std.specs.Prelude.{Ok}
use Rattle.text.specs.declared.Code.{Code}
use Rattle.text.specs.declared.Code.TheVariants.{Disagree, NotAllowed, OtherSpelling, OutOfRange}

-- ---- Digits, delimiters

module _ (w v : ℕ) (s : List ℕ) (at : ℕ) (held : v < 10 ^ w) (stands : Stands (decimal w v) s at) where
  digits-there : part at w s ≡ decimal w v
  digits-there = stands-part (decimal w v) s at w (decimal-length w v) stands

  -- a number that was written reads back
  pub number-value : value (part at w s) ≡ v
  number-value = ap value digits-there ∙ value-decimal w v held

  -- and is accepted, where it fits
  pub number-stands : (code : Code) (least most : ℕ) → least ≤ v → v ≤ most → check_digits code w least most s at ≡ Ok (at + w)
  number-stands code least most low high =
      digits-fine code w least most s at (omega (arith, stands.room, decimal-length w v))
      (ap all_digits digits-there ∙ decimal-digits w v) (omega (arith, number-value)) (omega (arith, number-value))

-- digits in a text are the one spelling of what they are worth
pub digits-read : (w : ℕ) (s : List ℕ) (at : ℕ) → at + w ≤ length s → all_digits (part at w s) ≡ true → decimal w (value (part at w s)) ≡ part at w s
digits-read w s at room digits =
    ap (λ (k : ℕ). decimal k (value (part at w s))) (sym (part-long s at w room)) ∙ decimal-value (part at w s) digits

-- an accepted number is written back as the same digits
pub number_read_lem : (code : Code) (w least most : ℕ) (s : List ℕ) (at p : ℕ) → check_digits code w least most s at ≡ Ok p
    → decimal w (value (part at w s)) ≡ part at w s
number_read_lem code w least most s at p e = let n = number code w least most s at p e in digits-read w s at n.room n.digits

-- a delimiter that was written is accepted
pub delimiter-stands : (s : List ℕ) (at : ℕ) → Stands (47 ∷ []) s at → check_delimiter s at ≡ Ok (at + 1)
unfolding check_delimiter
delimiter-stands s at stands = rw (le-leb (at + 1) (length s) stands.room, stands-byte 47 s at stands)

-- ---- Edges

-- what an allowed edge says
pub record Allowed (c : Circle) (e : Edge) : Type 0 where
  pub letter : is_letter c e.letter ≡ true
  pub spelt : below_zero c e.degrees e.letter ≡ false
  pub most : e.degrees ≤ c.most

pub edge-held : (c : Circle) (at : ℕ) (e : Edge) → edge_allowed c at e ≡ (Ok tt) → Allowed c e
unfolding edge_allowed
edge-held c at e fine =
    let zeroed = below_zero c e.degrees e.letter in
    let second = must (not zeroed) OtherSpelling at in
    let third = must (leb e.degrees c.most) OutOfRange at in
    let x = both-fine (must (is_letter c e.letter) NotAllowed at) (second and_then third) tt fine in
    let y = both-fine second third tt x.1 in
    record {
      letter = must-held (is_letter c e.letter) NotAllowed at x.0;
      spelt = not-true zeroed (must-held (not zeroed) OtherSpelling at y.0);
      most = leb-true e.degrees c.most (must-held (leb e.degrees c.most) OutOfRange at y.1);
    }

pub edge-fine : (c : Circle) (at : ℕ) (e : Edge) → Allowed c e → edge_allowed c at e ≡ (Ok tt)
unfolding edge_allowed
edge-fine c at e a = rw (a.letter, a.spelt, le-leb e.degrees c.most a.most)

module _ (c : Circle) (wide : c.most < 10 ^ c.width) (e : Edge) (a : Allowed c e) (s : List ℕ) (at : ℕ) (stands : Stands (edge_text c e) s at) where
  digits_stand : Stands (decimal c.width e.degrees) s at
  unfolding edge_text
  digits_stand = stands-left (decimal c.width e.degrees) (e.letter ∷ []) s at stands

  held : e.degrees < 10 ^ c.width
  held = omega (arith, a.most)

  degrees-there : value (part at c.width s) ≡ e.degrees
  degrees-there = number-value c.width e.degrees s at held digits_stand

  letter-there : get_or s (at + c.width) 0 ≡ e.letter
  unfolding edge_text
  letter-there =
      let d = decimal c.width e.degrees in
      stands-byte e.letter s (at + c.width)
      (rw (decimal-length c.width e.degrees) at (stands_right d (e.letter ∷ []) s at stands))

  -- an edge that was written reads back
  pub edge-back : edge_at c s at ≡ e
  unfolding edge_at
  edge-back = rw (degrees-there, letter-there)

  -- and is accepted
  pub edge-stands : check_edge c s at ≡ Ok (at + (c.width + 1))
  unfolding check_edge
  edge-stands =
      rw (
        le-leb (at + (c.width + 1)) (length s) (omega (arith, stands.room, edge-length c e)),
        digits-there c.width e.degrees s at held digits_stand,
        value-decimal c.width e.degrees held,
        decimal-digits c.width e.degrees,
        letter-there,
        a.letter,
        a.spelt,
        le-leb e.degrees c.most a.most,
      )

-- an accepted edge is allowed in a record
pub edge-allowed : (c : Circle) (s : List ℕ) (at p : ℕ) → check_edge c s at ≡ Ok p → Allowed c (edge_at c s at)
unfolding edge_at
edge-allowed c s at p e = let r = edge c s at p e in record { letter = r.letter; spelt = r.spelt; most = r.most }

-- and is written back as the same bytes
pub edge-read : (c : Circle) (s : List ℕ) (at p : ℕ) → check_edge c s at ≡ Ok p → edge_text c (edge_at c s at) ≡ part at (c.width + 1) s
unfolding edge_at edge_text
edge-read c s at p e =
    let r = edge c s at p e in
    let w = c.width in
    let spelt = digits-read w s at (omega (arith, r.room)) r.digits in
    rw (spelt, add-one, take-suc (drop at s) w 0 (omega (arith, r.room, length-drop at s)), get_or-drop at s w 0)

-- ---- Boxes

-- what an allowed box says
pub record AllowedBox (b : Region) : Type 0 where
  pub north : Allowed latitude b.north
  pub south : Allowed latitude b.south
  pub falling : north_first b.north b.south ≡ true
  pub west : Allowed longitude b.west
  pub east : Allowed longitude b.east

pub region_held : (at : ℕ) (b : Region) → region_allowed at b ≡ (Ok tt) → AllowedBox b
unfolding region_allowed
region_held at b fine =
    let s2 = edge_allowed latitude (at + 3) b.south in
    let s3 = must (north_first b.north b.south) Disagree (at + 3) in
    let s4 = edge_allowed longitude (at + 6) b.west in
    let s5 = edge_allowed longitude (at + 10) b.east in
    let f1 = both-fine (edge_allowed latitude at b.north) (s2 and_then s3 and_then s4 and_then s5) tt fine in
    let f2 = both-fine s2 (s3 and_then s4 and_then s5) tt f1.1 in
    let f3 = both-fine s3 (s4 and_then s5) tt f2.1 in
    let f4 = both-fine s4 s5 tt f3.1 in
    record {
      north = edge-held latitude at b.north f1.0;
      south = edge-held latitude (at + 3) b.south f2.0;
      falling = must-held (north_first b.north b.south) Disagree (at + 3) f3.0;
      west = edge-held longitude (at + 6) b.west f4.0;
      east = edge-held longitude (at + 10) b.east f4.1;
    }

pub region_fine : (at : ℕ) (b : Region) → AllowedBox b → region_allowed at b ≡ (Ok tt)
unfolding region_allowed
region_fine at b a =
    rw (
      edge-fine latitude at b.north a.north,
      edge-fine latitude (at + 3) b.south a.south,
      a.falling,
      edge-fine longitude (at + 6) b.west a.west,
      edge-fine longitude (at + 10) b.east a.east,
    )

-- four texts of 3, 3, 4 and 4 bytes
module _ (n m w e s : List ℕ) (at : ℕ) (ln : length n ≡ 3) (lm : length m ≡ 3) (lw : length w ≡ 4) (stands : Stands (n ++ (m ++ (w ++ e))) s at) where
  behind-first : Stands (m ++ (w ++ e)) s (at + 3)
  behind-first = rw ln at (stands_right n (m ++ (w ++ e)) s at stands)

  behind-second : Stands (w ++ e) s (at + 6)
  behind-second =
      let k : at + 3 + 3 ≡ at + 6 = omega arith in
      rw k at (rw lm at (stands_right m (w ++ e) s (at + 3) behind-first))

  behind-third : Stands e s (at + 10)
  behind-third =
      let k : at + 6 + 4 ≡ at + 10 = omega arith in
      rw k at (rw lw at (stands_right w e s (at + 6) behind-second))

  four : Stands n s at × Stands m s (at + 3) × Stands w s (at + 6) × Stands e s (at + 10)
  four = (stands-left n (m ++ (w ++ e)) s at stands, stands-left m (w ++ e) s (at + 3) behind-first, stands-left w e s (at + 6) behind-second, behind-third)

module _ (b : Region) (a : AllowedBox b) (s : List ℕ) (at : ℕ) (stands : Stands (region_text b) s at) where
  edges_stand : Stands (edge_text latitude b.north) s at
      × Stands (edge_text latitude b.south) s (at + 3)
      × Stands (edge_text longitude b.west) s (at + 6)
      × Stands (edge_text longitude b.east) s (at + 10)
  unfolding region_text
  edges_stand =
      four (edge_text latitude b.north) (edge_text latitude b.south) (edge_text longitude b.west) (edge_text longitude b.east) s at (edge-length latitude b.north) (edge-length latitude b.south) (edge-length longitude b.west) stands

  -- a box that was written reads back
  pub region_back : region_at s at ≡ b
  unfolding region_at
  region_back =
      rw (
        edge-back latitude (lit< tt) b.north a.north s at edges_stand.0,
        edge-back latitude (lit< tt) b.south a.south s (at + 3) edges_stand.1,
        edge-back longitude (lit< tt) b.west a.west s (at + 6) edges_stand.2,
        edge-back longitude (lit< tt) b.east a.east s (at + 10) edges_stand.3,
      )

  -- and is accepted
  pub box-stands : check_box s at ≡ Ok (at + 14)
  box-stands =
      let m : at + 3 + 3 ≡ at + 6 = omega arith in
      let w : at + 6 + 4 ≡ at + 10 = omega arith in
      let e : at + 10 + 4 ≡ at + 14 = omega arith in
      box-next s at
      (record {
        north = edge-stands latitude (lit< tt) b.north a.north s at edges_stand.0;
        south = edge-stands latitude (lit< tt) b.south a.south s (at + 3) edges_stand.1 ∙ ap Ok m;
        falling =
            rw (edge-back latitude (lit< tt) b.north a.north s at edges_stand.0, edge-back latitude (lit< tt) b.south a.south s (at + 3) edges_stand.1)
            a.falling;
        west = edge-stands longitude (lit< tt) b.west a.west s (at + 6) edges_stand.2 ∙ ap Ok w;
        east = edge-stands longitude (lit< tt) b.east a.east s (at + 10) edges_stand.3 ∙ ap Ok e;
      })

-- an accepted box is allowed in a record
pub region_allowed_lem : (s : List ℕ) (at p : ℕ) → check_box s at ≡ Ok p → AllowedBox (region_at s at)
unfolding region_at
region_allowed_lem s at p e =
    let r = (box s at p e).1 in
    record {
      north = edge-allowed latitude s at (at + 3) r.north;
      south = edge-allowed latitude s (at + 3) (at + 6) r.south;
      falling = r.falling;
      west = edge-allowed longitude s (at + 6) (at + 10) r.west;
      east = edge-allowed longitude s (at + 10) (at + 14) r.east;
    }

-- and is written back as the same bytes
pub region_read : (s : List ℕ) (at p : ℕ) → check_box s at ≡ Ok p → region_text (region_at s at) ≡ part at 14 s
unfolding region_at region_text
region_read s at p e =
    let r = (box s at p e).1 in
    let m : at + 3 + 3 ≡ at + 6 = omega arith in
    let w : at + 6 + 4 ≡ at + 10 = omega arith in
    rw (
      edge-read latitude s at (at + 3) r.north,
      edge-read latitude s (at + 3) (at + 6) r.south,
      edge-read longitude s (at + 6) (at + 10) r.west,
      edge-read longitude s (at + 10) (at + 14) r.east,
      part-add s at 3 11,
      part-add s (at + 3) 3 8,
      m,
      part-add s (at + 6) 4 4,
      w,
    )
