-- The fields of a command and its boxes: each check looks only at the bytes that it passes over, and so does what is read there.
use mathlib.Core.Path.{◌≡◌, refl, sym, ap, ◌∙◌}
use mathlib.Core.Bool.{Bool, true, false, cond, ◌&&◌}
use mathlib.Core.List.{List}
use Prim.Native.Nat.{ℕ, ◌+◌}
use native.Mathlib.Omega.{arith}
use native.Mathlib.Nat.{add-zero}
use lib.Dec.{leb, eqb}
use lib.ListN.{get_or, take, drop}
use lib.Seq.{take-take}
use Rattle.text.specs.Names.{all_allowed}
use Rattle.text.specs.Parts.{part}
use Rattle.field.specs.Decimal.{all_digits, value}
use Rattle.field.specs.Fields.{room, check_digits, check_delimiter, check_airfield}
use Rattle.text.specs.Checks.{after, refuse}
use Rattle.field.specs.Boxes.{latitude, longitude, is_letter, below_zero, edge_at, check_edge, check_pair, check_box, north_first, region_at}
use Rattle.field.specs.declared.Circle.{Circle}
use Rattle.field.specs.declared.Edge.{Edge}
use Rattle.field.specs.declared.Region.{Region}
use Rattle.field.specs.Steps.{in_order}
use Rattle.field.proofs.Edges.{any_order}
use Rattle.field.proofs.Local.{Local, Reads, Sized, outcome, field, field_local, field-reads, field-sized, part-byte, local_same, same_reads, same-sized, reads_fixed, reads_with, reads_same}
use Rattle.field.proofs.LocalThen.{bound_local, bound-first, bound-second, bound-sized, judged, judged_local, judged-reads, judged-sized}
use Rattle.std.specs.Prelude.{Option, Some, None, Result, Ok}
use Rattle.text.specs.declared.Refusal.{Refusal}
use Rattle.text.specs.declared.Code.TheVariants.{Disagree, NotAllowed, OtherSpelling, OutOfRange, WrongFixed}
use Rattle.text.specs.declared.Code.{Code}

-- ---- Each field as its bytes and a test of them

abbrev digits_test : Code → ℕ → ℕ → List ℕ → Option Code
digits_test code least most b = cond (all_digits b) (cond (leb least (value b) && leb (value b) most) None (Some code)) (Some NotAllowed)

abbrev delimiter_test : List ℕ → Option Code
delimiter_test b = cond (eqb (get_or b 0 0) 47) None (Some WrongFixed)

abbrev airfield_test : List ℕ → Option Code
airfield_test b = cond (all_allowed b) None (Some NotAllowed)

abbrev edge_of : Circle → List ℕ → Edge
edge_of c b = record { degrees = value (take c.width b); letter = get_or b c.width 0 }

abbrev edge_test : Circle → List ℕ → Option Code
edge_test c b =
    cond (all_digits (take c.width b) && is_letter c (get_or b c.width 0))
    (cond (below_zero c (value (take c.width b)) (get_or b c.width 0)) (Some OtherSpelling) (cond (leb (value (take c.width b)) c.most) None (Some OutOfRange)))
    (Some NotAllowed)

one_test : (t : Bool) (code : Code) (at next : ℕ) → outcome (cond t None (Some code)) at next ≡ cond t (Ok next) (refuse code at)
one_test true code at next = refl
one_test false code at next = refl

two-tests : (t u : Bool) (code : Code) (at next : ℕ)
    → cond t (cond u (Ok next) (refuse code at)) (refuse NotAllowed at) ≡ outcome (cond t (cond u None (Some code)) (Some NotAllowed)) at next
two-tests true true code at next = refl
two-tests true false code at next = refl
two-tests false u code at next = refl

three_tests : (t u w : Bool) (at next : ℕ)
    → cond t (cond u (refuse OtherSpelling at) (cond w (Ok next) (refuse OutOfRange at))) (refuse NotAllowed at) ≡ outcome (cond t (cond u (Some OtherSpelling) (cond w None (Some OutOfRange))) (Some NotAllowed)) at next
three_tests true true w at next = refl
three_tests true false true at next = refl
three_tests true false false at next = refl
three_tests false u w at next = refl

digits-field : (code : Code) (w least most : ℕ) (s : List ℕ) (at : ℕ)
    → check_digits code w least most s at ≡ field w (digits_test code least most) s at
unfolding check_digits
digits-field code w least most s at =
    ap (room w s at)
    (two-tests (all_digits (part at w s)) (leb least (value (part at w s)) && leb (value (part at w s)) most) code at (at + w))

first_byte : (s : List ℕ) (at : ℕ) → get_or (part at 1 s) 0 0 ≡ get_or s at 0
first_byte s at = part-byte 1 s at 0 (omega arith) ∙ rw (add-zero at)

delimiter-field : (s : List ℕ) (at : ℕ) → check_delimiter s at ≡ field 1 delimiter_test s at
unfolding check_delimiter
delimiter-field s at = rw (first_byte s at) (ap (room 1 s at) (sym (one_test (eqb (get_or s at 0) 47) WrongFixed at (at + 1))))

airfield-field : (s : List ℕ) (at : ℕ) → check_airfield s at ≡ field 4 airfield_test s at
unfolding check_airfield
airfield-field s at = ap (room 4 s at) (sym (one_test (all_allowed (part at 4 s)) NotAllowed at (at + 4)))

edge-field : (c : Circle) (s : List ℕ) (at : ℕ) → check_edge c s at ≡ field (c.width + 1) (edge_test c) s at
unfolding check_edge
edge-field c s at =
    let w = c.width in
    rw (take-take w (w + 1) (drop at s) (omega arith), part-byte (w + 1) s at w (omega arith))
    (ap (room (w + 1) s at)
    (three_tests (all_digits (part at w s) && is_letter c (get_or s (at + w) 0)) (below_zero c (value (part at w s)) (get_or s (at + w) 0))
    (leb (value (part at w s)) c.most) at (at + (w + 1))))

-- ---- Digits, the delimiter, airfields

module _ (code : Code) (w least most : ℕ) where
  abbrev check : List ℕ → ℕ → Result ℕ Refusal
  check = check_digits code w least most

  abbrev bytes : List ℕ → ℕ → Result ℕ Refusal
  bytes = field w (digits_test code least most)

  -- digits are local
  pub digits_local : Local (check_digits code w least most)
  digits_local = local_same check bytes (digits-field code w least most) (field_local w (digits_test code least most))

  -- what they are read as
  pub digits-reads : {A : Type 0} (r : List ℕ → A) → Reads (check_digits code w least most) (λ s at. r (part at w s))
  digits-reads r =
      same_reads check bytes (digits-field code w least most) (λ s at. r (part at w s)) (field-reads w (digits_test code least most) r)

  -- there are w of them
  pub digits-sized : Sized (check_digits code w least most) (λ s at. w)
  digits-sized = same-sized check bytes (digits-field code w least most) (λ s at. w) (field-sized w (digits_test code least most))

-- the delimiter is local
pub delimiter_local : Local check_delimiter
delimiter_local = local_same check_delimiter (field 1 delimiter_test) delimiter-field (field_local 1 delimiter_test)

-- it has one byte
pub delimiter-sized : Sized check_delimiter (λ s at. 1)
delimiter-sized = same-sized check_delimiter (field 1 delimiter_test) delimiter-field (λ s at. 1) (field-sized 1 delimiter_test)

-- an airfield is local
pub airfield_local : Local check_airfield
airfield_local = local_same check_airfield (field 4 airfield_test) airfield-field (field_local 4 airfield_test)

-- it has four bytes
pub airfield-sized : Sized check_airfield (λ s at. 4)
airfield-sized = same-sized check_airfield (field 4 airfield_test) airfield-field (λ s at. 4) (field-sized 4 airfield_test)

-- ---- Edges

module _ (c : Circle) where
  -- an edge is local
  pub edge_local : Local (check_edge c)
  edge_local = local_same (check_edge c) (field (c.width + 1) (edge_test c)) (edge-field c) (field_local (c.width + 1) (edge_test c))

  -- it has its digits and a letter
  pub edge-sized : Sized (check_edge c) (λ s at. c.width + 1)
  edge-sized =
      same-sized (check_edge c) (field (c.width + 1) (edge_test c)) (edge-field c) (λ s at. c.width + 1) (field-sized (c.width + 1) (edge_test c))

  edge-bytes : (s : List ℕ) (at : ℕ) → edge_at c s at ≡ edge_of c (part at (c.width + 1) s)
  unfolding edge_at
  edge-bytes s at =
      let w = c.width in
      rw (take-take w (w + 1) (drop at s) (omega arith), part-byte (w + 1) s at w (omega arith))

  -- the edge that is read there
  pub edge-reads : Reads (check_edge c) (edge_at c)
  edge-reads =
      same_reads (check_edge c) (field (c.width + 1) (edge_test c)) (edge-field c) (edge_at c)
      (reads_same (field (c.width + 1) (edge_test c)) (edge_at c) (λ s at. edge_of c (part at (c.width + 1) s)) edge-bytes
      (field-reads (c.width + 1) (edge_test c) (edge_of c)))

-- ---- Pairs of edges, and boxes

abbrev pair_at : Circle → List ℕ → ℕ → Edge × Edge
pair_at c s at = (edge_at c s at, edge_at c s (at + (c.width + 1)))

module _ (c : Circle) (in_order : Edge → Edge → Bool) where
  abbrev second : Edge → List ℕ → ℕ → Result ℕ Refusal
  second e = judged (check_edge c) (edge_at c) (in_order e) Disagree

  -- a pair of edges is local
  pub pair_local : Local (check_pair c in_order)
  unfolding check_pair
  pair_local =
      bound_local (check_edge c) (edge_at c) second (edge_local c) (edge-reads c)
      (λ e. judged_local (check_edge c) (edge_at c) (in_order e) Disagree (edge_local c) (edge-reads c))

  -- the two edges that are read there
  pub pair_reads : Reads (check_pair c in_order) (pair_at c)
  unfolding check_pair
  pair_reads =
      reads_with (check_pair c in_order) (edge_at c) (λ s at. edge_at c s (at + (c.width + 1))) (λ n m. (n, m))
      (bound-first (check_edge c) (edge_at c) second (edge_at c) (edge-reads c))
      (bound-second (check_edge c) (edge_at c) second (λ s at. c.width + 1) (λ e. edge_at c) (edge-reads c) (edge-sized c)
      (λ e. judged-reads (check_edge c) (edge_at c) (in_order e) Disagree (edge_at c) (edge-reads c)))

  -- it is as long as both
  pub pair-sized : Sized (check_pair c in_order) (λ s at. c.width + 1 + (c.width + 1))
  unfolding check_pair
  pair-sized =
      bound-sized (check_edge c) (edge_at c) second (λ s at. c.width + 1) (λ e s at. c.width + 1) (edge-reads c) (edge-sized c)
      (λ e. judged-sized (check_edge c) (edge_at c) (in_order e) Disagree (λ s at. c.width + 1) (edge-sized c))

abbrev no_value : List ℕ → ℕ → ℕ
no_value s at = 0

-- longitudes are a pair in any order
abbrev any_pair : List ℕ → ℕ → Result ℕ Refusal
any_pair = check_pair longitude (in_order false longitude)

abbrev longitudes : ℕ → List ℕ → ℕ → Result ℕ Refusal
longitudes a s at = after (check_edge longitude s at) (check_edge longitude s)

-- a box is local
pub box_local : Local check_box
unfolding check_box
box_local =
    bound_local (check_pair latitude north_first) no_value longitudes (pair_local latitude north_first)
    (reads_fixed (check_pair latitude north_first) 0) (λ a. local_same (longitudes a) any_pair (any_order longitude) (pair_local longitude (in_order false longitude)))

-- it has 14 bytes
pub box-sized : Sized check_box (λ s at. 14)
unfolding check_box
box-sized =
    bound-sized (check_pair latitude north_first) no_value longitudes (λ s at. 6) (λ a s at. 8)
    (reads_fixed (check_pair latitude north_first) 0) (pair-sized latitude north_first) (λ a. same-sized (longitudes a) any_pair (any_order longitude) (λ s at. 8) (pair-sized longitude (in_order false longitude)))

abbrev region_of : Edge × Edge → Edge × Edge → Region
region_of p q = record { north = p.0; south = p.1; west = q.0; east = q.1 }

-- the box that is read there
pub box-reads : Reads check_box region_at
unfolding check_box region_at
box-reads =
    reads_same check_box region_at (λ s at. region_of (pair_at latitude s at) (pair_at longitude s (at + 6)))
    (λ s at. let k : at + 6 + 4 ≡ at + 10 = omega arith in rw k)
    (reads_with check_box (pair_at latitude) (λ s at. pair_at longitude s (at + 6)) region_of
    (bound-first (check_pair latitude north_first) no_value longitudes (pair_at latitude) (pair_reads latitude north_first))
    (bound-second (check_pair latitude north_first) no_value longitudes (λ s at. 6) (λ a. pair_at longitude)
    (reads_fixed (check_pair latitude north_first) 0) (pair-sized latitude north_first) (λ a. same_reads (longitudes a) any_pair (any_order longitude) (pair_at longitude) (pair_reads longitude (in_order false longitude)))))
