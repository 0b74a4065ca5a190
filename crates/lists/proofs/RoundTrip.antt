-- The counted lists both ways: what a record that is allowed writes is accepted and reads back, and what is accepted is written back as the same bytes.
use mathlib.Core.Path.{◌≡◌, refl, sym, ap, ◌∙◌}
use mathlib.Core.Bool.{true, ◌&&◌}
use mathlib.Core.List.{List, [], ◌∷◌, ◌++◌}
use Prim.Native.Nat.{ℕ, zero, suc, ◌+◌, ◌-◌, ◌*◌, ◌≤◌, ◌<◌}
use native.Mathlib.Omega.{arith}
use lib.Dec.{leb, eqb, lit<}
use lib.ListN.{length, take, drop, replicate, length-append, length-drop, length-replicate, take-append-drop}
use lib.Seq.{length-take-le, take_at, drop_at, take-add}
use borrow.Author.Tests.{le-leb, leb-true, eqb-true}
use Rattle.text.specs.Checks.{must, ◌and_then◌}
use Rattle.text.specs.Names.{all_allowed}
use Rattle.text.specs.Parts.{part}
use Rattle.text.proofs.Cases.{both_left, both_right}
use Rattle.text.proofs.Checks.{must-held, both-fine}
use Rattle.text.proofs.Names.{allowed-append}
use Rattle.text.proofs.Stands.{Stands, stands-part, stands-left, stands_right, part-add}
use Rattle.field.specs.declared.Edge.{Edge}
use Rattle.field.specs.declared.Region.{Region}
use Rattle.field.specs.Decimal.{decimal}
use Rattle.field.specs.Fields.{check_airfield, repeat}
use Rattle.field.specs.Boxes.{check_box, region_at, region_allowed, region_text, no_region}
use Rattle.field.proofs.Accepted.{both, box}
use Rattle.field.proofs.Decimal.{part-long, decimal-length}
use Rattle.field.proofs.Repeat.{airfields-next}
use Rattle.field.proofs.RoundTrip.{number-value, number-stands, digits-read, region_held, region_fine, region_back, box-stands, region_allowed_lem, region_read}
use Rattle.field.proofs.Spelling.{region_length}
use Rattle.lists.specs.declared.Airfields.{Airfields}
use Rattle.lists.specs.declared.Boxes.{Boxes}
use Rattle.lists.specs.Lists.{count_at, check_list, check_airfields, check_boxes, airfields_at, all_zero, names_allowed, airfields_allowed, airfields_text, regions_at, boxes_at, edge_zero, region_zero, regions_zero, regions_allowed, boxes_allowed, regions_text, boxes_text, no_airfields, no_boxes}
use Rattle.lists.proofs.Accepted.{Counted, counted, Named, airfields}
use Rattle.lists.proofs.Fill.{regions-length}
use Rattle.std.specs.Prelude.{Result, Ok}
use Rattle.text.specs.declared.Refusal.{Refusal}
use Rattle.text.specs.declared.Code.TheVariants.{Disagree, NotAllowed, OutOfRange}

-- ---- The count, before any entries

module _ (limit n : ℕ) (rest s : List ℕ) (at : ℕ) (few : n ≤ limit) (small : limit < 100) (stands : Stands (decimal 2 n ++ rest) s at) where
  count-stands : Stands (decimal 2 n) s at
  count-stands = stands-left (decimal 2 n) rest s at stands

  entries_stand : Stands rest s (at + 2)
  entries_stand = rw (decimal-length 2 n) at (stands_right (decimal 2 n) rest s at stands)

  count-back : count_at s at ≡ n
  count-back = number-value 2 n s at (omega arith) count-stands

  list-stands : (entry : List ℕ → ℕ → Result ℕ Refusal) (p : ℕ) → repeat (entry s) n (at + 2) ≡ Ok p → check_list limit entry s at ≡ Ok p
  unfolding check_list
  list-stands entry p e = rw (number-stands 2 n s at (omega arith) count-stands OutOfRange 0 limit (omega arith) few, count-back) e

-- ---- Airfields

-- n allowed names are 4n allowed bytes
names-held : (n at : ℕ) (names : List ℕ) → names_allowed n at names ≡ (Ok tt) → all_allowed (take (4 * n) names) ≡ true
unfolding names_allowed all_allowed
names-held zero at names fine = refl
names-held (suc n) at names fine =
    let x = both-fine (must (all_allowed (take 4 names)) NotAllowed at) (names_allowed n (at + 4) (drop 4 names)) tt fine in
    let first = must-held (all_allowed (take 4 names)) NotAllowed at x.0 in
    let k : 4 * suc n ≡ 4 + 4 * n = omega arith in
    rw (k, take-add 4 (4 * n) names, allowed-append (take 4 names) (take (4 * n) (drop 4 names)), first) (names-held n (at + 4) (drop 4 names) x.1)

names-fine : (n at : ℕ) (names : List ℕ) → all_allowed (take (4 * n) names) ≡ true → names_allowed n at names ≡ (Ok tt)
unfolding names_allowed
names-fine zero at names e = refl
names-fine (suc n) at names e =
    let k : 4 * suc n ≡ 4 + 4 * n = omega arith in
    let f = rw (k, take-add 4 (4 * n) names, allowed-append (take 4 names) (take (4 * n) (drop 4 names))) at e in
    let first = both_left (all_allowed (take 4 names)) (all_allowed (take (4 * n) (drop 4 names))) f in
    let others = both_right (all_allowed (take 4 names)) (all_allowed (take (4 * n) (drop 4 names))) f in
    rw first (names-fine n (at + 4) (drop 4 names) others)

-- bytes that are all zero are so many zeros
zeros_are : (l : List ℕ) → all_zero l ≡ true → l ≡ replicate (length l) 0
unfolding all_zero
zeros_are [] e = refl
zeros_are (b ∷ bs) e =
    rw (eqb-true b 0 (both_left (eqb b 0) (all_zero bs) e), ← (zeros_are bs (both_right (eqb b 0) (all_zero bs) e)))

zeros-all : (n : ℕ) → all_zero (replicate n 0) ≡ true
unfolding all_zero
zeros-all zero = refl
zeros-all (suc n) = zeros-all n

-- what an allowed list of airfields says
pub record AllowedNames (l : Airfields) : Type 0 where
  pub few : l.count ≤ 20
  pub zeros : all_zero (drop (4 * l.count) l.names) ≡ true
  pub names : all_allowed (take (4 * l.count) l.names) ≡ true

pub airfields-held : (at : ℕ) (l : Airfields) → airfields_allowed at l ≡ (Ok tt) → AllowedNames l
unfolding airfields_allowed
airfields-held at l fine =
    let unused = all_zero (drop (4 * l.count) l.names) in
    let second = must unused Disagree at in
    let third = names_allowed l.count (at + 2) l.names in
    let x = both-fine (must (leb l.count 20) OutOfRange at) (second and_then third) tt fine in
    let y = both-fine second third tt x.1 in
    record {
      few = leb-true l.count 20 (must-held (leb l.count 20) OutOfRange at x.0);
      zeros = must-held unused Disagree at y.0;
      names = names-held l.count (at + 2) l.names y.1;
    }

pub airfields-fine : (at : ℕ) (l : Airfields) → AllowedNames l → airfields_allowed at l ≡ (Ok tt)
unfolding airfields_allowed
airfields-fine at l a = rw (le-leb l.count 20 a.few, a.zeros) (names-fine l.count (at + 2) l.names a.names)

module _ (l : Airfields) (full : length l.names ≡ 80) (a : AllowedNames l) (s : List ℕ) (at : ℕ) (stands : Stands (airfields_text l) s at) where
  used : length (take (4 * l.count) l.names) ≡ 4 * l.count
  used = length-take-le (4 * l.count) l.names (omega (arith, a.few))

  as_text : Stands (decimal 2 l.count ++ take (4 * l.count) l.names) s at
  unfolding airfields_text
  as_text = stands

  names_stand : Stands (take (4 * l.count) l.names) s (at + 2)
  names_stand = entries_stand 20 l.count (take (4 * l.count) l.names) s at a.few (lit< tt) as_text

  names-there : part (at + 2) (4 * l.count) s ≡ take (4 * l.count) l.names
  names-there = stands-part (take (4 * l.count) l.names) s (at + 2) (4 * l.count) used names_stand

  -- a list that was written is accepted
  pub airfields-stands : check_airfields s at ≡ Ok (at + 2 + 4 * l.count)
  airfields-stands =
      list-stands 20 l.count (take (4 * l.count) l.names) s at a.few (lit< tt) as_text check_airfield (at + 2 + 4 * l.count)
      (airfields-next s l.count (at + 2) (omega (arith, names_stand.room, used)) (ap all_allowed names-there ∙ a.names))

  -- and reads back
  pub airfields-back : airfields_at s at ≡ l
  unfolding airfields_at
  airfields-back =
      let count : count_at s at ≡ l.count = count-back 20 l.count (take (4 * l.count) l.names) s at a.few (lit< tt) as_text in
      let behind : replicate (80 - 4 * l.count) 0 ≡ drop (4 * l.count) l.names =
      sym (zeros_are (drop (4 * l.count) l.names) a.zeros ∙ rw (length-drop (4 * l.count) l.names, full)) in
      rw (count, names-there, behind, take-append-drop (4 * l.count) l.names)

-- an accepted list of airfields, as a record
module _ (s : List ℕ) (at p : ℕ) (e : check_airfields s at ≡ Ok p) where
  listed : Named s at p
  listed = airfields s at p e

  names-long : length (part (at + 2) (4 * count_at s at) s) ≡ 4 * count_at s at
  names-long = part-long s (at + 2) (4 * count_at s at) (omega (arith, listed.next, listed.room))

  -- it has its 80 bytes
  pub airfields-full : length (airfields_at s at).names ≡ 80
  unfolding airfields_at
  airfields-full =
      length-append (part (at + 2) (4 * count_at s at) s) (replicate (80 - 4 * count_at s at) 0)
      ∙ omega (arith, names-long, length-replicate {A = ℕ} (80 - 4 * count_at s at) 0, listed.count.high)

  -- it is allowed
  pub airfields-allowed : AllowedNames (airfields_at s at)
  unfolding airfields_at
  airfields-allowed =
      let k = 4 * count_at s at in
      let names = part (at + 2) k s in
      let rest : List ℕ = replicate (80 - k) 0 in
      record {
        few = listed.count.high;
        zeros = rw (drop_at names rest k names-long) (zeros-all (80 - k));
        names = rw (take_at names rest k names-long) listed.allowed;
      }

  -- and is written back as the same bytes
  pub airfields-read : airfields_text (airfields_at s at) ≡ part at (2 + 4 * count_at s at) s
  unfolding airfields_at airfields_text
  airfields-read =
      let k = 4 * count_at s at in
      rw (
        take_at (part (at + 2) k s) (replicate (80 - k) 0) k names-long,
        digits-read 2 s at listed.count.room listed.count.digits,
        part-add s at 2 k,
      )

-- ---- Boxes

edge_of : ℕ → ℕ → Edge
edge_of d l = record { degrees = d; letter = l }

edge-zero-is : (e : Edge) → edge_zero e ≡ true → e ≡ edge_of 0 0
unfolding edge_of
edge-zero-is e z =
    let d : e.degrees ≡ 0 = eqb-true e.degrees 0 (both_left (eqb e.degrees 0) (eqb e.letter 0) z) in
    let l : e.letter ≡ 0 = eqb-true e.letter 0 (both_right (eqb e.degrees 0) (eqb e.letter 0) z) in
    ap (λ (x : ℕ). edge_of x e.letter) d ∙ ap (λ (x : ℕ). edge_of 0 x) l

region_of_lem : Edge → Edge → Edge → Edge → Region
region_of_lem n s w e = record { north = n; south = s; west = w; east = e }

-- a box that is all zero is the unused one
region_zero-is : (b : Region) → region_zero b ≡ true → b ≡ no_region
unfolding edge_of region_of_lem
region_zero-is b z =
    let n = edge_zero b.north in
    let s = edge_zero b.south in
    let w = edge_zero b.west in
    let e = edge_zero b.east in
    let nsw = both_left (n && s && w) e z in
    let ns = both_left (n && s) w nsw in
    let none = edge_of 0 0 in
    ap (λ (x : Edge). region_of_lem x b.south b.west b.east) (edge-zero-is b.north (both_left n s ns))
    ∙ ap (λ (x : Edge). region_of_lem none x b.west b.east) (edge-zero-is b.south (both_right n s ns))
    ∙ ap (λ (x : Edge). region_of_lem none none x b.east) (edge-zero-is b.west (both_right (n && s) w nsw))
    ∙ ap (λ (x : Edge). region_of_lem none none none x) (edge-zero-is b.east (both_right (n && s && w) e z))

regions-zero_are : (bs : List Region) → regions_zero bs ≡ true → bs ≡ replicate (length bs) no_region
unfolding regions_zero
regions-zero_are [] e = refl
regions-zero_are (b ∷ bs) e =
    let first = region_zero-is b (both_left (region_zero b) (regions_zero bs) e) in
    let others = regions-zero_are bs (both_right (region_zero b) (regions_zero bs) e) in
    ap (λ (x : Region). x ∷ bs) first ∙ ap (λ (l : List Region). no_region ∷ l) others

regions-zero-all : (n : ℕ) → regions_zero (replicate n no_region) ≡ true
unfolding regions_zero
regions-zero-all zero = refl
regions-zero-all (suc n) = regions-zero-all n

-- boxes that were written are accepted and read back
regions_stand : (s : List ℕ) (n at place : ℕ) (bs : List Region) → n ≤ length bs → regions_allowed n place bs ≡ (Ok tt)
    → Stands (regions_text (take n bs)) s at → (repeat (check_box s) n at ≡ Ok (at + 14 * n)) × (regions_at n s at ≡ take n bs)
unfolding repeat regions_at regions_allowed regions_text
regions_stand s zero at place bs h fine stands = (ap Ok (omega arith), refl)
regions_stand s (suc n) at place [] h fine stands = absurd (omega arith)
regions_stand s (suc n) at place (b ∷ bs) h fine stands =
    let x = both-fine (region_allowed place b) (regions_allowed n (place + 14) bs) tt fine in
    let a = region_held place b x.0 in
    let rest = regions_text (take n bs) in
    let first = stands-left (region_text b) rest s at stands in
    let behind : Stands rest s (at + 14) = rw (region_length b) at (stands_right (region_text b) rest s at stands) in
    let others = regions_stand s n (at + 14) (place + 14) bs (omega arith) x.1 behind in
    let k : at + 14 + 14 * n ≡ at + 14 * suc n = omega arith in
    (rw (box-stands b a s at first) (others.0 ∙ ap Ok k), rw (region_back b a s at first, others.1))

-- accepted boxes are allowed, whatever follows them, and are written back as the same bytes
regions-read : (s : List ℕ) (n at p place : ℕ) (rest : List Region) → repeat (check_box s) n at ≡ Ok p
    → (regions_allowed n place (regions_at n s at ++ rest) ≡ (Ok tt)) × (regions_text (regions_at n s at) ≡ part at (14 * n) s)
unfolding repeat regions_at regions_allowed regions_text
regions-read s zero at p place rest e = (refl, refl)
regions-read s (suc n) at p place rest e =
    let x = both (check_box s at) (repeat (check_box s) n) p e in
    let m : x.mid ≡ at + 14 = sym (box s at x.mid x.first).0 in
    let others = regions-read s n (at + 14) p (place + 14) rest (rw m at x.second) in
    let k : 14 * suc n ≡ 14 + 14 * n = omega arith in
    (rw (region_fine place (region_at s at) (region_allowed_lem s at x.mid x.first)) others.0, rw (region_read s at x.mid x.first, others.1, k, part-add s at 14 (14 * n)))

-- what an allowed list of boxes says
pub record AllowedRegions (l : Boxes) (place : ℕ) : Type 0 where
  pub few : l.count ≤ 16
  pub zeros : regions_zero (drop l.count l.regions) ≡ true
  pub regions : regions_allowed l.count place l.regions ≡ (Ok tt)

pub boxes-held : (at : ℕ) (l : Boxes) → boxes_allowed at l ≡ (Ok tt) → AllowedRegions l (at + 2)
unfolding boxes_allowed
boxes-held at l fine =
    let unused = regions_zero (drop l.count l.regions) in
    let second = must unused Disagree at in
    let third = regions_allowed l.count (at + 2) l.regions in
    let x = both-fine (must (leb l.count 16) OutOfRange at) (second and_then third) tt fine in
    let y = both-fine second third tt x.1 in
    record {
      few = leb-true l.count 16 (must-held (leb l.count 16) OutOfRange at x.0);
      zeros = must-held unused Disagree at y.0;
      regions = y.1;
    }

pub boxes-fine : (at : ℕ) (l : Boxes) → AllowedRegions l (at + 2) → boxes_allowed at l ≡ (Ok tt)
unfolding boxes_allowed
boxes-fine at l a = rw (le-leb l.count 16 a.few, a.zeros) a.regions

module _ (l : Boxes) (full : length l.regions ≡ 16) (place : ℕ) (a : AllowedRegions l place) (s : List ℕ) (at : ℕ) (stands : Stands (boxes_text l) s at) where
  boxes-text : Stands (decimal 2 l.count ++ regions_text (take l.count l.regions)) s at
  unfolding boxes_text
  boxes-text = stands

  there : (repeat (check_box s) l.count (at + 2) ≡ Ok (at + 2 + 14 * l.count)) × (regions_at l.count s (at + 2) ≡ take l.count l.regions)
  there =
      regions_stand s l.count (at + 2) place l.regions (omega (arith, a.few)) a.regions
      (entries_stand 16 l.count (regions_text (take l.count l.regions)) s at a.few (lit< tt) boxes-text)

  -- a list that was written is accepted
  pub boxes-stands : check_boxes s at ≡ Ok (at + 2 + 14 * l.count)
  boxes-stands =
      list-stands 16 l.count (regions_text (take l.count l.regions)) s at a.few (lit< tt) boxes-text check_box (at + 2 + 14 * l.count) there.0

  -- and reads back
  pub boxes-back : boxes_at s at ≡ l
  unfolding boxes_at
  boxes-back =
      let count : count_at s at ≡ l.count = count-back 16 l.count (regions_text (take l.count l.regions)) s at a.few (lit< tt) boxes-text in
      let behind : replicate (16 - l.count) no_region ≡ drop l.count l.regions =
      sym (regions-zero_are (drop l.count l.regions) a.zeros ∙ rw (length-drop l.count l.regions, full)) in
      rw (count, there.1, behind, take-append-drop l.count l.regions)

-- an accepted list of boxes, as a record
module _ (s : List ℕ) (at p : ℕ) (e : check_boxes s at ≡ Ok p) where
  boxed : Counted 16 check_box s at p
  boxed = counted 16 check_box s at p e

  -- it has its 16 boxes
  pub boxes-full : length (boxes_at s at).regions ≡ 16
  unfolding boxes_at
  boxes-full =
      let n = count_at s at in
      length-append (regions_at n s (at + 2)) (replicate (16 - n) no_region)
      ∙ omega (arith, regions-length n s (at + 2), length-replicate (16 - n) no_region, boxed.count.high)

  -- it is allowed, wherever it would stand
  pub boxes-allowed : (place : ℕ) → AllowedRegions (boxes_at s at) place
  unfolding boxes_at
  boxes-allowed place =
      let n = count_at s at in
      let rest = replicate (16 - n) no_region in
      record {
        few = boxed.count.high;
        zeros = rw (drop_at (regions_at n s (at + 2)) rest n (regions-length n s (at + 2))) (regions-zero-all (16 - n));
        regions = (regions-read s n (at + 2) p place rest boxed.entries).0;
      }

  -- and is written back as the same bytes
  pub boxes-read : boxes_text (boxes_at s at) ≡ part at (2 + 14 * count_at s at) s
  unfolding boxes_at boxes_text
  boxes-read =
      let n = count_at s at in
      let rest = replicate (16 - n) no_region in
      rw (
        take_at (regions_at n s (at + 2)) rest n (regions-length n s (at + 2)),
        digits-read 2 s at boxed.count.room boxed.count.digits,
        (regions-read s n (at + 2) p 0 [] boxed.entries).1,
        part-add s at 2 (14 * n),
      )

-- ---- Lists with nothing in them

names_of : ℕ → List ℕ → Airfields
names_of n names = record { count = n; names = names }

-- a list of airfields that is all zero is the one empty list
pub airfields-nothing : (l : Airfields) → length l.names ≡ 80 → (eqb l.count 0 && all_zero l.names) ≡ true → l ≡ no_airfields
unfolding names_of
airfields-nothing l full e =
    let n : l.count ≡ 0 = eqb-true l.count 0 (both_left (eqb l.count 0) (all_zero l.names) e) in
    let z : l.names ≡ replicate 80 0 = zeros_are l.names (both_right (eqb l.count 0) (all_zero l.names) e) ∙ rw full in
    ap (λ (x : ℕ). names_of x l.names) n ∙ ap (names_of 0) z

boxes-of : ℕ → List Region → Boxes
boxes-of n regions = record { count = n; regions = regions }

-- and so is a list of boxes
pub boxes-nothing : (l : Boxes) → length l.regions ≡ 16 → (eqb l.count 0 && regions_zero l.regions) ≡ true → l ≡ no_boxes
unfolding boxes-of
boxes-nothing l full e =
    let n : l.count ≡ 0 = eqb-true l.count 0 (both_left (eqb l.count 0) (regions_zero l.regions) e) in
    let z : l.regions ≡ replicate 16 no_region = regions-zero_are l.regions (both_right (eqb l.count 0) (regions_zero l.regions) e) ∙ rw full in
    ap (λ (x : ℕ). boxes-of x l.regions) n ∙ ap (boxes-of 0) z
