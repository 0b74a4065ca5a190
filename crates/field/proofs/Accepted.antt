-- What a check that goes on says of the text it passed.
use mathlib.Core.Path.{◌≡◌, refl, sym, ap, ◌∙◌}
use mathlib.Core.Bool.{Bool, true, false, cond, ◌&&◌}
use mathlib.Core.List.{List}
use Prim.Native.Nat.{ℕ, ◌+◌, ◌≤◌}
use native.Mathlib.Omega.{arith}
use lib.Dec.{leb, eqb}
use lib.ListN.{length, get_or}
use borrow.Author.Tests.{leb-true, eqb-true}
use Rattle.text.specs.Names.{all_allowed}
use Rattle.text.specs.Parts.{part}
use Rattle.text.proofs.Cases.{both_left, both_right}
use Rattle.field.specs.declared.Circle.{Circle}
use Rattle.field.specs.declared.Edge.{Edge}
use Rattle.field.specs.Decimal.{all_digits, value}
use Rattle.field.specs.Fields.{check_digits, check_delimiter, check_airfield}
use Rattle.text.specs.Checks.{after, refuse}
use Rattle.field.specs.Boxes.{latitude, longitude, is_letter, below_zero, edge_at, north_first, check_edge, check_pair, check_box}
use Rattle.std.specs.Prelude.{Result, Ok, Err}
use Rattle.text.specs.declared.Refusal.{Refusal}
use Rattle.text.specs.declared.Code.TheVariants.{Disagree, NotAllowed, OtherSpelling, OutOfRange, WrongEnd, WrongFixed}
use Rattle.text.specs.declared.Code.{Code}
use Rattle.text.proofs.Checks.{err_ok}

-- ---- Steps

-- a stop is no going on
pub stop_next {ℓ} : {P : Type ℓ} (code : Code) (place p : ℕ) → refuse code place ≡ Ok p → P
stop_next code place p e = err_ok (record { code = code; place = place }) p e

pub next-same : {p q : ℕ} → ◌≡◌ {A = Result ℕ Refusal} (Ok p) (Ok q) → p ≡ q
next-same e = cc

-- two checks, one after the other, went on: the first to a place, the second from there
pub record Both (x : Result ℕ Refusal) (more : ℕ → Result ℕ Refusal) (p : ℕ) : Type 0 where
  pub mid : ℕ
  pub first : x ≡ Ok mid
  pub second : more mid ≡ Ok p

pub both : (x : Result ℕ Refusal) (more : ℕ → Result ℕ Refusal) (p : ℕ) → after x more ≡ Ok p → Both x more p
both (Ok q) more p e = record { mid = q; first = refl; second = e }
both (Err r) more p e = err_ok r p e

one : (room ok : Bool) (code : Code) (at end p : ℕ) → cond room (cond ok (Ok end) (refuse code at)) (refuse WrongEnd at) ≡ Ok p
    → (room ≡ true) × (ok ≡ true) × (end ≡ p)
one true true code at end p e = (refl, refl, next-same e)
one true false code at end p e = stop_next code at p e
one false ok code at end p e = stop_next WrongEnd at p e

-- ---- Numbers

pub record Number (w least most : ℕ) (s : List ℕ) (at p : ℕ) : Type 0 where
  pub next : at + w ≡ p
  pub room : at + w ≤ length s
  pub digits : all_digits (part at w s) ≡ true
  pub low : least ≤ value (part at w s)
  pub high : value (part at w s) ≤ most

two : (room digits ok : Bool) (code : Code) (at end p : ℕ)
    → cond room (cond digits (cond ok (Ok end) (refuse code at)) (refuse NotAllowed at)) (refuse WrongEnd at) ≡ Ok p
    → (room ≡ true) × (digits ≡ true) × (ok ≡ true) × (end ≡ p)
two true true true code at end p e = (refl, refl, refl, next-same e)
two true true false code at end p e = stop_next code at p e
two true false ok code at end p e = stop_next NotAllowed at p e
two false digits ok code at end p e = stop_next WrongEnd at p e

-- an accepted number
pub number : (code : Code) (w least most : ℕ) (s : List ℕ) (at p : ℕ) → check_digits code w least most s at ≡ Ok p → Number w least most s at p
unfolding check_digits
number code w least most s at p e =
    let v = value (part at w s) in
    let f = two (leb (at + w) (length s)) (all_digits (part at w s)) (leb least v && leb v most) code at (at + w) p e in
    record {
      next = f.3;
      room = leb-true (at + w) (length s) f.0;
      digits = f.1;
      low = leb-true least v (both_left (leb least v) (leb v most) f.2);
      high = leb-true v most (both_right (leb least v) (leb v most) f.2);
    }

-- ---- Delimiters, airfields

-- an accepted delimiter
pub delimiter : (s : List ℕ) (at p : ℕ) → check_delimiter s at ≡ Ok p → (at + 1 ≤ length s) × (get_or s at 0 ≡ 47) × (at + 1 ≡ p)
unfolding check_delimiter
delimiter s at p e =
    let f = one (leb (at + 1) (length s)) (eqb (get_or s at 0) 47) WrongFixed at (at + 1) p e in
    (leb-true (at + 1) (length s) f.0, eqb-true (get_or s at 0) 47 f.1, f.2)

-- an accepted airfield
pub airfield : (s : List ℕ) (at p : ℕ) → check_airfield s at ≡ Ok p
    → (at + 4 ≤ length s) × (all_allowed (part at 4 s) ≡ true) × (at + 4 ≡ p)
unfolding check_airfield
airfield s at p e =
    let f = one (leb (at + 4) (length s)) (all_allowed (part at 4 s)) NotAllowed at (at + 4) p e in
    (leb-true (at + 4) (length s) f.0, f.1, f.2)

-- ---- Edges

pub record Side (c : Circle) (s : List ℕ) (at p : ℕ) : Type 0 where
  pub next : at + (c.width + 1) ≡ p
  pub room : at + (c.width + 1) ≤ length s
  pub digits : all_digits (part at c.width s) ≡ true
  pub letter : is_letter c (get_or s (at + c.width) 0) ≡ true
  pub spelt : below_zero c (value (part at c.width s)) (get_or s (at + c.width) 0) ≡ false
  pub most : value (part at c.width s) ≤ c.most

four : (room fine zeroed most : Bool) (at end p : ℕ)
    → cond room (cond fine (cond zeroed (refuse OtherSpelling at) (cond most (Ok end) (refuse OutOfRange at))) (refuse NotAllowed at)) (refuse WrongEnd at) ≡ Ok p
    → (room ≡ true) × (fine ≡ true) × (zeroed ≡ false) × (most ≡ true) × (end ≡ p)
four true true false true at end p e = (refl, refl, refl, refl, next-same e)
four true true false false at end p e = stop_next OutOfRange at p e
four true true true most at end p e = stop_next OtherSpelling at p e
four true false zeroed most at end p e = stop_next NotAllowed at p e
four false fine zeroed most at end p e = stop_next WrongEnd at p e

-- an accepted edge
pub edge : (c : Circle) (s : List ℕ) (at p : ℕ) → check_edge c s at ≡ Ok p → Side c s at p
unfolding check_edge
edge c s at p e =
    let v = value (part at c.width s) in
    let l = get_or s (at + c.width) 0 in
    let d = all_digits (part at c.width s) in
    let end = at + (c.width + 1) in
    let f = four (leb end (length s)) (d && is_letter c l) (below_zero c v l) (leb v c.most) at end p e in
    record {
      next = f.4;
      room = leb-true end (length s) f.0;
      digits = both_left d (is_letter c l) f.1;
      letter = both_right d (is_letter c l) f.1;
      spelt = f.2;
      most = leb-true v c.most f.3;
    }

-- ---- Pairs and boxes

pub record Pair (c : Circle) (o : Edge → Edge → Bool) (s : List ℕ) (at mid p : ℕ) : Type 0 where
  pub first : check_edge c s at ≡ Ok mid
  pub second : check_edge c s mid ≡ Ok p
  pub ordered : o (edge_at c s at) (edge_at c s mid) ≡ true

ordered-is : (t : Bool) (end second p : ℕ) → cond t (Ok end) (refuse Disagree second) ≡ Ok p → (t ≡ true) × (end ≡ p)
ordered-is true end second p e = (refl, next-same e)
ordered-is false end second p e = stop_next Disagree second p e

module _ (c : Circle) (o : Edge → Edge → Bool) (s : List ℕ) (at : ℕ) where
  -- an accepted pair
  pub pair : (p : ℕ) → check_pair c o s at ≡ Ok p → Pair c o s at (at + (c.width + 1)) p
  unfolding check_pair
  pair p e =
      let x = both (check_edge c s at) (λ second. after (check_edge c s second) (last second)) p e in
      let y = both (check_edge c s x.mid) (last x.mid) p x.second in
      let z = ordered-is (o (edge_at c s at) (edge_at c s x.mid)) y.mid x.mid p y.second in
      let m : at + (c.width + 1) ≡ x.mid = (edge c s at x.mid x.first).next in
      rw m (record { first = x.first; second = y.first ∙ ap Ok z.1; ordered = z.0 })
    where
      last : ℕ → ℕ → Result ℕ Refusal
      last second end = cond (o (edge_at c s at) (edge_at c s second)) (Ok end) (refuse Disagree second)

  -- and what makes one
  pub pair-next : (mid p : ℕ) → Pair c o s at mid p → check_pair c o s at ≡ Ok p
  unfolding check_pair
  pair-next mid p x = rw (x.first, x.second, x.ordered)

pub record Box (s : List ℕ) (at : ℕ) : Type 0 where
  pub north : check_edge latitude s at ≡ Ok (at + 3)
  pub south : check_edge latitude s (at + 3) ≡ Ok (at + 6)
  pub falling : north_first (edge_at latitude s at) (edge_at latitude s (at + 3)) ≡ true
  pub west : check_edge longitude s (at + 6) ≡ Ok (at + 10)
  pub east : check_edge longitude s (at + 10) ≡ Ok (at + 14)

module _ (s : List ℕ) (at : ℕ) where
  -- an accepted box
  pub box : (p : ℕ) → check_box s at ≡ Ok p → (at + 14 ≡ p) × Box s at
  unfolding check_box
  box p e =
      let x = both (check_pair latitude north_first s at) (λ west. after (check_edge longitude s west) (check_edge longitude s)) p e in
      let lat = pair latitude north_first s at x.mid x.first in
      let a : at + 3 + 3 ≡ x.mid = (edge latitude s (at + 3) x.mid lat.second).next in
      let m : x.mid ≡ at + 6 = omega arith in
      let lon = both (check_edge longitude s (at + 6)) (check_edge longitude s) p (rw m at x.second) in
      let w : at + 6 + 4 ≡ lon.mid = (edge longitude s (at + 6) lon.mid lon.first).next in
      let i : lon.mid ≡ at + 10 = omega arith in
      let second : check_edge longitude s (at + 10) ≡ Ok p = rw i at lon.second in
      let end : at + 10 + 4 ≡ p = (edge longitude s (at + 10) p second).next in
      let q : p ≡ at + 14 = omega arith in (
        sym q,
        record {
          north = lat.first;
          south = lat.second ∙ ap Ok m;
          falling = lat.ordered;
          west = lon.first ∙ ap Ok i;
          east = second ∙ ap Ok q;
        },
      )

  -- and what makes one
  pub box-next : Box s at → check_box s at ≡ Ok (at + 14)
  unfolding check_box
  box-next b =
      rw (pair-next latitude north_first s at (at + 3) (at + 6) (record { first = b.north; second = b.south; ordered = b.falling }))
      (rw b.west b.east)

-- the text has an accepted box whole
pub box-room : (s : List ℕ) (at p : ℕ) → check_box s at ≡ Ok p → at + 14 ≤ length s
box-room s at p e = omega (arith, (edge longitude s (at + 10) (at + 14) (box s at p e).1.east).room)
