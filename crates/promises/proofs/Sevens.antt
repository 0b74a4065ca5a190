-- Where a command's text is refused with 7: at the south edge of a box whose south lies above its north, and nowhere else.
use mathlib.Core.Path.{◌≡◌, refl, sym, ap, ◌∙◌}
use mathlib.Core.Logic.{◌⊎◌, inl, inr}
use mathlib.Core.Bool.{Bool, true, false, cond, not, ◌&&◌}
use mathlib.Core.List.{List, [], ◌∷◌}
use Prim.Native.Nat.{ℕ, zero, suc, ◌+◌, ◌*◌, ◌<◌}
use native.Mathlib.Omega.{arith}
use lib.Dec.{leb, eqb}
use lib.ListN.{length}
use borrow.Author.Tests.{not-true}
use Rattle.text.specs.Parts.{part}
use Rattle.text.proofs.Cases.{by_test, both_left, both_right}
use Rattle.field.specs.Decimal.{all_digits, value}
use Rattle.field.specs.Fields.{check_digits, check_delimiter, check_airfield, repeat}
use Rattle.text.specs.Checks.{after, refuse, must}
use Rattle.text.proofs.Checks.{err_ok}
use Rattle.field.specs.Boxes.{latitude, longitude, north_first, edge_at, check_edge, check_pair, check_box}
use Rattle.field.specs.declared.Circle.{Circle}
use Rattle.field.proofs.Accepted.{stop_next, number, edge, box}
use Rattle.lists.specs.Lists.{most_boxes, count_at, check_list, check_boxes}
use Rattle.lists.proofs.Accepted.{boxes-next}
use Rattle.section.specs.Layout.{Item, Digits, AirfieldList, BoxList, layout_of, table_of, check_item, check_items, numbers}
use Rattle.section.proofs.Rows.{fits_code, codes_fit, table-coded, four-or-five}
use Rattle.command.specs.Text.{is_named, check_each, check_awr04, check_head, check_from, longest, ended, check_command}
use Rattle.command.proofs.Each.{Each}
use Rattle.command.proofs.Head.{head-next}
use Rattle.std.specs.Prelude.{Result, Ok, Err}
use Rattle.text.specs.declared.Refusal.{Refusal}
use Rattle.text.specs.declared.Code.{Code}
use Rattle.text.specs.declared.Code.TheVariants.{Disagree, NotAllowed, OutOfRange, WrongEnd, WrongLength}

-- ---- Checks that never say 7

abbrev is_disagree : Code → Bool
is_disagree Disagree = true
is_disagree _ = false

abbrev is_seven : Result ℕ Refusal → Bool
is_seven (Ok at) = false
is_seven (Err r) = is_disagree r.code

record Never (r : Result ℕ Refusal) : Type 0 where
  never : is_seven r ≡ false

either : (t : Bool) (x y : Result ℕ Refusal) → Never x → Never y → Never (cond t x y)
either true x y a b = a
either false x y a b = b

then : (x : Result ℕ Refusal) (more : ℕ → Result ℕ Refusal) → Never x → ((at : ℕ) → Never (more at)) → Never (after x more)
then (Ok at) more a b = b at
then (Err r) more a b = a

ruleset parts = (either, then)

yes-no {ℓ} : {P : Type ℓ} → true ≡ false → P
yes-no e = let z : ◌≡◌ {A = ℕ} 0 1 = cc in absurd (omega arith)

not-seven {ℓ} : {P : Type ℓ} (r : Result ℕ Refusal) (p : ℕ) → Never r → r ≡ refuse Disagree p → P
not-seven r p n e = yes-no (rw e at n).never

digits-never : (code : Code) (w least most : ℕ) (s : List ℕ) (at : ℕ) → fits_code code ≡ true → Never (check_digits code w least most s at)
unfolding check_digits
digits-never code w least most s at e =
    let v = value (part at w s) in
    either (leb (at + w) (length s)) _ (refuse WrongEnd at)
    (either (all_digits (part at w s)) _ (refuse NotAllowed at)
    (either (leb least v && leb v most) (Ok (at + w)) (refuse code at) (record { never = refl }) (other code e)) (record { never = refl }))
    (record { never = refl })
  where
    other : (code : Code) → fits_code code ≡ true → Never (refuse code at)
    other code e = record { never = not-true (is_disagree code) (four-or-five (λ c. not (is_disagree c)) code refl refl e) }

delimiter-never : (s : List ℕ) (at : ℕ) → Never (check_delimiter s at)
unfolding check_delimiter
delimiter-never s at = search parts depth 8

airfield-never : (s : List ℕ) (at : ℕ) → Never (check_airfield s at)
unfolding check_airfield
airfield-never s at = search parts depth 8

edge-never : (c : Circle) (s : List ℕ) (at : ℕ) → Never (check_edge c s at)
unfolding check_edge
edge-never c s at = search parts depth 8

repeat-never : (check : ℕ → Result ℕ Refusal) (n at : ℕ) → ((i : ℕ) → Never (check i)) → Never (repeat check n at)
unfolding repeat
repeat-never check zero at h = record { never = refl }
repeat-never check (suc n) at h = then (check at) (repeat check n) (h at) (λ i. repeat-never check n i h)

-- a section without boxes
abbrev plain : List Item → Bool
plain [] = true
plain (Digits r ∷ xs) = plain xs
plain (AirfieldList ∷ xs) = plain xs
plain (BoxList ∷ xs) = false

items-never : (xs : List Item) (s : List ℕ) (at : ℕ) → plain xs ≡ true → codes_fit xs ≡ true → Never (check_items xs s at)
unfolding check_items codes_fit check_list
items-never [] s at n e = delimiter-never s at
items-never (Digits r ∷ xs) s at n e =
    let fits = fits_code r.code in
    then (check_item (Digits r) s at) (check_items xs s) (digits-never r.code r.width r.least r.most s at (both_left fits (codes_fit xs) e))
    (λ p. items-never xs s p n (both_right fits (codes_fit xs) e))
items-never (AirfieldList ∷ xs) s at n e =
    then (check_item AirfieldList s at) (check_items xs s)
    (then (check_digits OutOfRange 2 0 20 s at) (repeat (check_airfield s) (count_at s at)) (digits-never OutOfRange 2 0 20 s at refl)
    (λ i. repeat-never (check_airfield s) (count_at s at) i (airfield-never s)))
    (λ p. items-never xs s p n e)
items-never (BoxList ∷ xs) s at n e = yes-no (sym n)

sections-never : (ks s : List ℕ) (at : ℕ) → Each (λ k. plain (layout_of k) ≡ true) ks → Never (check_from ks s at)
unfolding check_from
sections-never [] s at h = record { never = refl }
sections-never (k ∷ ks) s at h =
    either (is_named s k) (after (check_items (layout_of k) s at) (check_from ks s)) (check_from ks s at)
    (then (check_items (layout_of k) s at) (check_from ks s) (items-never (layout_of k) s at h.0 (table-coded k)) (λ p. sections-never ks s p h.1))
    (sections-never ks s at h.1)

each-never : (tests : List (ℕ → Bool)) (s : List ℕ) (at : ℕ) → Never (check_each tests s at)
unfolding check_each
each-never [] s at = record { never = refl }
each-never (test ∷ tests) s at = let rest = each-never tests s (at + 1) in search parts

head_never : (s : List ℕ) → Never (check_head s)
unfolding check_head check_awr04
head_never s = search (parts, each-never, delimiter-never) depth 8

-- ---- Who said it

-- the first of two checks, or the second behind it
said_by : (x : Result ℕ Refusal) (more : ℕ → Result ℕ Refusal) (p : ℕ) → after x more ≡ refuse Disagree p
    → (x ≡ refuse Disagree p) ⊎ ((mid : ℕ) × ((x ≡ Ok mid) × (more mid ≡ refuse Disagree p)))
said_by (Ok mid) more p e = inr (mid, (refl, e))
said_by (Err r) more p e = inl e

-- the second, where the first never does
behind : (x : Result ℕ Refusal) (more : ℕ → Result ℕ Refusal) (p : ℕ) → Never x → after x more ≡ refuse Disagree p → (mid : ℕ) × ((x ≡ Ok mid) × (more mid ≡ refuse Disagree p))
behind x more p n e = go (said_by x more p e)
  where
    go : (x ≡ refuse Disagree p) ⊎ ((mid : ℕ) × ((x ≡ Ok mid) × (more mid ≡ refuse Disagree p))) → (mid : ℕ) × ((x ≡ Ok mid) × (more mid ≡ refuse Disagree p))
    go (inl f) = not-seven x p n f
    go (inr f) = f

-- a box at a place, refused at p: both latitudes are accepted, and the south lies above the north
pub record South (s : List ℕ) (at p : ℕ) : Type 0 where
  pub north : check_edge latitude s at ≡ Ok (at + 3)
  pub south : check_edge latitude s (at + 3) ≡ Ok (at + 6)
  pub above : north_first (edge_at latitude s at) (edge_at latitude s (at + 3)) ≡ false
  pub place : p ≡ at + 3

-- one refusal has one place
place_is : (code : Code) (p q : ℕ) → ◌≡◌ {A = Result ℕ Refusal} (refuse code p) (refuse Disagree q) → p ≡ q
place_is code p q e =
    let z : record { code = code; place = p } ≡ record { code = Disagree; place = q } = cc in ap (λ (r : Refusal). r.place) z

disordered : (t : Bool) (end second p : ℕ) → cond t (Ok end) (refuse Disagree second) ≡ refuse Disagree p → (t ≡ false) × (p ≡ second)
disordered true end second p e = stop_next Disagree p end (sym e)
disordered false end second p e = (refl, sym (place_is Disagree second p e))

pair-south : (s : List ℕ) (at p : ℕ) → check_pair latitude north_first s at ≡ refuse Disagree p → South s at p
unfolding check_pair
pair-south s at p e =
    let x = behind (check_edge latitude s at) (λ second. after (check_edge latitude s second) (last second)) p (edge-never latitude s at) e in
    let m : at + 3 ≡ x.0 = (edge latitude s at x.0 x.1.0).next in
    let y = behind (check_edge latitude s x.0) (last x.0) p (edge-never latitude s x.0) x.1.1 in
    let q : x.0 + 3 ≡ y.0 = (edge latitude s x.0 y.0 y.1.0).next in
    let z = disordered (north_first (edge_at latitude s at) (edge_at latitude s x.0)) y.0 x.0 p y.1.1 in
    let k : y.0 ≡ at + 6 = omega arith in
    let f : check_edge latitude s x.0 ≡ Ok (at + 6) = y.1.0 ∙ ap Ok k in
    record {
      north = x.1.0 ∙ ap Ok (sym m);
      south = rw (sym m) at f;
      above = rw (sym m) at z.0;
      place = z.1 ∙ sym m;
    }
  where
    last : ℕ → ℕ → Result ℕ Refusal
    last second end = cond (north_first (edge_at latitude s at) (edge_at latitude s second)) (Ok end) (refuse Disagree second)

box-south : (s : List ℕ) (at p : ℕ) → check_box s at ≡ refuse Disagree p → South s at p
unfolding check_box
box-south s at p e = go (said_by (check_pair latitude north_first s at) longitudes p e)
  where
    longitudes : ℕ → Result ℕ Refusal
    longitudes west = after (check_edge longitude s west) (check_edge longitude s)

    go : (check_pair latitude north_first s at ≡ refuse Disagree p) ⊎ ((mid : ℕ) × ((check_pair latitude north_first s at ≡ Ok mid) × (longitudes mid ≡ refuse Disagree p)))
        → South s at p
    go (inl f) = pair-south s at p f
    go (inr f) =
        not-seven (longitudes f.0) p
        (then (check_edge longitude s f.0) (check_edge longitude s) (edge-never longitude s f.0) (edge-never longitude s)) f.1.1

boxes-south : (s : List ℕ) (n at p : ℕ) → repeat (check_box s) n at ≡ refuse Disagree p → (i : ℕ) × ((i < n) × South s (at + 14 * i) p)
unfolding repeat
boxes-south s zero at p e = stop_next Disagree p at (sym e)
boxes-south s (suc n) at p e = go (λ mid f. boxes-south s n mid p f) (said_by (check_box s at) (repeat (check_box s) n) p e)
  where
    go : ((mid : ℕ) → repeat (check_box s) n mid ≡ refuse Disagree p → (i : ℕ) × ((i < n) × South s (mid + 14 * i) p))
        → (check_box s at ≡ refuse Disagree p) ⊎ ((mid : ℕ) × ((check_box s at ≡ Ok mid) × (repeat (check_box s) n mid ≡ refuse Disagree p)))
        → (i : ℕ) × ((i < suc n) × South s (at + 14 * i) p)
    go later (inl f) = let k : at + 14 * 0 ≡ at = omega arith in (0, (omega arith, rw k (box-south s at p f)))
    go later (inr f) =
        let m : at + 14 ≡ f.0 = (box s at f.0 f.1.0).0 in
        let r = later f.0 f.1.1 in
        let l = r.1.0 in
        let k : f.0 + 14 * r.0 ≡ at + 14 * suc r.0 = omega arith in
        (suc r.0, (omega arith, rw k at r.1.1))

list-south : (s : List ℕ) (at p : ℕ) → check_boxes s at ≡ refuse Disagree p → (i : ℕ) × ((i < count_at s at) × South s (at + 2 + 14 * i) p)
unfolding check_list
list-south s at p e =
    let x = behind (check_digits OutOfRange 2 0 most_boxes s at) (repeat (check_box s) (count_at s at)) p (digits-never OutOfRange 2 0 most_boxes s at refl) e in
    let m : at + 2 ≡ x.0 = (number OutOfRange 2 0 most_boxes s at x.0 x.1.0).next in
    boxes-south s (count_at s at) (at + 2) p (rw (sym m) at x.1.1)

-- ---- The whole

-- the box whose latitudes disagree: of the list that section 2 begins with, or of the one behind it
pub record Disagrees (s : List ℕ) (p : ℕ) : Type 0 where
  pub named : is_named s 2 ≡ true
  pub list : ℕ
  pub which : (list ≡ 22) ⊎ (list ≡ 22 + 2 + 14 * count_at s 22)
  pub box : ℕ
  pub counted : box < count_at s list
  pub south : South s (list + 2 + 14 * box) p

abbrev others : List ℕ
others = 3 ∷ 4 ∷ 5 ∷ 6 ∷ 7 ∷ 8 ∷ 9 ∷ []

others-plain : Each (λ k. plain (layout_of k) ≡ true) others
unfolding layout_of table_of
others-plain = (refl, (refl, (refl, (refl, (refl, (refl, (refl, tt)))))))

section-two : (s : List ℕ) (p : ℕ) → is_named s 2 ≡ true → check_items (layout_of 2) s 22 ≡ refuse Disagree p → Disagrees s p
unfolding layout_of table_of check_items
section-two s p t e = first (said_by (check_boxes s 22) rest p e)
  where
    rest : ℕ → Result ℕ Refusal
    rest at = after (check_boxes s at) (check_delimiter s)

    second : (at : ℕ) → 22 + 2 + 14 * count_at s 22 ≡ at
        → (check_boxes s at ≡ refuse Disagree p) ⊎ ((mid : ℕ) × ((check_boxes s at ≡ Ok mid) × (check_delimiter s mid ≡ refuse Disagree p)))
        → Disagrees s p
    second at m (inl f) =
        let r = list-south s at p f in record { named = t; list = at; which = inr (sym m); box = r.0; counted = r.1.0; south = r.1.1 }
    second at m (inr f) = not-seven (check_delimiter s f.0) p (delimiter-never s f.0) f.1.1

    first : (check_boxes s 22 ≡ refuse Disagree p) ⊎ ((mid : ℕ) × ((check_boxes s 22 ≡ Ok mid) × (rest mid ≡ refuse Disagree p))) → Disagrees s p
    first (inl f) =
        let r = list-south s 22 p f in record { named = t; list = 22; which = inl refl; box = r.0; counted = r.1.0; south = r.1.1 }
    first (inr f) =
        second f.0 (boxes-next s 22 f.0 f.1.0) (said_by (check_boxes s f.0) (check_delimiter s) p f.1.1)

sections-seven : (s : List ℕ) (p : ℕ) → check_from numbers s 22 ≡ refuse Disagree p → Disagrees s p
unfolding check_from
sections-seven s p e =
    by_test (is_named s 2)
    (λ (t : is_named s 2 ≡ true). go t (said_by (check_items (layout_of 2) s 22) (check_from others s) p (rw t at e)))
    (λ (t : is_named s 2 ≡ false). not-seven (check_from others s 22) p (sections-never others s 22 others-plain) (rw t at e))
  where
    go : is_named s 2 ≡ true
        → (check_items (layout_of 2) s 22 ≡ refuse Disagree p) ⊎ ((mid : ℕ) × ((check_items (layout_of 2) s 22 ≡ Ok mid) × (check_from others s mid ≡ refuse Disagree p)))
        → Disagrees s p
    go t (inl f) = section-two s p t f
    go t (inr f) = not-seven (check_from others s f.0) p (sections-never others s f.0 others-plain) f.1.1

walk-seven : (s : List ℕ) (p : ℕ) → after (check_head s) (check_from numbers s) ≡ refuse Disagree p → Disagrees s p
walk-seven s p e =
    let x = behind (check_head s) (check_from numbers s) p (head_never s) e in
    let m : x.0 ≡ 22 = (head-next s x.0 x.1.0).1 in
    sections-seven s p (rw m at x.1.1)

pub check-seven : (s : List ℕ) (p : ℕ) → check_command s ≡ refuse Disagree p → Disagrees s p
unfolding check_command
check-seven s p e = go (leb (length s) longest) e
  where
    wrong : (code : Code) (place : ℕ) → is_disagree code ≡ false → ◌≡◌ {A = Result (Unit {0}) Refusal} (refuse code place) (refuse Disagree p)
        → Disagrees s p
    wrong code place n q =
        let z : record { code = code; place = place } ≡ record { code = Disagree; place = p } = cc in
        yes-no (ap (λ (r : Refusal). is_disagree r.code) (sym z) ∙ n)

    end : (r : Result ℕ Refusal) → after (check_head s) (check_from numbers s) ≡ r → ended s r ≡ refuse Disagree p → Disagrees s p
    end (Err r) f q = let z : r ≡ record { code = Disagree; place = p } = cc in walk-seven s p (rw z at f)
    end (Ok at) f q = stops (eqb at (length s)) q
      where
        stops : (t : Bool) → must t WrongEnd at ≡ refuse Disagree p → Disagrees s p
        stops true g = err_ok (record { code = Disagree; place = p }) tt (sym g)
        stops false g = wrong WrongEnd at refl g

    go : (t : Bool) → cond t (ended s (after (check_head s) (check_from numbers s))) (refuse WrongLength 0) ≡ refuse Disagree p → Disagrees s p
    go true q = end (after (check_head s) (check_from numbers s)) refl q
    go false q = wrong WrongLength 0 refl q
