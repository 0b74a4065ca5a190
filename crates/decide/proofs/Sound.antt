-- What a valid configuration says: flags and digits are 0 or 1, hours are hours of the day, lists are no longer than their
-- arrays, and the boxes in them are boxes.
use mathlib.Core.Path.{◌≡◌}
use mathlib.Core.Bool.{true, ◌&&◌}
use mathlib.Core.List.{List, [], ◌∷◌}
use Prim.Native.Nat.{ℕ, zero, suc, ◌+◌, ◌≤◌, ◌<◌}
use native.Mathlib.Omega.{arith}
use lib.Dec.{leb}
use lib.ListN.{length, get_or}
use borrow.Author.Tests.{leb-true}
use Rattle.text.specs.Checks.{is_fine}
use Rattle.text.proofs.Cases.{both_left, both_right}
use Rattle.text.proofs.Checks.{must-held, both-fine, fine-is}
use Rattle.field.specs.Boxes.{region_allowed, no_region}
use Rattle.field.specs.declared.Region.{Region}
use Rattle.field.proofs.RoundTrip.{AllowedBox, region_held}
use Rattle.lists.specs.Lists.{regions_allowed, boxes_allowed}
use Rattle.lists.specs.declared.Boxes.{Boxes}
use Rattle.lists.proofs.RoundTrip.{airfields-held, boxes-held}
use Rattle.section.specs.Layout.{Item, AirfieldList, BoxList, Digits, number, layout_of, table_of, numbers}
use Rattle.section.specs.Contents.{Content, Amount, Names, Areas, content_text, content_allowed, contents_allowed}
use Rattle.settings.specs.Settings.{contents_of, fixed_hold, regions_hold, airports_hold, digit_hold, hours_hold}
use Rattle.settings.specs.declared.Regions.{Regions}
use Rattle.settings.specs.declared.Airports.{Airports}
use Rattle.settings.specs.declared.Hours.{Hours}
use Rattle.settings.specs.declared.Settings.{Settings}
use Rattle.settings.specs.Valid.{flags_valid, sections_valid, valid}
use Rattle.std.specs.Prelude.{Ok}
use Rattle.text.specs.declared.Code.TheVariants.{OutOfRange}

-- ---- Flags

flag_small : (fs : List ℕ) (i : ℕ) → flags_valid fs ≡ true → get_or fs i 0 ≤ 1
unfolding flags_valid
flag_small [] i e = omega arith
flag_small (v ∷ vs) zero e = leb-true v 1 (both_left (leb v 1) (flags_valid vs) e)
flag_small (v ∷ vs) (suc i) e = flag_small vs i (both_right (leb v 1) (flags_valid vs) e)

-- ---- Sections

-- a section that is allowed: its first item, and the others
parts : (i : Item) (is : List Item) (at : ℕ) (c : Content) (cs : List Content) → contents_allowed (i ∷ is) at (c ∷ cs) ≡ (Ok tt)
    → (content_allowed i at c ≡ (Ok tt)) × (contents_allowed is (at + length (content_text i c)) cs ≡ (Ok tt))
unfolding contents_allowed
parts i is at c cs e = both-fine (content_allowed i at c) (contents_allowed is (at + length (content_text i c)) cs) tt e

-- a number of w digits is no more than it may be
amount_held : (w most at v : ℕ) → content_allowed (Digits (number w 0 most)) at (Amount v) ≡ (Ok tt) → v ≤ most
amount_held w most at v e = leb-true v most (both_right (leb 0 v) (leb v most) (must-held (leb 0 v && leb v most) OutOfRange at e))

-- every box of a list, of the first as many as its count says
pub record SoundBoxes (l : Boxes) : Type 0 where
  pub few : l.count ≤ 16
  pub boxes : (i : ℕ) → i < l.count → i < length l.regions → AllowedBox (get_or l.regions i no_region)

each-box : (n at : ℕ) (bs : List Region) → regions_allowed n at bs ≡ (Ok tt)
    → (i : ℕ) → i < n → i < length bs → AllowedBox (get_or bs i no_region)
unfolding regions_allowed
each-box zero at bs e i l m = absurd (omega arith)
each-box (suc n) at [] e i l m = absurd (omega arith)
each-box (suc n) at (b ∷ bs) e zero l m =
    region_held at b (both-fine (region_allowed at b) (regions_allowed n (at + 14) bs) tt e).0
each-box (suc n) at (b ∷ bs) e (suc i) l m =
    each-box n (at + 14) bs (both-fine (region_allowed at b) (regions_allowed n (at + 14) bs) tt e).1 i (omega arith) (omega arith)

sound-boxes : (at : ℕ) (l : Boxes) → boxes_allowed at l ≡ (Ok tt) → SoundBoxes l
sound-boxes at l e =
    let a = boxes-held at l e in
    record { few = a.few; boxes = each-box l.count (at + 2) l.regions a.regions }

-- section 2
pub record SoundRegions (x : Regions) : Type 0 where
  pub reporting : SoundBoxes x.reporting
  pub inhibiting : SoundBoxes x.inhibiting

sound-regions : (x : Regions) → contents_allowed (BoxList ∷ BoxList ∷ []) 0 (regions_hold x) ≡ (Ok tt) → SoundRegions x
sound-regions x e =
    let a = parts BoxList (BoxList ∷ []) 0 (Areas x.reporting) (Areas x.inhibiting ∷ []) e in
    let b = parts BoxList [] _ (Areas x.inhibiting) [] a.1 in
    record { reporting = sound-boxes _ _ a.0; inhibiting = sound-boxes _ _ b.0 }

-- section 3
pub record SoundAirports (x : Airports) : Type 0 where
  pub up : (x.selected.ascent.count ≤ 20) × (x.inhibited.ascent.count ≤ 20)
  pub down : (x.selected.descent.count ≤ 20) × (x.inhibited.descent.count ≤ 20)
  pub routine : x.routine ≤ 1

sound-airports : (x : Airports)
    → contents_allowed (AirfieldList ∷ AirfieldList ∷ AirfieldList ∷ AirfieldList ∷ Digits (number 1 0 1) ∷ []) 0 (airports_hold x) ≡ (Ok tt)
    → SoundAirports x
sound-airports x e =
    let rest : List Content = Amount x.routine ∷ [] in
    let digit : List Item = Digits (number 1 0 1) ∷ [] in
    let a = parts AirfieldList (AirfieldList ∷ AirfieldList ∷ AirfieldList ∷ digit) 0 (Names x.selected.ascent)
    (Names x.selected.descent ∷ Names x.inhibited.ascent ∷ Names x.inhibited.descent ∷ rest) e in
    let b = parts AirfieldList (AirfieldList ∷ AirfieldList ∷ digit) _ (Names x.selected.descent)
    (Names x.inhibited.ascent ∷ Names x.inhibited.descent ∷ rest) a.1 in
    let c = parts AirfieldList (AirfieldList ∷ digit) _ (Names x.inhibited.ascent) (Names x.inhibited.descent ∷ rest) b.1 in
    let d = parts AirfieldList digit _ (Names x.inhibited.descent) rest c.1 in
    let f = parts (Digits (number 1 0 1)) [] _ (Amount x.routine) [] d.1 in
    record {
      up = ((airfields-held _ _ a.0).few, (airfields-held _ _ c.0).few);
      down = ((airfields-held _ _ b.0).few, (airfields-held _ _ d.0).few);
      routine = amount_held 1 1 _ x.routine f.0;
    }

-- section 6, and 8 alike
sound-digit : (v : ℕ) → contents_allowed (Digits (number 1 0 1) ∷ []) 0 (digit_hold v) ≡ (Ok tt) → v ≤ 1
sound-digit v e = amount_held 1 1 0 v (parts (Digits (number 1 0 1)) [] 0 (Amount v) [] e).0

-- section 9
sound-hours : (x : Hours) → contents_allowed (Digits (number 2 0 23) ∷ Digits (number 2 0 23) ∷ []) 0 (hours_hold x) ≡ (Ok tt)
    → (x.start ≤ 23) × (x.end ≤ 23)
sound-hours x e =
    let a = parts (Digits (number 2 0 23)) (Digits (number 2 0 23) ∷ []) 0 (Amount x.start) (Amount x.end ∷ []) e in
    let b = parts (Digits (number 2 0 23)) [] _ (Amount x.end) [] a.1 in
    (amount_held 2 23 0 x.start a.0, amount_held 2 23 _ x.end b.0)

-- ---- The whole

pub record Sound (x : Settings) : Type 0 where
  pub flags : (i : ℕ) → get_or x.flags i 0 ≤ 1
  pub regions : SoundRegions x.regions
  pub airports : SoundAirports x.airports
  pub routine6 : x.routine6 ≤ 1
  pub routine8 : x.routine8 ≤ 1
  pub hours : (x.hours.start ≤ 23) × (x.hours.end ≤ 23)

-- one section, and the others
turn : (k : ℕ) (ks : List ℕ) (x : Settings) → sections_valid (k ∷ ks) x ≡ true
    → (contents_allowed (layout_of k) 0 (contents_of x k) ≡ (Ok tt)) × (sections_valid ks x ≡ true)
unfolding sections_valid
turn k ks x e =
    let one = contents_allowed (layout_of k) 0 (contents_of x k) in
    (fine-is one (both_left (is_fine one) (sections_valid ks x) e), both_right (is_fine one) (sections_valid ks x) e)

pub sound : (x : Settings) → valid x ≡ true → Sound x
unfolding valid layout_of table_of contents_of fixed_hold
sound x v =
    let two = turn 2 _ x (both_right (flags_valid x.flags) (sections_valid numbers x) v) in
    let three = turn 3 _ x two.1 in
    let four = turn 4 _ x three.1 in
    let five = turn 5 _ x four.1 in
    let six = turn 6 _ x five.1 in
    let seven = turn 7 _ x six.1 in
    let eight = turn 8 _ x seven.1 in
    let nine = turn 9 _ x eight.1 in
    record {
      flags = λ i. flag_small x.flags i (both_left (flags_valid x.flags) (sections_valid numbers x) v);
      regions = sound-regions x.regions two.0;
      airports = sound-airports x.airports three.0;
      routine6 = sound-digit x.routine6 six.0;
      routine8 = sound-digit x.routine8 eight.0;
      hours = sound-hours x.hours nine.0;
    }
