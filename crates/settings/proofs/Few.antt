-- What an allowed section 2 or 3 says of its record: counts within bounds, and the room that its text needs.
use mathlib.Core.Path.{◌≡◌}
use mathlib.Core.List.{List, [], ◌∷◌, ◌++◌}
use Prim.Native.Nat.{ℕ, ◌+◌, ◌≤◌}
use native.Mathlib.Omega.{arith}
use lib.ListN.{length, length-append}
use Rattle.text.proofs.Checks.{both-fine}
use Rattle.field.specs.Decimal.{decimal}
use Rattle.field.proofs.Decimal.{decimal-length}
use Rattle.lists.specs.Lists.{airfields_text, boxes_text}
use Rattle.lists.proofs.RoundTrip.{airfields-held, boxes-held}
use Rattle.section.specs.Layout.{Item, AirfieldList, BoxList, layout_of, table_of}
use Rattle.section.specs.Contents.{Content, Areas, content_text, contents_text, content_allowed, contents_allowed}
use Rattle.settings.specs.Settings.{regions_hold, airports_hold}
use Rattle.settings.specs.declared.Regions.{Regions}
use Rattle.settings.specs.declared.Airports.{Airports}
use Rattle.std.specs.Prelude.{Ok}

-- one item more of an allowed section
one_more : (i : Item) (is : List Item) (at : ℕ) (c : Content) (cs : List Content) → contents_allowed (i ∷ is) at (c ∷ cs) ≡ (Ok tt)
    → (content_allowed i at c ≡ (Ok tt)) × (contents_allowed is (at + length (content_text i c)) cs ≡ (Ok tt))
unfolding contents_allowed
one_more i is at c cs e = both-fine (content_allowed i at c) (contents_allowed is (at + length (content_text i c)) cs) tt e

-- section 2 has at most 16 boxes in each list
pub regions-few : (x : Regions) (at : ℕ) → contents_allowed (layout_of 2) at (regions_hold x) ≡ (Ok tt)
    → (x.reporting.count ≤ 16) × (x.inhibiting.count ≤ 16)
unfolding layout_of table_of
regions-few x at e =
    let a = one_more BoxList (BoxList ∷ []) at (Areas x.reporting) (Areas x.inhibiting ∷ []) e in
    let b = one_more BoxList [] (at + length (content_text BoxList (Areas x.reporting))) (Areas x.inhibiting) [] a.1 in
    ((boxes-held _ _ a.0).few, (boxes-held _ _ b.0).few)

-- section 3 at most 20 airfields in each
pub airports-few : (x : Airports) (at : ℕ) → contents_allowed (layout_of 3) at (airports_hold x) ≡ (Ok tt)
    → ((x.selected.ascent.count ≤ 20) × (x.selected.descent.count ≤ 20))
    × ((x.inhibited.ascent.count ≤ 20) × (x.inhibited.descent.count ≤ 20))
unfolding layout_of table_of
airports-few x at e =
    let a = one_more AirfieldList _ at _ _ e in
    let b = one_more AirfieldList _ _ _ _ a.1 in
    let c = one_more AirfieldList _ _ _ _ b.1 in
    let d = one_more AirfieldList _ _ _ _ c.1 in
    (((airfields-held _ _ a.0).few, (airfields-held _ _ b.0).few), ((airfields-held _ _ c.0).few, (airfields-held _ _ d.0).few))

-- ---- The room that the writers ask

-- section 2, by its lists
pub regions-room : (x : Regions) (n : ℕ) → length (contents_text (layout_of 2) (regions_hold x)) ≤ n
    → length (boxes_text x.reporting) + length (boxes_text x.inhibiting) + 1 ≤ n
unfolding layout_of table_of contents_text
regions-room x n h = omega (arith, length-append (boxes_text x.reporting) (boxes_text x.inhibiting ++ 47 ∷ []), length-append (boxes_text x.inhibiting) (47 ∷ []))

-- section 3, by its lists
pub airports-room : (x : Airports) (n : ℕ) → length (contents_text (layout_of 3) (airports_hold x)) ≤ n
    → length (airfields_text x.selected.ascent) + length (airfields_text x.selected.descent)
    + (length (airfields_text x.inhibited.ascent) + length (airfields_text x.inhibited.descent))
    + 2
    ≤ n
unfolding layout_of table_of contents_text
airports-room x n h =
    let a = airfields_text x.selected.ascent in
    let b = airfields_text x.selected.descent in
    let c = airfields_text x.inhibited.ascent in
    let d = airfields_text x.inhibited.descent in
    let e = decimal 1 x.routine in
    omega (
      arith,
      length-append a (b ++ (c ++ (d ++ (e ++ 47 ∷ [])))),
      length-append b (c ++ (d ++ (e ++ 47 ∷ []))),
      length-append c (d ++ (e ++ 47 ∷ [])),
      length-append d (e ++ 47 ∷ []),
      length-append e (47 ∷ []),
      decimal-length 1 x.routine,
    )
