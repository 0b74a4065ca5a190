-- An allowed section is allowed wherever it would stand, and its text is no longer than its longest.
use mathlib.Core.Path.{◌≡◌, refl}
use mathlib.Core.Bool.{◌&&◌}
use mathlib.Core.List.{List, [], ◌∷◌}
use Prim.Native.Nat.{ℕ, zero, suc, ◌+◌, ◌≤◌}
use native.Mathlib.Omega.{arith}
use lib.Dec.{leb}
use lib.ListN.{length, length-append}
use Rattle.text.proofs.Checks.{must-held, both-fine}
use Rattle.field.specs.declared.Region.{Region}
use Rattle.field.specs.Boxes.{region_allowed}
use Rattle.field.proofs.Decimal.{decimal-length}
use Rattle.field.proofs.RoundTrip.{region_held, region_fine}
use Rattle.lists.specs.Lists.{regions_allowed}
use Rattle.lists.proofs.RoundTrip.{airfields-held, airfields-fine, boxes-held, boxes-fine}
use Rattle.lists.proofs.Within.{airfields-short, boxes-short}
use Rattle.section.specs.Layout.{Item, Digits, AirfieldList, BoxList, item_most, items_most}
use Rattle.section.specs.Contents.{Content, amount_of, names_of, areas_of, content_text, contents_text, content_allowed, contents_allowed}
use Rattle.section.specs.Inner.{going_on, Reaches}
use Rattle.std.specs.Prelude.{Result, Ok, Err}
use Rattle.text.specs.declared.Refusal.{Refusal}

-- ---- Wherever it would stand

regions_anywhere : (n p q : ℕ) (bs : List Region) → regions_allowed n p bs ≡ (Ok tt) → regions_allowed n q bs ≡ (Ok tt)
unfolding regions_allowed
regions_anywhere zero p q bs e = refl
regions_anywhere (suc n) p q [] e = refl
regions_anywhere (suc n) p q (b ∷ bs) e =
    let x = both-fine (region_allowed p b) (regions_allowed n (p + 14) bs) tt e in
    rw (region_fine q b (region_held p b x.0)) (regions_anywhere n (p + 14) (q + 14) bs x.1)

-- what an item holds is allowed at every place or at none
pub content_anywhere : (i : Item) (p q : ℕ) (c : Content) → content_allowed i p c ≡ (Ok tt) → content_allowed i q c ≡ (Ok tt)
content_anywhere (Digits r) p q c e = rw (must-held (leb r.least (amount_of c) && leb (amount_of c) r.most) r.code p e)
content_anywhere AirfieldList p q c e = airfields-fine q (names_of c) (airfields-held p (names_of c) e)
content_anywhere BoxList p q c e =
    let l = areas_of c in
    let a = boxes-held p l e in
    boxes-fine q l (record { few = a.few; zeros = a.zeros; regions = regions_anywhere l.count (p + 2) (q + 2) l.regions a.regions })

-- and so is what a section holds
pub contents_anywhere : (is : List Item) (p q : ℕ) (cs : List Content) → contents_allowed is p cs ≡ (Ok tt) → contents_allowed is q cs ≡ (Ok tt)
unfolding contents_allowed
contents_anywhere [] p q cs e = refl
contents_anywhere (i ∷ is) p q [] e = refl
contents_anywhere (i ∷ is) p q (c ∷ cs) e =
    let x = both-fine (content_allowed i p c) (contents_allowed is (p + length (content_text i c)) cs) tt e in
    rw (content_anywhere i p q c x.0)
    (contents_anywhere is (p + length (content_text i c)) (q + length (content_text i c)) cs x.1)

-- ---- No longer than its longest

-- the arrays have their entries, 80 bytes and 16 boxes, as their types say
abbrev pub Full : Content → Type 0
Full c = (length (names_of c).names ≡ 80) × (length (areas_of c).regions ≡ 16)

-- every array of a section
abbrev pub AllFull : List Content → Type 0
AllFull [] = Unit
AllFull (c ∷ cs) = Full c × AllFull cs

-- an allowed item is written no longer than its longest
pub content_short : (i : Item) (at : ℕ) (c : Content) → Full c → content_allowed i at c ≡ (Ok tt) → length (content_text i c) ≤ item_most i
content_short (Digits r) at c full e = omega (arith, decimal-length r.width (amount_of c))
content_short AirfieldList at c full e = airfields-short (names_of c) full.0 (airfields-held at (names_of c) e).few
content_short BoxList at c full e = boxes-short (areas_of c) full.1 (boxes-held at (areas_of c) e).few

most-some : (is : List Item) → 1 ≤ items_most is
unfolding items_most
most-some [] = omega arith
most-some (i ∷ is) = omega (arith, most-some is)

-- an allowed section's text is no longer than the longest
pub contents_short : (is : List Item) (at : ℕ) (cs : List Content) → AllFull cs → contents_allowed is at cs ≡ (Ok tt)
    → length (contents_text is cs) ≤ items_most is
unfolding contents_allowed contents_text items_most
contents_short [] at cs full e = omega arith
contents_short (i ∷ is) at [] full e = omega (arith, most-some is)
contents_short (i ∷ is) at (c ∷ cs) full e =
    let x = both-fine (content_allowed i at c) (contents_allowed is (at + length (content_text i c)) cs) tt e in
    omega (
      arith,
      length-append (content_text i c) (contents_text is cs),
      content_short i at c full.0 x.0,
      contents_short is (at + length (content_text i c)) cs full.1 x.1,
    )

-- ---- How far a check reaches

-- where a check goes on to
pub goes_reaches : (x : Result (Unit {0}) Refusal) (q most : ℕ) → (x ≡ (Ok tt) → q ≤ most) → Reaches most (going_on x q)
goes_reaches (Ok u) q most h = h refl
goes_reaches (Err r) q most h = tt

-- the place that was reached
pub reached : (most : ℕ) (r : Result ℕ Refusal) (p : ℕ) → Reaches most r → r ≡ Ok p → p ≤ most
reached most r p h e = rw e at h

-- what reaches no further than a place reaches no further than one behind it
pub reaches_more : (m n : ℕ) (r : Result ℕ Refusal) → m ≤ n → Reaches m r → Reaches n r
reaches_more m n (Ok p) h l = omega arith
reaches_more m n (Err r) h l = tt
