-- Sections both ways: what is accepted is written back as the same bytes, and what an allowed record writes is accepted and reads back.
use mathlib.Core.Path.{◌≡◌, refl, ap, ◌∙◌}
use mathlib.Core.Bool.{◌&&◌}
use mathlib.Core.List.{List, [], ◌∷◌, ◌++◌}
use Prim.Native.Nat.{ℕ, ◌+◌, ◌*◌, ◌^◌, ◌≤◌, ◌<◌}
use native.Mathlib.Omega.{arith}
use native.Mathlib.Nat.{add-zero, zero-add}
use lib.Dec.{leb}
use lib.ListN.{length, get_or, length-append}
use lib.Seq.{take_all}
use borrow.Author.Tests.{leb-true}
use Rattle.text.specs.Parts.{part}
use Rattle.text.proofs.Cases.{both_left, both_right}
use Rattle.text.proofs.Checks.{must-held, both-fine}
use Rattle.text.proofs.Parts.{part_bytes}
use Rattle.text.proofs.Stands.{Stands, stands-left, stands_right, stands-whole, part-add}
use Rattle.field.proofs.Accepted.{delimiter}
use Rattle.field.proofs.Decimal.{decimal-length}
use Rattle.field.proofs.Local.{after-cases}
use Rattle.field.proofs.RoundTrip.{number_read_lem, number-value, number-stands, delimiter-stands}
use Rattle.lists.proofs.RoundTrip.{airfields-read, airfields-held, airfields-stands, airfields-back, boxes-read, boxes-held, boxes-stands, boxes-back}
use Rattle.lists.specs.Lists.{airfields_text, boxes_text}
use Rattle.lists.proofs.Spelling.{airfields-length, boxes-length}
use Rattle.section.specs.Layout.{Item, Digits, AirfieldList, BoxList, check_item, check_items, item_size, items_size}
use Rattle.section.specs.Contents.{Content, Amount, Names, Areas, content_at, contents_at, content_text, contents_text, content_allowed, contents_allowed}
use Rattle.section.proofs.Local.{item_sized}
use Rattle.section.proofs.Own.{Own, own-length}
use Rattle.std.specs.Prelude.{Ok}

-- ---- Out of a text and back

one_byte : (s : List ℕ) (at : ℕ) → at + 1 ≤ length s → part at 1 s ≡ get_or s at 0 ∷ []
one_byte s at h = part_bytes 1 at s h ∙ rw (add-zero at)

-- an accepted item is written back as the same bytes
pub item_read : (i : Item) (s : List ℕ) (at p : ℕ) → check_item i s at ≡ Ok p → content_text i (content_at i s at) ≡ part at (item_size i s at) s
item_read (Digits r) s at p e = number_read_lem r.code r.width r.least r.most s at p e
item_read AirfieldList s at p e = airfields-read s at p e
item_read BoxList s at p e = boxes-read s at p e

-- and so is an accepted section
pub items-read : (is : List Item) (s : List ℕ) (at p : ℕ) → check_items is s at ≡ Ok p
    → contents_text is (contents_at is s at) ≡ part at (items_size is s at) s
unfolding check_items contents_at contents_text items_size
items-read [] s at p e = let d = delimiter s at p e in rw (one_byte s at d.0, d.1)
items-read (i ∷ is) s at p e =
    after-cases (check_item i s at) (check_items is s) p e
    (λ m (d : check_item i s at ≡ Ok m) (c : check_items is s m ≡ Ok p).
    let n = item_size i s at in
    let rest = items-read is s (at + n) p (rw ((item_sized i).passes s at m d) at c) in
    rw (item_read i s at m d, rest, part-add s at n (items_size is s (at + n))))

-- the own bytes of a section are what its contents write
pub own-written : (is : List Item) (b : List ℕ) → Own is b → contents_text is (contents_at is b 0) ≡ b
own-written is b own = items-read is b 0 (length b) own ∙ rw (own-length is b own) (take_all (length b) b (omega arith))

-- ---- Out of a record and back

-- what an item may hold: its kind of content, with the arrays as long as their types say
abbrev pub Fits : Item → Content → Type 0
Fits (Digits r) (Amount v) = r.most < 10 ^ r.width
Fits (Digits r) (Names l) = ⊥
Fits (Digits r) (Areas l) = ⊥
Fits AirfieldList (Amount v) = ⊥
Fits AirfieldList (Names l) = length l.names ≡ 80
Fits AirfieldList (Areas l) = ⊥
Fits BoxList (Amount v) = ⊥
Fits BoxList (Names l) = ⊥
Fits BoxList (Areas l) = length l.regions ≡ 16

-- and a section
abbrev pub Shaped : List Item → List Content → Type 0
Shaped [] [] = Unit
Shaped [] (c ∷ cs) = ⊥
Shaped (i ∷ is) [] = ⊥
Shaped (i ∷ is) (c ∷ cs) = Fits i c × Shaped is cs

-- an item that was written is accepted and reads back
pub item_stands : (i : Item) (c : Content) (s : List ℕ) (at q : ℕ) → Fits i c → content_allowed i q c ≡ (Ok tt) → Stands (content_text i c) s at
    → (check_item i s at ≡ Ok (at + length (content_text i c))) × (content_at i s at ≡ c)
item_stands (Digits r) (Amount v) s at q fits e stands =
    let w = r.width in
    let least = r.least in
    let most = r.most in
    let code = r.code in
    let t = must-held (leb least v && leb v most) code q e in
    let low : least ≤ v = leb-true least v (both_left (leb least v) (leb v most) t) in
    let high : v ≤ most = leb-true v most (both_right (leb least v) (leb v most) t) in
    let held : v < 10 ^ w = omega arith in
    (rw (decimal-length w v) (number-stands w v s at held stands code least most low high), ap Amount (number-value w v s at held stands))
item_stands (Digits r) (Names l) s at q fits e stands = absurd fits
item_stands (Digits r) (Areas l) s at q fits e stands = absurd fits
item_stands AirfieldList (Amount v) s at q fits e stands = absurd fits
item_stands AirfieldList (Names l) s at q fits e stands =
    let a = airfields-held q l e in
    let n : at + 2 + 4 * l.count ≡ at + length (airfields_text l) = omega (arith, airfields-length l (omega (arith, a.few))) in
    (airfields-stands l fits a s at stands ∙ ap Ok n, ap Names (airfields-back l fits a s at stands))
item_stands AirfieldList (Areas l) s at q fits e stands = absurd fits
item_stands BoxList (Amount v) s at q fits e stands = absurd fits
item_stands BoxList (Names l) s at q fits e stands = absurd fits
item_stands BoxList (Areas l) s at q fits e stands =
    let a = boxes-held q l e in
    let n : at + 2 + 14 * l.count ≡ at + length (boxes_text l) = omega (arith, boxes-length l (omega (arith, a.few))) in
    (boxes-stands l fits (q + 2) a s at stands ∙ ap Ok n, ap Areas (boxes-back l fits (q + 2) a s at stands))

-- and so is a section
pub contents_stand : (is : List Item) (cs : List Content) (s : List ℕ) (at q : ℕ) → Shaped is cs → contents_allowed is q cs ≡ (Ok tt)
    → Stands (contents_text is cs) s at → (check_items is s at ≡ Ok (at + length (contents_text is cs))) × (contents_at is s at ≡ cs)
unfolding check_items contents_at contents_text contents_allowed
contents_stand [] [] s at q shaped e stands = (delimiter-stands s at stands, refl)
contents_stand [] (c ∷ cs) s at q shaped e stands = absurd shaped
contents_stand (i ∷ is) [] s at q shaped e stands = absurd shaped
contents_stand (i ∷ is) (c ∷ cs) s at q shaped e stands =
    let t = content_text i c in
    let rest = contents_text is cs in
    let x = both-fine (content_allowed i q c) (contents_allowed is (q + length t) cs) tt e in
    let a = item_stands i c s at q shaped.0 x.0 (stands-left t rest s at stands) in
    let b = contents_stand is cs s (at + length t) (q + length t) shaped.1 x.1 (stands_right t rest s at stands) in
    let size : item_size i s at ≡ length t = omega (arith, (item_sized i).passes s at (at + length t) a.0) in
    let long : at + length t + length rest ≡ at + length (t ++ rest) = omega (arith, length-append t rest) in
    (rw a.0 (b.0 ∙ ap Ok long), rw (a.1, size, b.1))

-- what an allowed section writes is a section by itself, which holds what was written
pub written-own : (is : List Item) (cs : List Content) (q : ℕ) → Shaped is cs → contents_allowed is q cs ≡ (Ok tt)
    → Own is (contents_text is cs) × (contents_at is (contents_text is cs) 0 ≡ cs)
written-own is cs q shaped e =
    let t = contents_text is cs in
    let a = contents_stand is cs t 0 q shaped e (stands-whole t) in
    (a.0 ∙ ap Ok (zero-add (length t)), a.1)
