-- The rows of a section, one after the other.
use mathlib.Core.Path.{◌≡◌, refl, sym, ap, ◌∙◌}
use mathlib.Core.Bool.{Bool, true, false, cond, not, ◌&&◌, ◌||◌}
use mathlib.Core.List.{List, [], ◌∷◌, map}
use Prim.Native.Nat.{ℕ, zero, suc, ◌+◌, ◌≤◌, ◌<◌}
use native.Mathlib.Omega.{arith}
use lib.Dec.{leb, ltb, eqb}
use lib.ListN.{length, get_or, drop}
use lib.Seq.{drop-nil, get_or-take}
use borrow.Author.Tests.{leb-true, ltb-true, ne_eqb}
use Rattle.text.proofs.Cases.{by_test, both_left, both_right}
use Rattle.text.specs.declared.Code.{Code}
use Rattle.text.specs.declared.Code.TheVariants.{NotAllowed, OutOfRange, WrongLength}
use Rattle.section.specs.declared.Row.{Row}
use Rattle.section.specs.declared.Layout.{Layout}
use Rattle.section.specs.Layout.{Item, Digits, AirfieldList, BoxList, Section, no_row, look, sections, none, is_empty, items_of, table_of, layout_of}
use Rattle.section.specs.Inner.{all_small, Laid}

-- ---- What is so of every section

abbrev passes : {A : Type 0} → (A → Bool) → List (ℕ × A) → Bool
passes test [] = true
passes test ((j, a) ∷ rows) = test a && passes test rows

-- what is so of each entry of a table, and of what there is for any other number, is so at every number
pub look-passes : {A : Type 0} (test : A → Bool) (k : ℕ) (rows : List (ℕ × A)) (other : A) → passes test rows ≡ true → test other ≡ true
    → test (look k rows other) ≡ true
look-passes test k [] other p o = o
look-passes test k ((j, a) ∷ rows) other p o =
    by_test (eqb k j)
    (λ (y : eqb k j ≡ true). rw y (both_left (test a) (passes test rows) p))
    (λ (y : eqb k j ≡ false). rw y (look-passes test k rows other (both_right (test a) (passes test rows) p) o))

abbrev all_below : {A : Type 0} → ℕ → List (ℕ × A) → Bool
all_below n [] = true
all_below n ((j, a) ∷ rows) = ltb j n && all_below n rows

-- past the numbers of a table there is what there is for any other
pub look-past : {A : Type 0} (n k : ℕ) (rows : List (ℕ × A)) (other : A) → all_below n rows ≡ true → n ≤ k → look k rows other ≡ other
look-past n k [] other b h = refl
look-past n k ((j, a) ∷ rows) other b h =
    let low = ltb-true j n (both_left (ltb j n) (all_below n rows) b) in
    rw (ne_eqb k j (λ e. omega (arith, low))) (look-past n k rows other (both_right (ltb j n) (all_below n rows) b) h)

-- no section has a number past 9
pub table-past : (k : ℕ) → 10 ≤ k → table_of k ≡ none
unfolding table_of
table-past k h = look-past 10 k sections none refl h

-- ---- The rows of a section

-- what an array of rows has past its end
abbrev pub zero_row : Row
zero_row = record { code = WrongLength; width = 0; least = 0; most = 0 }

-- the rows from the i-th on
abbrev pub rows_from : List Row → ℕ → List Item
rows_from rows i = map Digits (drop i rows)

drop-row : (rows : List Row) (i : ℕ) (d : Row) → i < length rows → drop i rows ≡ get_or rows i d ∷ drop (suc i) rows
drop-row [] i d h = absurd (omega arith)
drop-row (r ∷ rows) zero d h = refl
drop-row (r ∷ rows) (suc i) d h = drop-row rows i d (omega arith)

-- one row more
pub rows_turn : (rows : List Row) (i : ℕ) (d : Row) → i < length rows → rows_from rows i ≡ Digits (get_or rows i d) ∷ rows_from rows (i + 1)
rows_turn rows i d h = let next : i + 1 ≡ suc i = omega arith in rw (drop-row rows i d h, next)

-- none is left
pub rows_end : (rows : List Row) (i : ℕ) → length rows ≤ i → rows_from rows i ≡ []
rows_end [] i h = rw (drop-nil i)
rows_end (r ∷ rows) zero h = absurd (omega arith)
rows_end (r ∷ rows) (suc i) h = rows_end rows i (omega arith)

-- each is small
pub small_row : (rows : List Row) (i : ℕ) (d : Row) → i < length rows → all_small rows ≡ true
    → ((get_or rows i d).width ≤ 3) × ((get_or rows i d).most ≤ 999)
unfolding all_small
small_row [] i d h s = absurd (omega arith)
small_row (r ∷ rows) zero d h s =
    let w = leb r.width 3 in
    let m = leb r.most 999 in
    let both = both_left (w && m) (all_small rows) s in
    (leb-true r.width 3 (both_left w m both), leb-true r.most 999 (both_right w m both))
small_row (r ∷ rows) (suc i) d h s = small_row rows i d (omega arith) (both_right (leb r.width 3 && leb r.most 999) (all_small rows) s)

-- no more than eight rows, each small
abbrev is_small : Section → Bool
is_small x = leb (length x.rows) 8 && all_small x.rows

is-small : (k : ℕ) → is_small (table_of k) ≡ true
unfolding table_of all_small
is-small k = look-passes is_small k sections none refl refl

-- every section's are
pub table-small : (k : ℕ) → (length (table_of k).rows ≤ 8) × (all_small (table_of k).rows ≡ true)
table-small k =
    let few = leb (length (table_of k).rows) 8 in
    let small = all_small (table_of k).rows in
    (leb-true (length (table_of k).rows) 8 (both_left few small (is-small k)), both_right few small (is-small k))

-- rows that are a section's are few
pub few_rows : (k : ℕ) (rows : List Row) → rows ≡ (table_of k).rows → length rows ≤ 8
few_rows k rows e = rw e (table-small k).0

-- and each is small
pub near_row : (k : ℕ) (rows : List Row) (i : ℕ) → rows ≡ (table_of k).rows → i < length rows
    → (length rows ≤ 8) × (((get_or rows i zero_row).width ≤ 3) × ((get_or rows i zero_row).most ≤ 999))
near_row k rows i e h =
    let t = table-small k in
    let small : all_small rows ≡ true = rw e t.1 in
    (few_rows k rows e, small_row rows i zero_row h small)

pub any_default : (rows : List Row) (i : ℕ) (d e : Row) → i < length rows → get_or rows i d ≡ get_or rows i e
any_default [] i d e h = absurd (omega arith)
any_default (r ∷ rows) zero d e h = refl
any_default (r ∷ rows) (suc i) d e h = any_default rows i d e (omega arith)

-- a row of the layout is that of the section
pub laid_row : {x : Section} {l : Layout} → Laid x l → (i : ℕ) → i < length x.rows → get_or l.rows i zero_row ≡ get_or x.rows i no_row
laid_row {x} {l} e i h =
    sym (get_or-take l.count l.rows i zero_row (omega (arith, e.count)))
    ∙ ap (λ (rows : List Row). get_or rows i zero_row) e.rows
    ∙ any_default x.rows i zero_row no_row h

-- whether a section has an item
abbrev has_some : Section → Bool
has_some x = not (eqb x.boxes 0) || not (eqb x.airfields 0) || not (eqb (length x.rows) 0)

abbrev says_some : Section → Bool
says_some x = cond (has_some x) (not (is_empty (items_of x))) (is_empty (items_of x))

same_some : (s t : Bool) → cond s (not t) t ≡ true → s ≡ not t
same_some true t e = sym e
same_some false true e = refl
same_some false false e = e

-- a layout without lists and digits has no items, any other has some
pub table-some : (k : ℕ)
    → (not (eqb (table_of k).boxes 0) || not (eqb (table_of k).airfields 0) || not (eqb (length (table_of k).rows) 0)) ≡ not (is_empty (items_of (table_of k)))
unfolding table_of
table-some k =
    same_some (has_some (table_of k)) (is_empty (items_of (table_of k)))
    (look-passes says_some k sections none refl refl)

-- ---- Codes

-- a mark's code, and any other number's
abbrev pub fits_code : Code → Bool
fits_code NotAllowed = true
fits_code OutOfRange = true
fits_code _ = false

-- the code of another number is one of the two
unfoldable pub codes_fit : List Item → Bool
codes_fit [] = true
codes_fit (Digits r ∷ is) = fits_code r.code && codes_fit is
codes_fit (AirfieldList ∷ is) = codes_fit is
codes_fit (BoxList ∷ is) = codes_fit is

-- what is so of both is so of it
pub four-or-five : (test : Code → Bool) (code : Code) → test NotAllowed ≡ true → test OutOfRange ≡ true → fits_code code ≡ true → test code ≡ true
four-or-five test NotAllowed a b e = a
four-or-five test OutOfRange a b e = b
four-or-five test _ a b e = let z : ◌≡◌ {A = Bool} false true = e in cc

pub table-coded : (k : ℕ) → codes_fit (layout_of k) ≡ true
unfolding layout_of table_of codes_fit
table-coded k = look-passes (λ l. codes_fit (items_of l)) k sections none refl refl

pub ruleset tables = (table-some)
