-- What is answered of texts that need not be accepted, by document 02's words.
use mathlib.Core.Path.{◌≡◌, refl, sym, ap, ◌∙◌}
use mathlib.Core.Bool.{Bool, true, false, ◌||◌}
use mathlib.Core.List.{List, [], ◌∷◌, ◌++◌, append-nil}
use Prim.Native.Nat.{ℕ, suc, ◌+◌, ◌-◌, ◌*◌, ◌≤◌, ◌<◌}
use native.Mathlib.Omega.{arith}
use lib.Dec.{eqb}
use lib.ListN.{length}
use borrow.Author.Tests.{le-leb, lt-leb, eq-eqb, ne_eqb, eqb-true}
use Rattle.text.proofs.Cases.{by_test, by_eq, by_lt}
use Rattle.field.specs.Fields.{check_number}
use Rattle.field.proofs.Accepted.{number}
use Rattle.lists.specs.Lists.{count_at}
use Rattle.section.specs.Layout.{Item, Digits, AirfieldList, BoxList, numbers, layout_of, item_size, items_size}
use Rattle.command.specs.Text.{is_named, longest}
use Rattle.command.specs.Sections.{is_one_of, place_from, place_of}
use Rattle.command.proofs.Each.{Rising}
use Rattle.command.proofs.Accepted.{rising}
use Rattle.finder.specs.Finding.{pass_list, pass_item, pass_items, pass_section, reach, part_at, find_section}
use Rattle.finder.specs.Words.{count_seen, behind, CountsFine, Whole, WholeBefore, Names, OnTheWay}
use Rattle.finder.proofs.Passing.{list-past, list_stop, list-next}
use Rattle.finder.proofs.Finds.{is_number, number-between}
use Rattle.std.specs.Prelude.{Ok, Err}
use Rattle.text.specs.Checks.{refuse}
use Rattle.text.specs.declared.Refusal.{Refusal}
use Rattle.text.specs.declared.Code.TheVariants.{OutOfRange, WrongEnd}
use Rattle.text.proofs.Checks.{err_ok}

-- ---- Items passed over

list-fine : (most w : ℕ) (s : List ℕ) (start at n : ℕ) → check_number 2 0 most s at ≡ Ok (at + 2) → n ≡ count_at s at
    → pass_list most w s start at ≡ Ok (at + (2 + w * n))
list-fine most w s start at n e d =
    let same : at + 2 + w * count_at s at ≡ at + (2 + w * count_at s at) = omega arith in
    rw d (list-next most w s start at (at + 2) (omega (arith, (number OutOfRange 2 0 most s at (at + 2) e).room)) e ∙ ap Ok same)

-- an item whose count is accepted
item_fine : (i : Item) (s : List ℕ) (start at : ℕ) → count_seen i s at ≡ Ok (at + 2) → pass_item i s start at ≡ Ok (at + item_size i s at)
item_fine (Digits r) s start at e = refl
item_fine AirfieldList s start at e = list-fine 20 4 s start at (count_at s at) e refl
item_fine BoxList s start at e = list-fine 16 14 s start at (count_at s at) e refl

-- items whose counts are: the others decide
items-fine : (is js : List Item) (s : List ℕ) (start at : ℕ) → CountsFine is s at
    → pass_items (is ++ js) s start at ≡ pass_items js s start (behind is s at)
unfolding pass_items
items-fine [] js s start at f = refl
items-fine (i ∷ is) js s start at f =
    rw (item_fine i s start at f.0) (items-fine is js s start (at + item_size i s at) f.1)

-- an item whose count is refused
item_refused : (i : Item) (s : List ℕ) (start at : ℕ) (f : Refusal) → at ≤ length s → count_seen i s at ≡ Err f
    → pass_item i s start at ≡ Err f
item_refused (Digits r) s start at f h e = err_ok f (at + 2) (sym e)
item_refused AirfieldList s start at f h e = list_stop 20 4 s start at f h e
item_refused BoxList s start at f h e = list_stop 16 14 s start at f h e

-- items that begin past the end
pub items-past : (is : List Item) (s : List ℕ) (start at : ℕ) → length s < at → pass_items is s start at ≡ refuse WrongEnd start
unfolding pass_items
items-past [] s start at h = rw (lt-leb (at + 1) (length s) (omega arith))
items-past (Digits r ∷ is) s start at h = items-past is s start (at + r.width) (omega arith)
items-past (AirfieldList ∷ is) s start at h = rw (list-past 20 4 s start at h)
items-past (BoxList ∷ is) s start at h = rw (list-past 16 14 s start at h)

-- the items and `/`
size-behind : (is : List Item) (s : List ℕ) (at : ℕ) → at + items_size is s at ≡ behind is s at + 1
unfolding items_size
size-behind [] s at = refl
size-behind (i ∷ is) s at =
    let e : at + (item_size i s at + items_size is s (at + item_size i s at)) ≡ at + item_size i s at + items_size is s (at + item_size i s at) = omega arith in
    e ∙ size-behind is s (at + item_size i s at)

-- ---- Sections passed over

module _ (k : ℕ) (s : List ℕ) (at : ℕ) where
  abbrev all : List Item
  all = layout_of k

  -- a whole one
  pub whole-passed : Whole k s at → pass_section k s at ≡ Ok (at + items_size all s at)
  unfolding pass_items
  whole-passed w =
      ap (λ (is : List Item). pass_items is s at at) (sym (append-nil all))
      ∙ items-fine all [] s at at w.counts
      ∙ rw (le-leb (behind all s at + 1) (length s) (omega (arith, w.ends, size-behind all s at)), size-behind all s at)

  module _ (is js : List Item) (split : all ≡ is ++ js) (fine : CountsFine is s at) where
    -- a count that is refused
    pub count-passed : (i : Item) (rest : List Item) (f : Refusal) → js ≡ i ∷ rest → behind is s at ≤ length s
        → count_seen i s (behind is s at) ≡ Err f → pass_section k s at ≡ Err f
    unfolding pass_items
    count-passed i rest f first h e =
        ap (λ (is : List Item). pass_items is s at at) split
        ∙ items-fine is js s at at fine
        ∙ rw (first, item_refused i s at (behind is s at) f h e)

    -- what follows would begin past the end
    pub past-passed : length s < behind is s at → pass_section k s at ≡ refuse WrongEnd at
    past-passed h =
        ap (λ (is : List Item). pass_items is s at at) split ∙ items-fine is js s at at fine ∙ items-past js s at (behind is s at) h

  -- all but the delimiter
  pub bare-passed : CountsFine all s at → behind all s at ≡ length s → pass_section k s at ≡ refuse WrongEnd at
  unfolding pass_items
  bare-passed fine e =
      ap (λ (is : List Item). pass_items is s at at) (sym (append-nil all))
      ∙ items-fine all [] s at at fine
      ∙ rw (lt-leb (behind all s at + 1) (length s) (omega (arith, e)))

-- ---- The way

least : (lo : ℕ) (ks : List ℕ) (j : ℕ) → Rising lo ks → is_one_of ks j ≡ true → lo ≤ j
least lo [] j r i = let z : ◌≡◌ {A = ℕ} 0 1 = cc in absurd (omega arith)
least lo (k ∷ ks) j r i =
    by_test (eqb j k)
    (λ (y : eqb j k ≡ true). rw (eqb-true j k y) r.0)
    (λ (y : eqb j k ≡ false). let l = least (suc k) ks j r.1 (rw y at i) in let h = r.0 in omega arith)

-- of the sections ks, which begin at a place, those named before section j are whole
abbrev Wholes : List ℕ → List ℕ → ℕ → ℕ → Type 0
Wholes ks s at j = (i : ℕ) → is_one_of ks i ≡ true → i < j → is_named s i ≡ true → Whole i s (place_from ks s at i)

module _ (lo k : ℕ) (ks s : List ℕ) (at j : ℕ) (r : Rising lo (k ∷ ks)) (w : Wholes (k ∷ ks) s at j) where
  -- the first
  first-whole : k < j → is_named s k ≡ true → Whole k s at
  unfolding place_from
  first-whole h n = rw (eq-eqb k k refl) at (w k (rw (eq-eqb k k refl)) h n)

  -- and those behind it
  later-whole : (p : ℕ) → ((i : ℕ) → suc k ≤ i → place_from (k ∷ ks) s at i ≡ place_from ks s p i) → Wholes ks s p j
  later-whole p same i o h n =
      let l = least (suc k) ks i r.1 o in
      rw (← same i l) (w i (rw o (or-true (eqb i k))) h n)
    where
      or-true : (t : Bool) → (t || true) ≡ true
      or-true true = refl
      or-true false = refl

-- where the first stands
place-first : (k : ℕ) (ks s : List ℕ) (at j : ℕ) → eqb j k ≡ true → place_from (k ∷ ks) s at j ≡ at
unfolding place_from
place-first k ks s at j y = rw y

-- where the others stand: behind the first where it is named, else at its place
module _ (k : ℕ) (ks s : List ℕ) (at i : ℕ) (l : suc k ≤ i) where
  place-named : is_named s k ≡ true → place_from (k ∷ ks) s at i ≡ place_from ks s (at + items_size (layout_of k) s at) i
  unfolding place_from
  place-named n = rw (ne_eqb i k (λ (z : i ≡ k). omega arith), n)

  place-unnamed : is_named s k ≡ false → place_from (k ∷ ks) s at i ≡ place_from ks s at i
  unfolding place_from
  place-unnamed n = rw (ne_eqb i k (λ (z : i ≡ k). omega arith), n)

-- all before it are whole: it stands where the counts say
reach-whole : (lo : ℕ) (ks s : List ℕ) (at j : ℕ) → Rising lo ks → is_one_of ks j ≡ true → Wholes ks s at j
    → reach ks s at j ≡ Ok (place_from ks s at j)
unfolding reach
reach-whole lo [] s at j r o w = let z : ◌≡◌ {A = ℕ} 0 1 = cc in absurd (omega arith)
reach-whole lo (k ∷ ks) s at j r o w =
    by_test (eqb j k)
    (λ (y : eqb j k ≡ true). rw (y, place-first k ks s at j y))
    (λ (y : eqb j k ≡ false).
    let o' : is_one_of ks j ≡ true = rw y at o in
    let l = least (suc k) ks j r.1 o' in
    by_test (is_named s k)
    (λ (n : is_named s k ≡ true).
    rw (y, n, whole-passed k s at (first-whole lo k ks s at j r w l n), place-named k ks s at j l n)
    (reach-whole (suc k) ks s (at + items_size (layout_of k) s at) j r.1 o'
    (later-whole lo k ks s at j r w (at + items_size (layout_of k) s at) (λ i m. place-named k ks s at i m n))))
    (λ (n : is_named s k ≡ false).
    rw (y, n, place-unnamed k ks s at j l n)
    (reach-whole (suc k) ks s at j r.1 o' (later-whole lo k ks s at j r w at (λ i m. place-unnamed k ks s at i m n)))))

-- one before it is refused, and those before that are whole
reach-refused : (lo : ℕ) (ks s : List ℕ) (at h j : ℕ) (f : Refusal) → Rising lo ks → is_one_of ks h ≡ true → h < j → Wholes ks s at h
    → is_named s h ≡ true → pass_section h s (place_from ks s at h) ≡ Err f → reach ks s at j ≡ Err f
unfolding reach
reach-refused lo [] s at h j f r o b w n e = let z : ◌≡◌ {A = ℕ} 0 1 = cc in absurd (omega arith)
reach-refused lo (k ∷ ks) s at h j f r o b w n e =
    by_test (eqb h k)
    (λ (y : eqb h k ≡ true).
    let z : h ≡ k = eqb-true h k y in
    rw (ne_eqb j k (λ (x : j ≡ k). omega arith), rw z at n, rw z at (rw (place-first k ks s at h y) at e)))
    (λ (y : eqb h k ≡ false).
    let o' : is_one_of ks h ≡ true = rw y at o in
    let l = least (suc k) ks h r.1 o' in
    let far : eqb j k ≡ false = ne_eqb j k (λ (x : j ≡ k). omega arith) in
    by_test (is_named s k)
    (λ (m : is_named s k ≡ true).
    rw (far, m, whole-passed k s at (first-whole lo k ks s at h r w l m))
    (reach-refused (suc k) ks s (at + items_size (layout_of k) s at) h j f r.1 o' b
    (later-whole lo k ks s at h r w (at + items_size (layout_of k) s at) (λ i q. place-named k ks s at i q m)) n
    (rw (place-named k ks s at h l m) at e)))
    (λ (m : is_named s k ≡ false).
    rw (far, m)
    (reach-refused (suc k) ks s at h j f r.1 o' b
    (later-whole lo k ks s at h r w at (λ i q. place-unnamed k ks s at i q m)) n (rw (place-unnamed k ks s at h l m) at e))))

-- ---- The answer

all_whole : (k : ℕ) (s : List ℕ) → WholeBefore k s → Wholes numbers s 22 k
all_whole k s w i o l n = w i (least 2 numbers i rising o) l n

-- a section that is whole, with all before it, is found
pub whole-found : (k : ℕ) (s : List ℕ) → Names k s → WholeBefore k s → Whole k s (place_of s k)
    → find_section k s ≡ Ok (part_at (place_of s k) (items_size (layout_of k) s (place_of s k)))
unfolding find_section
whole-found k s a b w =
    let at = place_of s k in
    let n = items_size (layout_of k) s at in
    let same : at + n - at ≡ n = omega arith in
    rw (
      le-leb 2 k a.low,
      le-leb k 9 a.high,
      le-leb (length s) longest a.short,
      a.head,
      a.named,
      reach-whole 2 numbers s 22 k rising (is_number k (number-between k a.low a.high)) (all_whole k s b),
      whole-passed k s at w,
      same,
    )

-- the first that is refused on the way decides
pub way_refused : (h k : ℕ) (s : List ℕ) (f : Refusal) → OnTheWay h k s → pass_section h s (place_of s h) ≡ Err f → find_section k s ≡ Err f
unfolding find_section
way_refused h k s f o e =
    let a = o.asked in
    rw (le-leb 2 k a.low, le-leb k 9 a.high, le-leb (length s) longest a.short, a.head, a.named)
    (by_eq h k
    (λ (z : h ≡ k).
    rw (
      reach-whole 2 numbers s 22 k rising (is_number k (number-between k a.low a.high)) (all_whole k s (rw z at o.before)),
      rw z at e,
    ))
    (λ (z : h ≡ k → ⊥).
    rw (reach-refused 2 numbers s 22 h k f rising (is_number h (number-between h o.low (omega (arith, o.most, a.high))))
    (below h k o.most z) (all_whole h s o.before) o.named e)))
  where
    below : (h k : ℕ) → h ≤ k → (h ≡ k → ⊥) → h < k
    below h k l n = by_lt h k (λ m. m) (λ m. absurd (n (omega arith)))
