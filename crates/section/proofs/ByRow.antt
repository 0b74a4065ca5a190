-- A section's numbers, row by row: what is read, checked and written of them.
use mathlib.Core.Path.{◌≡◌, refl, sym, ap, ◌∙◌}
use mathlib.Core.List.{List, [], ◌∷◌, ◌++◌, map, append_assoc, append-nil}
use Prim.Native.Nat.{ℕ, zero, suc, ◌+◌, ◌-◌, ◌≤◌, ◌<◌}
use native.Mathlib.Omega.{arith}
use native.Mathlib.Nat.{add_assoc}
use native.Mathlib.Numerals.{add-one}
use lib.ListN.{length, get_or, set, take, drop, replicate, length-append}
use lib.Seq.{drop-cons, take-length}
use lib.Dec.{leb}
use borrow.Rule.Slice.PartMut.{put_mid}
use mathlib.Core.Bool.{true, false, ◌&&◌}
use Rattle.text.specs.Checks.{◌and_then◌, after}
use Rattle.text.specs.Over.{over}
use Rattle.field.specs.Decimal.{decimal, value, all_digits}
use Rattle.field.proofs.Decimal.{decimal-length}
use Rattle.section.specs.declared.Row.{Row}
use Rattle.section.specs.Layout.{Item, Digits, no_row, table_of, digits_of, check_item, check_items, items_size}
use Rattle.section.specs.Contents.{Content, Amount, amount_of, content_at, content_text, contents_at, contents_text, content_allowed, contents_allowed}
use Rattle.section.specs.Inner.{numbers_of, going_on, pass_contents}
use Rattle.text.specs.Parts.{part}
use Rattle.field.proofs.Accepted.{number as accepted-number}
use Rattle.lists.proofs.Fill.{fill_turn}
use Rattle.section.proofs.Rows.{rows_from, rows_turn, zero_row, near_row, table-small, any_default}
use Rattle.section.proofs.Walk.{Left, left-all, left_item, left-on, number_read_lem}
use Rattle.section.proofs.Written.{number-written}
use Rattle.std.specs.Prelude.{Result, Ok, Err}
use Rattle.text.specs.declared.Refusal.{Refusal}

-- ---- Numbers from the i-th on

pub amounts_turn : (v : List ℕ) (i : ℕ) → i < length v → map Amount (drop i v) ≡ Amount (get_or v i 0) ∷ map Amount (drop (i + 1) v)
amounts_turn v i h = rw (add-one, drop-cons v i 0)

-- ---- Passing: one content after the other

goes_on : (x y : Result (Unit {0}) Refusal) (p q : ℕ) → going_on (x and_then y) (p + q) ≡ after (going_on x p) (λ (r : ℕ). going_on y (r + q))
goes_on (Ok u) y p q = refl
goes_on (Err r) y p q = refl

-- one that is allowed is passed
pub pass_on : (i : Item) (is : List Item) (at : ℕ) (c : Content) (cs : List Content) → content_allowed i at c ≡ (Ok tt)
    → pass_contents (i ∷ is) at (c ∷ cs) ≡ pass_contents is (at + length (content_text i c)) cs
unfolding contents_allowed contents_text
pass_on i is at c cs e =
    rw (e, length-append (content_text i c) (contents_text is cs), ← add_assoc at (length (content_text i c)) (length (contents_text is cs)))

-- any other is refused
pub pass_stop : (i : Item) (is : List Item) (at : ℕ) (r : Refusal) (c : Content) (cs : List Content) → content_allowed i at c ≡ Err r
    → Err r ≡ pass_contents (i ∷ is) at (c ∷ cs)
unfolding contents_allowed
pass_stop i is at r c cs e = rw e

-- a row's number within its limits is passed
pub row-on : (rows : List Row) (v : List ℕ) (i p : ℕ) (whole : Result ℕ Refusal) → i < length rows → i < length v
    → whole ≡ pass_contents (rows_from rows i) p (map Amount (drop i v))
    → (leb (get_or rows i zero_row).least (get_or v i 0) && leb (get_or v i 0) (get_or rows i zero_row).most) ≡ true
    → whole ≡ pass_contents (rows_from rows (i + 1)) (p + (get_or rows i zero_row).width) (map Amount (drop (i + 1) v))
row-on rows v i p whole h k e t =
    let r = get_or rows i zero_row in
    let x = get_or v i 0 in
    e ∙ rw (rows_turn rows i zero_row h, amounts_turn v i k)
    (pass_on (Digits r) (rows_from rows (i + 1)) p (Amount x) (map Amount (drop (i + 1) v)) (rw t) ∙ rw (decimal-length r.width x))

-- any other is refused
pub row-stop : (rows : List Row) (v : List ℕ) (i p : ℕ) (whole : Result ℕ Refusal) → i < length rows → i < length v
    → whole ≡ pass_contents (rows_from rows i) p (map Amount (drop i v))
    → (leb (get_or rows i zero_row).least (get_or v i 0) && leb (get_or v i 0) (get_or rows i zero_row).most) ≡ false
    → Err (record { code = (get_or rows i zero_row).code; place = p }) ≡ whole
row-stop rows v i p whole h k e t =
    let r = get_or rows i zero_row in
    let x = get_or v i 0 in
    pass_stop (Digits r) (rows_from rows (i + 1)) p (record { code = r.code; place = p }) (Amount x) (map Amount (drop (i + 1) v)) (rw t)
    ∙ sym (e ∙ rw (rows_turn rows i zero_row h, amounts_turn v i k))

-- behind the last comes `/`
pub pass_end : (at : ℕ) (cs : List Content) → Ok (at + 1) ≡ pass_contents [] at cs
unfolding contents_allowed contents_text
pass_end at cs = refl

-- ---- Written, one after the other

unfoldable pub digits_text : List Row → List ℕ → List ℕ
digits_text [] v = []
digits_text (r ∷ rs) [] = []
digits_text (r ∷ rs) (x ∷ v) = decimal r.width x ++ digits_text rs v

text-last : (rows : List Row) (v : List ℕ) (i : ℕ) → i < length rows → i < length v
    → digits_text (take (suc i) rows) v ≡ digits_text (take i rows) v ++ decimal (get_or rows i zero_row).width (get_or v i 0)
unfolding digits_text
text-last [] v i h k = absurd (omega arith)
text-last (r ∷ rows) [] i h k = absurd (omega arith)
text-last (r ∷ rows) (x ∷ v) zero h k = append-nil (decimal r.width x)
text-last (r ∷ rows) (x ∷ v) (suc i) h k =
    ap (λ (t : List ℕ). decimal r.width x ++ t) (text-last rows v i (omega arith) (omega arith))
    ∙ sym (append_assoc (decimal r.width x) (digits_text (take i rows) v) (decimal (get_or rows i zero_row).width (get_or v i 0)))

-- one more
pub text-more : (rows : List Row) (v : List ℕ) (i : ℕ) → i < length rows → i < length v
    → digits_text (take (i + 1) rows) v ≡ digits_text (take i rows) v ++ decimal (get_or rows i zero_row).width (get_or v i 0)
text-more rows v i h k = rw add-one (text-last rows v i h k)

-- fewer are no longer
pub text-within : (rows : List Row) (v : List ℕ) (i n : ℕ) → i ≤ n → length (digits_text (take i rows) v) ≤ length (digits_text (take n rows) v)
unfolding digits_text
text-within rows v zero n h = omega arith
text-within rows v (suc i) zero h = absurd (omega arith)
text-within [] v (suc i) (suc n) h = omega arith
text-within (r ∷ rows) [] (suc i) (suc n) h = omega arith
text-within (r ∷ rows) (x ∷ v) (suc i) (suc n) h =
    omega (
      arith,
      text-within rows v i n (omega arith),
      length-append (decimal r.width x) (digits_text (take i rows) v),
      length-append (decimal r.width x) (digits_text (take n rows) v),
    )

-- how long it is with one more
pub text-long : (rows : List Row) (v : List ℕ) (i p : ℕ) → i < length rows → i < length v → p ≡ length (digits_text (take i rows) v)
    → length (digits_text (take (i + 1) rows) v) ≡ p + (get_or rows i zero_row).width
text-long rows v i p h k e =
    let w = (get_or rows i zero_row).width in
    let x = get_or v i 0 in
    omega (arith, ap length (text-more rows v i h k) ∙ length-append (digits_text (take i rows) v) (decimal w x), decimal-length w x)

-- where all of them and `/` have room there is room for one more
pub text-room : (rows : List Row) (v : List ℕ) (i p n : ℕ) → i < length rows → i < length v → p ≡ length (digits_text (take i rows) v)
    → length (digits_text rows v) + 1 ≤ n → p + (get_or rows i zero_row).width + 1 ≤ n
text-room rows v i p n h k e room =
    let all : take (length rows) rows ≡ rows = take-length rows in
    omega (arith, text-long rows v i p h k e, rw all at (text-within rows v (i + 1) (length rows) (omega arith)))

-- all of them, and `/`
pub text-all : (rows : List Row) (v : List ℕ) → length rows ≤ length v
    → contents_text (map Digits rows) (map Amount v) ≡ digits_text rows v ++ (47 ∷ [])
unfolding digits_text contents_text
text-all [] v h = refl
text-all (r ∷ rows) [] h = absurd (omega arith)
text-all (r ∷ rows) (x ∷ v) h =
    ap (λ (t : List ℕ). decimal r.width x ++ t) (text-all rows v (omega arith)) ∙ sym (append_assoc (decimal r.width x) (digits_text rows v) (47 ∷ []))

-- of a section's rows
pub text-whole : (k : ℕ) (rows : List Row) (v : List ℕ) → rows ≡ (table_of k).rows → length v ≡ 8
    → contents_text (digits_of (table_of k)) (map Amount v) ≡ digits_text rows v ++ (47 ∷ [])
text-whole k rows v e l = rw e (text-all (table_of k).rows v (omega (arith, (table-small k).0)))

-- where they have room their numbers and `/` have
pub text-fits : (k : ℕ) (rows : List Row) (v : List ℕ) (n : ℕ) → rows ≡ (table_of k).rows → length v ≡ 8
    → length (contents_text (digits_of (table_of k)) (map Amount v)) ≤ n → length (digits_text rows v) + 1 ≤ n
text-fits k rows v n e l h = omega (arith, ap length (text-whole k rows v e l), length-append (digits_text rows v) (47 ∷ []))

-- one number more is written
pub text-put : (d D zs : List ℕ) (rows : List Row) (v : List ℕ) (i p : ℕ) → i < length rows → i < length v
    → p ≡ length (digits_text (take i rows) v) → D ≡ over d 0 (digits_text (take i rows) v)
    → p + (get_or rows i zero_row).width ≤ length d
    → zs ≡ decimal (length (take (p + (get_or rows i zero_row).width - p) (drop p D))) (get_or v i 0)
    → put_mid p (p + (get_or rows i zero_row).width - p) D zs ≡ over d 0 (digits_text (take (i + 1) rows) v)
text-put d D zs rows v i p h k ends is room wrote =
    let w = (get_or rows i zero_row).width in
    number-written d D zs (digits_text (take i rows) v) (get_or v i 0) w p (p + w) is ends refl room wrote ∙ rw (← text-more rows v i h k)

-- ---- Read, one after the other

-- the numbers of the items
abbrev pub amounts_at : List Item → List ℕ → ℕ → List ℕ
amounts_at is s at = map amount_of (contents_at is s at)

-- one number and then the others
pub amounts_next : (r : Row) (is : List Item) (s : List ℕ) (at : ℕ)
    → amounts_at (Digits r ∷ is) s at ≡ amount_of (content_at (Digits r) s at) ∷ amounts_at is s (at + r.width)
unfolding contents_at
amounts_next r is s at = refl

pub amounts_end : (s : List ℕ) (at : ℕ) → amounts_at [] s at ≡ []
unfolding contents_at
amounts_end s at = refl

length-map : {A B : Type 0} (f : A → B) (xs : List A) → length (map f xs) ≡ length xs
length-map f [] = refl
length-map f (x ∷ xs) = ap suc (length-map f xs)

-- the numbers and zeros behind them
pub numbers_are : (cs : List Content) (v : List ℕ) (n : ℕ) → map amount_of cs ≡ v → length v ≡ n → numbers_of cs ≡ v ++ replicate (8 - n) 0
unfolding numbers_of
numbers_are cs v n e l = let k : length cs ≡ n = sym (length-map amount_of cs) ∙ ap length e ∙ l in rw (e, k)

-- ---- The loop that reads

-- no entry above a byte where its row's most is none
set-within : (v : List ℕ) (i x j : ℕ) → (j ≡ i → x ≤ 255) → get_or v j 0 ≤ 255 → get_or (set v i x) j 0 ≤ 255
set-within [] i x j h k = k
set-within (y ∷ v) zero x zero h k = h refl
set-within (y ∷ v) zero x (suc j) h k = k
set-within (y ∷ v) (suc i) x zero h k = k
set-within (y ∷ v) (suc i) x (suc j) h k = set-within v i x j (λ e. h (ap suc e)) k

-- the first i numbers are read, zeros stand behind them, and the text goes on at p
pub record Taken (rows : List Row) (s : List ℕ) (at : ℕ) (v : List ℕ) (p i : ℕ) : Type 0 where
  pub few : i ≤ length rows
  pub left : Left (map Digits rows) s at (rows_from rows i) p
  pub front : List ℕ
  pub long : length front ≡ i
  pub filled : v ≡ front ++ replicate (8 - i) 0
  pub same : amounts_at (map Digits rows) s at ≡ front ++ amounts_at (rows_from rows i) s p
  pub fit : (j : ℕ) → (get_or rows j no_row).most ≤ 255 → get_or v j 0 ≤ 255

module _ (rows : List Row) (s : List ℕ) (at : ℕ) where
  abbrev all : List Item
  all = map Digits rows

  zeros_within : (k j : ℕ) → get_or (replicate k 0) j 0 ≤ 255
  zeros_within zero j = omega arith
  zeros_within (suc k) zero = omega arith
  zeros_within (suc k) (suc j) = zeros_within k j

  -- before the first
  pub taken_none : check_items all s at ≡ Ok (at + items_size all s at) → Taken rows s at (replicate 8 0) at 0
  taken_none e =
      record {
        few = omega arith;
        left = left-all e;
        front = [];
        long = refl;
        filled = refl;
        same = refl;
        fit = λ j h. zeros_within 8 j;
      }

  module _ (v : List ℕ) (p i : ℕ) (t : Taken rows s at v p i) (more : i < length rows) where
    abbrev pub row : Row
    row = get_or rows i zero_row

    -- the next one was accepted
    next : Left all s at (Digits row ∷ rows_from rows (i + 1)) p
    next = rw (← rows_turn rows i zero_row more) t.left

    pub taken_item : check_item (Digits row) s p ≡ Ok (p + row.width)
    taken_item = left_item next

    -- and can be read
    pub taken-read : (k : ℕ) → rows ≡ (table_of k).rows
        → (p + row.width ≤ length s) × ((row.width ≤ 3) × ((all_digits (part p row.width s) ≡ true) × (value (part p row.width s) < 1000)))
    taken-read k e =
        let near = near_row k rows i e more in
        number_read_lem row.code row.width row.least row.most s p taken_item 1000 near.1.0 (omega (arith, near.1.1))

    -- one more
    pub taken-on : length rows ≤ 8 → Taken rows s at (set v i (value (part p row.width s))) (p + row.width) (i + 1)
    taken-on few8 =
        let x = value (part p row.width s) in
        let ok = accepted-number row.code row.width row.least row.most s p (p + row.width) taken_item in
        record {
          few = omega arith;
          left = left-on next;
          front = t.front ++ (x ∷ []);
          long = length-append t.front (x ∷ []) ∙ ap (λ (k : ℕ). k + 1) t.long;
          filled = ap (λ (l : List ℕ). set l i x) t.filled ∙ fill_turn t.front 8 i 0 x t.long (omega arith);
          same =
              t.same
              ∙ ap (λ (l : List ℕ). t.front ++ l)
              (ap (λ (is : List Item). amounts_at is s p) (rows_turn rows i zero_row more) ∙ amounts_next row (rows_from rows (i + 1)) s p)
              ∙ sym (append_assoc t.front (x ∷ []) (amounts_at (rows_from rows (i + 1)) s (p + row.width)));
          fit =
              λ j h.
              set-within v i x j
              (λ e.
              let most : (get_or rows i no_row).most ≤ 255 = rw e at h in
              let any_small : row.most ≤ 255 = rw (any_default rows i zero_row no_row more) most in
              omega (arith, ok.high, any_small))
              (t.fit j h);
        }
