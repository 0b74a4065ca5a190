-- A list that agrees with its board is the board's list, in the document's words.
use mathlib.Core.Path.{◌≡◌, refl, sym, ap, ◌∙◌, subst}
use mathlib.Core.Bool.{true, cond}
use mathlib.Core.List.{List, [], ◌∷◌}
use Prim.Native.Nat.{ℕ, zero, suc, ◌+◌, ◌≤◌, ◌<◌}
use native.Mathlib.Numerals.{add-one}
use native.Mathlib.Omega.{arith}
use lib.Dec.{leb, eqb}
use lib.ListN.{length, get_or, take, drop}
use lib.Seq.{length-take-le}
use borrow.Author.Tests.{le-leb, leb-true, eq-eqb, ne_eqb, eqb-true, lt-ltb}
use Rattle.text.proofs.Cases.{by_eq, by_lt, both_left, both_right}
use Rattle.board.specs.Words.{slot_at, InUse}
use Rattle.board.specs.declared.Slot.{Slot}
use Rattle.tails.specs.Tails.{rank_from, key, rises, listed, member, covers, all_blank, agrees}
use Rattle.tails.specs.Keys.{rank_of, key_of, keys_of, is_list_of}
use Rattle.tails.specs.Words.{SixBytes, designator_at, ListOf}
use Rattle.tails.proofs.Keyed.{length_keys, get_d_taken}
use Rattle.tails.proofs.Steps.{listed-most, listed-front, no_key}
use Rattle.tails.proofs.Unique.{Agreed, agreed, rises-first, rises-rest, no_member, is-first, is_later, used-listed, listed-used}
use Rattle.tails.proofs.Order.{earlier_less, less_earlier}

-- ---- Keys and slots

-- slot j's key is that of slot j
pub key-at : (ss : List Slot) (j : ℕ) → key (keys_of ss) j ≡ key_of (slot_at ss j)
unfolding keys_of
key-at [] j = refl
key-at (s ∷ ss) zero = refl
key-at (s ∷ ss) (suc j) = key-at ss j

pub key-used : (ss : List Slot) (j : ℕ) → InUse ss j → key (keys_of ss) j ≡ rank_of (slot_at ss j).designator
key-used ss j u = key-at ss j ∙ rw (ne_eqb (slot_at ss j).length 0 u)

pub key-free : (ss : List Slot) (j : ℕ) → (slot_at ss j).length ≡ 0 → key (keys_of ss) j ≡ 0
key-free ss j e = key-at ss j ∙ rw (eq-eqb (slot_at ss j).length 0 e)

pub used-key : (ss : List Slot) (j : ℕ) → 0 < key (keys_of ss) j → InUse ss j
used-key ss j h e = omega (arith, h, key-free ss j e)

pub key-some : (ss : List Slot) (j : ℕ) → InUse ss j → 0 < key (keys_of ss) j
key-some ss j u = rw (key-used ss j u) (omega arith)

-- a used slot is one of them
pub used-inside : (ss : List Slot) (j : ℕ) → InUse ss j → j < length ss
used-inside ss j u =
    by_lt j (length ss) (λ (h : j < length ss). h)
    (λ (h : length ss ≤ j). absurd (omega (arith, key-some ss j u, no_key (keys_of ss) j (omega (arith, length_keys ss)))))

-- ---- Places in a list

at-member : (ts : List ℕ) (i : ℕ) → i < length ts → member (get_or ts i 0) ts ≡ true
at-member [] i h = absurd (omega arith)
at-member (t ∷ ts) zero h = is-first t ts
at-member (t ∷ ts) (suc i) h = is_later (get_or ts i 0) t ts (at-member ts i (omega arith))

-- where j stands
place_in : ℕ → List ℕ → ℕ
place_in j [] = 0
place_in j (t ∷ ts) = cond (eqb j t) 0 (suc (place_in j ts))

member-at : (j : ℕ) (ts : List ℕ) → member j ts ≡ true → (place_in j ts < length ts) × (get_or ts (place_in j ts) 0 ≡ j)
unfolding member place_in
member-at j [] m = no_member j m
member-at j (t ∷ ts) m =
    by_eq j t
    (λ (e : j ≡ t). rw (eq-eqb j t e) (omega arith, sym e))
    (λ (e : j ≡ t → ⊥). rw (ne_eqb j t e) (let r = member-at j ts (rw (ne_eqb j t e) at m) in (omega (arith, r.0), r.1)))

rises_next : (ks : List ℕ) (last : ℕ) (ts : List ℕ) (i : ℕ) → rises ks last ts ≡ true → i + 1 < length ts → key ks (get_or ts i 0) < key ks (get_or ts (i + 1) 0)
rises_next ks last [] i r h = absurd (omega arith)
rises_next ks last (t ∷ []) i r h = absurd (omega arith)
rises_next ks last (t ∷ u ∷ ts) zero r h = rises-first ks (key ks t) u ts (rises-rest ks last t (u ∷ ts) r)
rises_next ks last (t ∷ u ∷ ts) (suc i) r h =
    let z : suc i + 1 ≡ suc (i + 1) = omega arith in
    rw z (rises_next ks (key ks t) (u ∷ ts) i (rises-rest ks last t (u ∷ ts) r) (omega arith))

blank-at : (l : List ℕ) (n i : ℕ) → all_blank (drop n l) ≡ true → n ≤ i → i < length l → get_or l i 0 ≡ 255
unfolding all_blank
blank-at [] n i b h k = absurd (omega arith)
blank-at (x ∷ l) zero zero b h k = eqb-true x 255 (both_left (eqb x 255) (all_blank l) b)
blank-at (x ∷ l) zero (suc i) b h k = blank-at l zero i (both_right (eqb x 255) (all_blank l) b) (omega arith) (omega arith)
blank-at (x ∷ l) (suc n) zero b h k = absurd (omega arith)
blank-at (x ∷ l) (suc n) (suc i) b h k = blank-at l n i b (omega arith) (omega arith)

-- what stands at a place of the list is a used slot
pub at-used : (ss : List Slot) (ts : List ℕ) → Agreed (keys_of ss) ts → (i : ℕ) → i < length (listed ts) → InUse ss (get_or ts i 0) × (get_or ts i 0 ≡ get_or (listed ts) i 0)
at-used ss ts a i l =
    let front : get_or ts i 0 ≡ get_or (listed ts) i 0 = sym (get_d_taken (length (listed ts)) ts i l) ∙ ap (λ (x : List ℕ). get_or x i 0) (listed-front ts) in
    (used-key ss (get_or ts i 0) (rw front (listed-used (keys_of ss) ts a (get_or (listed ts) i 0) (at-member (listed ts) i l))), front)

-- ---- What a list that agrees is

pub list-said : (ss : List Slot) (ts : List ℕ) → SixBytes ss → is_list_of ss ts ≡ true → ListOf ss ts
unfolding is_list_of
list-said ss ts six h =
    let ks = keys_of ss in
    let a = agreed ks ts (both_right (leb (length ss) 64) (agrees ks ts) h) in
    let n = length (listed ts) in
    let front : (i : ℕ) → i < n → get_or ts i 0 ≡ get_or (listed ts) i 0 = λ (i : ℕ) (l : i < n). (at-used ss ts a i l).1 in
    let uses : (i : ℕ) → i < n → InUse ss (get_or ts i 0) = λ (i : ℕ) (l : i < n). (at-used ss ts a i l).0 in
    let stands : (j : ℕ) → InUse ss j → (place_in j (listed ts) < n) × (get_or (listed ts) (place_in j (listed ts)) 0 ≡ j) = λ (j : ℕ) (u : InUse ss j). member-at j (listed ts) (used-listed ks ts a j (key-some ss j u)) in
    record {
      few = leb-true (length ss) 64 (both_left (leb (length ss) 64) (agrees ks ts) h);
      bytes = a.places ∙ length_keys ss;
      count = n;
      most = listed-most ts;
      used = uses;
      place = λ (j : ℕ) (u : InUse ss j). place_in j (listed ts);
      each = λ (j : ℕ) (u : InUse ss j). ((stands j u).0, front (place_in j (listed ts)) (stands j u).0 ∙ (stands j u).1);
      rising = λ (i : ℕ) (l : i + 1 < n).
          let p = uses i (omega arith) in
          let q = uses (i + 1) l in
          let less = rises_next ks 0 (listed ts) i a.up l in
          let d = designator_at ss ts i in
          let e = designator_at ss ts (i + 1) in
          let x = key-used ss (get_or ts i 0) p in
          let y = key-used ss (get_or ts (i + 1) 0) q in
          let b = six (get_or ts i 0) (used-inside ss (get_or ts i 0) p) in
          let c = six (get_or ts (i + 1) 0) (used-inside ss (get_or ts (i + 1) 0) q) in
          let f = front i (omega arith) in
          let g = front (i + 1) l in
          let r : rank_from 0 d < rank_from 0 e = omega (arith, less, x, y, ap (key ks) f, ap (key ks) g) in
          less_earlier d e 0 (b.0 ∙ sym c.0) c.1 r;
      blank = λ (i : ℕ) (l : n ≤ i) (k : i < length ts). blank-at ts n i a.blank l k;
    }

-- ---- And it agrees where it is that

front-listed : (ts : List ℕ) (c : ℕ) → c ≤ length ts → ((i : ℕ) → i < c → get_or ts i 0 ≡ 255 → ⊥) → ((i : ℕ) → c ≤ i → i < length ts → get_or ts i 0 ≡ 255) → listed ts ≡ take c ts
unfolding listed
front-listed [] zero h f g = refl
front-listed [] (suc c) h f g = absurd (omega arith)
front-listed (t ∷ ts) zero h f g = rw (eq-eqb t 255 (g 0 (omega arith) (omega arith)))
front-listed (t ∷ ts) (suc c) h f g =
    rw (ne_eqb t 255 (f 0 (omega arith)))
    (ap (λ (l : List ℕ). t ∷ l)
    (front-listed ts c (omega arith) (λ (i : ℕ) (l : i < c). f (suc i) (omega arith)) (λ (i : ℕ) (l : c ≤ i) (k : i < length ts). g (suc i) (omega arith) (omega arith))))

rises-said : (ks : List ℕ) (last : ℕ) (ts : List ℕ) (c : ℕ) → c ≤ length ts → (0 < c → last < key ks (get_or ts 0 0)) → ((i : ℕ) → suc i < c → key ks (get_or ts i 0) < key ks (get_or ts (suc i) 0)) → rises ks last (take c ts) ≡ true
unfolding rises
rises-said ks last [] zero h f g = refl
rises-said ks last [] (suc c) h f g = absurd (omega arith)
rises-said ks last (t ∷ ts) zero h f g = refl
rises-said ks last (t ∷ ts) (suc c) h f g =
    rw (lt-ltb last (key ks t) (f (omega arith)))
    (rises-said ks (key ks t) ts c (omega arith) (λ (l : 0 < c). g 0 (omega arith)) (λ (i : ℕ) (l : suc i < c). g (suc i) (omega arith)))

covers-said : (ks rs : List ℕ) → ((j : ℕ) → 0 < key ks j → member j rs ≡ true) → (n : ℕ) → covers ks rs n ≡ true
unfolding covers
covers-said ks rs f zero = refl
covers-said ks rs f (suc n) =
    rw (covers-said ks rs f n)
    (by_eq (key ks n) 0
    (λ (e : key ks n ≡ 0). rw (eq-eqb (key ks n) 0 e))
    (λ (e : key ks n ≡ 0 → ⊥). rw (ne_eqb (key ks n) 0 e) (f n (omega (arith, e)))))

blank-said : (l : List ℕ) (n : ℕ) → ((i : ℕ) → n ≤ i → i < length l → get_or l i 0 ≡ 255) → all_blank (drop n l) ≡ true
unfolding all_blank
blank-said [] zero f = refl
blank-said [] (suc n) f = refl
blank-said (x ∷ l) zero f = rw (eq-eqb x 255 (f 0 (omega arith) (omega arith))) (blank-said l zero (λ (i : ℕ) (h : 0 ≤ i) (k : i < length l). f (suc i) (omega arith) (omega arith)))
blank-said (x ∷ l) (suc n) f = blank-said l n (λ (i : ℕ) (h : n ≤ i) (k : i < length l). f (suc i) (omega arith) (omega arith))

pub said-list : (ss : List Slot) (ts : List ℕ) → SixBytes ss → ListOf ss ts → is_list_of ss ts ≡ true
unfolding is_list_of agrees
said-list ss ts six s =
    let ks = keys_of ss in
    let c = s.count in
    let inside : (i : ℕ) → i < c → get_or ts i 0 < length ss = λ (i : ℕ) (l : i < c). used-inside ss (get_or ts i 0) (s.used i l) in
    let front : listed ts ≡ take c ts = front-listed ts c s.most (λ (i : ℕ) (l : i < c) (e : get_or ts i 0 ≡ 255). omega (arith, inside i l, s.few, e)) s.blank in
    let long : length (take c ts) ≡ c = length-take-le c ts s.most in
    let less : (i : ℕ) → suc i < c → key ks (get_or ts i 0) < key ks (get_or ts (suc i) 0) = λ (i : ℕ) (l : suc i < c).
    let p = s.used i (omega arith) in
    let q = s.used (suc i) l in
    let b = six (get_or ts i 0) (inside i (omega arith)) in
    let d = six (get_or ts (suc i) 0) (inside (suc i) l) in
    let e = earlier_less (designator_at ss ts i) (designator_at ss ts (suc i)) 0 (b.0 ∙ sym d.0) b.1 (rw add-one at (s.rising i (omega arith))) in
    omega (arith, e, key-used ss (get_or ts i 0) p, key-used ss (get_or ts (suc i) 0) q) in
    let up : rises ks 0 (take c ts) ≡ true = rises-said ks 0 ts c s.most (λ (l : 0 < c). key-some ss (get_or ts 0 0) (s.used 0 l)) less in
    let has : (j : ℕ) → 0 < key ks j → member j (take c ts) ≡ true = λ (j : ℕ) (u : 0 < key ks j).
    let w = s.each j (used-key ss j u) in
    let p = s.place j (used-key ss j u) in
    subst (λ (x : ℕ). member x (take c ts) ≡ true) (get_d_taken c ts p w.0 ∙ w.1) (at-member (take c ts) p (omega (arith, long, w.0))) in
    rw (
      le-leb (length ss) 64 s.few,
      eq-eqb (length ts) (length ks) (s.bytes ∙ sym (length_keys ss)),
      front,
      up,
      covers-said ks (take c ts) has (length ks),
      long,
    )
    (blank-said ts c s.blank)

-- as many as are said are listed
pub one-count : (ss : List Slot) (ts : List ℕ) → SixBytes ss → (s : ListOf ss ts) → is_list_of ss ts ≡ true → (i : ℕ) → i < s.count → i < length (listed ts)
one-count ss ts six s h i l =
    let inside : (j : ℕ) → j < s.count → get_or ts j 0 < length ss = λ (j : ℕ) (k : j < s.count). used-inside ss (get_or ts j 0) (s.used j k) in
    let front = front-listed ts s.count s.most (λ (j : ℕ) (k : j < s.count) (e : get_or ts j 0 ≡ 255). omega (arith, inside j k, s.few, e)) s.blank in
    let long = length-take-le s.count ts s.most in
    omega (arith, ap length front, long, l)
