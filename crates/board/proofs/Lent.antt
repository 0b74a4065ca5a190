-- What is lent and the board that it stands for: a place read, a text written, a place freed, and the shape kept.
use mathlib.Core.Path.{◌≡◌, refl, sym, ap, ap₂, ◌∙◌}
use mathlib.Core.Bool.{Bool, true, not, ◌&&◌}
use mathlib.Core.List.{List, [], ◌∷◌, ◌++◌, append_assoc}
use Prim.Native.Nat.{ℕ, zero, suc, ◌+◌, ◌-◌, ◌*◌, ◌≤◌, ◌<◌}
use native.Mathlib.Omega.{arith}
use native.Mathlib.Nat.{zero-add, add_assoc, mul-le-mul_left}
use lib.Dec.{leb, eqb}
use lib.ListN.{length, take, drop, get_or, set, length-set, length-take, length-drop}
use lib.Seq.{drop_at, take-append-le, take-append_seam, take-take, take-add, drop-drop, length-take-le, drop-append-add}
use borrow.Author.Tests.{le-leb, leb-true, eqb-true, eq-eqb, ne_eqb}
use Rattle.text.specs.Equal.{same_bytes}
use Rattle.text.specs.Over.{over}
use Rattle.text.proofs.Cases.{both_left, both_right}
use Rattle.text.proofs.Over.{length_over}
use Rattle.command.specs.Text.{longest}
use Rattle.board.specs.Board.{WaitingSlot, empty_slot, is_none, is_free, is_for, Move, Stay, Put, Free, on_board}
use Rattle.board.specs.Lent.{board_of, lengths_fit, is_shaped, no_slot, on_slots, on_area}
use Rattle.board.specs.declared.Slot.{Slot}
use Rattle.board.proofs.WaitingSlots.{both}

-- ---- A text written at a place, seen from before it and from behind it

-- before it nothing changes
pub take-over : (d : List ℕ) (at n : ℕ) (t : List ℕ) → n ≤ at → at ≤ length d → take n (over d at t) ≡ take n d
unfolding over
take-over d at n t h l =
    rw (
      append_assoc (take at d) t (drop (at + length t) d),
      take-append-le n (take at d) (t ++ drop (at + length t) d) (simp length-take (omega arith)),
    )
    (take-take n at d h)

-- what begins before it has it as much later
pub drop-over : (d : List ℕ) (n m : ℕ) (t : List ℕ) → n ≤ length d → drop n (over d (n + m) t) ≡ over (drop n d) m t
unfolding over
drop-over d n m t l =
    rw (
      take-add n m d,
      append_assoc (take n d ++ take m (drop n d)) t (drop (n + m + length t) d),
      append_assoc (take n d) (take m (drop n d)) (t ++ drop (n + m + length t) d),
      drop_at (take n d) (take m (drop n d) ++ (t ++ drop (n + m + length t) d)) n (length-take-le n d l),
      add_assoc,
      ← drop-drop (m + length t) n d,
      append_assoc (take m (drop n d)) t (drop (m + length t) (drop n d)),
    )

take-here : (d : List ℕ) (n : ℕ) (t : List ℕ) → length t ≤ n → take (length t) (take n (over d 0 t)) ≡ t
unfolding over
take-here d n t h =
    rw (take-take (length t) n (t ++ drop (0 + length t) d) h) (take-append_seam t (drop (0 + length t) d))

drop_here : (d : List ℕ) (n : ℕ) (t : List ℕ) → length t ≤ n → drop n (over d 0 t) ≡ drop n d
unfolding over
drop_here d n t h =
    let e : n ≡ length t + (n - length t) = omega arith in
    ap (λ (k : ℕ). drop k (t ++ drop (0 + length t) d)) e
    ∙ drop-append-add t (drop (0 + length t) d) (n - length t)
    ∙ rw zero-add (drop-drop (n - length t) (length t) d)
    ∙ ap (λ (k : ℕ). drop k d) (sym e)

-- ---- The shape

-- at most 64 slots, an area of exactly the longest for each, no length above it
pub record Shape (xs : List Slot) (area : List ℕ) : Type 0 where
  pub few : length xs ≤ 64
  pub bytes : length area ≡ longest * length xs
  pub fit : lengths_fit xs ≡ true

-- which the test says
pub shape : (xs : List Slot) (area : List ℕ) → is_shaped xs area ≡ true → Shape xs area
unfolding is_shaped
shape xs area e =
    let few : Bool = leb (length xs) 64 in
    let bytes : Bool = eqb (length area) (longest * length xs) in
    let rest = both_right few (bytes && lengths_fit xs) e in
    record {
      few = leb-true (length xs) 64 (both_left few (bytes && lengths_fit xs) e);
      bytes = eqb-true (length area) (longest * length xs) (both_left bytes (lengths_fit xs) rest);
      fit = both_right bytes (lengths_fit xs) rest;
    }

-- and nothing else
pub shaped : (xs : List Slot) (area : List ℕ) → Shape xs area → is_shaped xs area ≡ true
unfolding is_shaped
shaped xs area h =
    rw (le-leb (length xs) 64 h.few, eq-eqb (length area) (longest * length xs) h.bytes) h.fit

fit-first : (x : Slot) (xs : List Slot) → lengths_fit (x ∷ xs) ≡ true → x.length ≤ longest
unfolding lengths_fit
fit-first x xs e = leb-true x.length longest (both_left (leb x.length longest) (lengths_fit xs) e)

fit-rest : (x : Slot) (xs : List Slot) → lengths_fit (x ∷ xs) ≡ true → lengths_fit xs ≡ true
unfolding lengths_fit
fit-rest x xs e = both_right (leb x.length longest) (lengths_fit xs) e

-- ---- A place read

-- one place a slot
pub length-board : (xs : List Slot) (area : List ℕ) → length (board_of xs area) ≡ length xs
unfolding board_of
length-board [] area = refl
length-board (x ∷ xs) area = ap suc (length-board xs (drop longest area))

-- place i: the designator of slot i, and as many of its own bytes as wait
pub slot-at : (xs : List Slot) (area : List ℕ) (i : ℕ) → i < length xs
    → get_or (board_of xs area) i empty_slot
    ≡ record {
      who = (get_or xs i no_slot).designator;
      text = take (get_or xs i no_slot).length (take longest (drop (longest * i) area));
    }
unfolding board_of
slot-at [] area i l = absurd (omega arith)
slot-at (x ∷ xs) area zero l = refl
slot-at (x ∷ xs) area (suc i) l =
    let e : longest + longest * i ≡ longest * suc i = omega arith in
    slot-at xs (drop longest area) i (omega arith) ∙ rw (drop-drop (longest * i) longest area, e)

none-zero : (t : List ℕ) (n : ℕ) → length t ≡ n → is_none t ≡ eqb n 0
none-zero [] n e = rw (← e)
none-zero (b ∷ t) n e = sym (ne_eqb n 0 (λ (z : n ≡ 0). omega arith))

-- the first place is free exactly where its length is 0
free-first : (n : ℕ) (area : List ℕ) → n ≤ longest → longest ≤ length area → is_none (take n (take longest area)) ≡ eqb n 0
free-first n area h l =
    none-zero (take n (take longest area)) n (length-take-le n (take longest area) (rw (length-take-le longest area l) h))

-- and so is every place
pub free-at : (xs : List Slot) (area : List ℕ) (i : ℕ) → length area ≡ longest * length xs → lengths_fit xs ≡ true → i < length xs
    → is_free (get_or (board_of xs area) i empty_slot) ≡ eqb (get_or xs i no_slot).length 0
unfolding board_of is_free
free-at [] area i e f l = absurd (omega arith)
free-at (x ∷ xs) area zero e f l =
    let k : length area ≡ longest + longest * length xs = e ∙ omega arith in
    free-first x.length area (fit-first x xs f) (omega arith)
free-at (x ∷ xs) area (suc i) e f l =
    let k : length area ≡ longest + longest * length xs = e ∙ omega arith in
    free-at xs (drop longest area) i (length-drop longest area ∙ omega arith) (fit-rest x xs f) (omega arith)

-- no slot's length is above the longest
pub fit_at : (xs : List Slot) (i : ℕ) → lengths_fit xs ≡ true → (get_or xs i no_slot).length ≤ longest
fit_at [] i f = omega arith
fit_at (x ∷ xs) zero f = fit-first x xs f
fit_at (x ∷ xs) (suc i) f = fit_at xs i (fit-rest x xs f)

-- the text of place i stands in the area behind i of the longest
pub text_at : (xs : List Slot) (area : List ℕ) (i : ℕ) → lengths_fit xs ≡ true → i < length xs
    → (get_or (board_of xs area) i empty_slot).text ≡ take (get_or xs i no_slot).length (drop (longest * i) area)
text_at xs area i f l =
    ap (λ (p : WaitingSlot). p.text) (slot-at xs area i l)
    ∙ take-take (get_or xs i no_slot).length longest (drop (longest * i) area) (fit_at xs i f)

-- place i is for an aircraft where its length isn't 0 and its designator is that
pub for_at : (d : List ℕ) (xs : List Slot) (area : List ℕ) (i : ℕ) → length area ≡ longest * length xs → lengths_fit xs ≡ true
    → i < length xs
    → is_for d (get_or (board_of xs area) i empty_slot)
    ≡ (not (eqb (get_or xs i no_slot).length 0) && same_bytes d (get_or xs i no_slot).designator)
unfolding is_for
for_at d xs area i e f l = rw (free-at xs area i e f l, slot-at xs area i l)

-- ---- A text written, a place freed

-- a text written into its slot: that place of the board, and no other
pub slot_put : (xs : List Slot) (area : List ℕ) (i : ℕ) (d t : List ℕ) → length area ≡ longest * length xs → i < length xs
    → length t ≤ longest
    → board_of (set xs i (record { designator = d; length = length t })) (over area (longest * i) t)
    ≡ set (board_of xs area) i (record { who = d; text = t })
unfolding board_of
slot_put [] area i d t e l h = absurd (omega arith)
slot_put (x ∷ xs) area zero d t e l h = rw (take-here area longest t h, drop_here area longest t h)
slot_put (x ∷ xs) area (suc i) d t e l h =
    let k : longest * suc i ≡ longest + longest * i = omega arith in
    let f : length area ≡ longest + longest * length xs = e ∙ omega arith in
    let j : i ≤ length xs = omega arith in
    let m : longest + longest * i ≤ length area = omega (arith, mul-le-mul_left longest j) in
    rw (
      k,
      take-over area (longest + longest * i) longest t (omega arith) m,
      drop-over area longest (longest * i) t (omega arith),
    )
    (ap₂ ◌∷◌ refl (slot_put xs (drop longest area) i d t (length-drop longest area ∙ omega arith) (omega arith) h))

-- a slot freed
pub slot-freed : (xs : List Slot) (area : List ℕ) (i : ℕ) (d : List ℕ)
    → board_of (set xs i (record { designator = d; length = 0 })) area ≡ set (board_of xs area) i (record { who = d; text = [] })
unfolding board_of
slot-freed [] area i d = refl
slot-freed (x ∷ xs) area zero d = refl
slot-freed (x ∷ xs) area (suc i) d = ap₂ ◌∷◌ refl (slot-freed xs (drop longest area) i d)

-- ---- A move on what is lent

-- it names one of k slots and a text that a slot holds
abbrev pub Sits : ℕ → Move → Type 0
Sits k (Stay code place) = Unit
Sits k (Put i d t) = (i < k) × (length t ≤ longest)
Sits k (Free i t) = i < k

-- a move on what is lent is that move on the board
pub moved : (m : Move) (xs : List Slot) (area : List ℕ) → length area ≡ longest * length xs → Sits (length xs) m
    → board_of (on_slots m xs) (on_area m area) ≡ on_board m (board_of xs area)
moved (Stay code place) xs area e s = refl
moved (Put i d t) xs area e s = slot_put xs area i d t e s.0 s.1
moved (Free i t) xs area e s = rw (slot-at xs area i s) (slot-freed xs area i (get_or xs i no_slot).designator)

fit-set : (xs : List Slot) (i : ℕ) (x : Slot) → lengths_fit xs ≡ true → x.length ≤ longest → lengths_fit (set xs i x) ≡ true
unfolding lengths_fit
fit-set [] i x e h = refl
fit-set (y ∷ xs) zero x e h = both (leb x.length longest) (lengths_fit xs) (le-leb x.length longest h) (fit-rest y xs e)
fit-set (y ∷ xs) (suc i) x e h =
    both (leb y.length longest) (lengths_fit (set xs i x)) (both_left (leb y.length longest) (lengths_fit xs) e)
    (fit-set xs i x (fit-rest y xs e) h)

-- the shape stays
pub shape-kept : (m : Move) (xs : List Slot) (area : List ℕ) → Shape xs area → Sits (length xs) m
    → Shape (on_slots m xs) (on_area m area)
shape-kept (Stay code place) xs area h s = h
shape-kept (Put i d t) xs area h s =
    let x : Slot = record { designator = d; length = length t } in
    let k : length (set xs i x) ≡ length xs = length-set xs i x in
    let j : suc i ≤ length xs = s.0 in
    let q : longest * suc i ≡ longest * i + longest = omega arith in
    let m : longest * suc i ≤ longest * length xs = mul-le-mul_left longest j in
    let r : longest * i + length t ≤ length area = omega (arith, s.1, h.bytes) in
    record {
      few = rw k h.few;
      bytes = length_over area (longest * i) t r ∙ h.bytes ∙ ap (λ (n : ℕ). longest * n) (sym k);
      fit = fit-set xs i x h.fit s.1;
    }
shape-kept (Free i t) xs area h s =
    let x : Slot = record { designator = (get_or xs i no_slot).designator; length = 0 } in
    let k : length (set xs i x) ≡ length xs = length-set xs i x in
    record {
      few = rw k h.few;
      bytes = h.bytes ∙ ap (λ (n : ℕ). longest * n) (sym k);
      fit = fit-set xs i x h.fit (omega arith);
    }
