-- One look over the lent slots finds what document 01 asks of the board: whether it is valid, the aircraft's own slot, the lowest free one.
use mathlib.Core.Path.{◌≡◌, refl, sym, ap, ◌∙◌, subst}
use mathlib.Core.Bool.{Bool, true, false, cond, not, ◌&&◌, ◌||◌, and_assoc, and-true}
use mathlib.Core.List.{List, [], ◌∷◌, ◌++◌}
use Prim.Native.Nat.{ℕ, zero, suc, ◌+◌, ◌*◌, ◌≤◌, ◌<◌}
use native.Mathlib.Omega.{arith}
use lib.Dec.{leb, ltb, eqb}
use lib.ListN.{length, get_or, take, drop, length-drop, drop_of_length-le}
use lib.Seq.{take-take, take-suc, drop-cons, drop-drop, length-take-le}
use borrow.Author.Tests.{ne_eqb, le-leb, lt-leb, lt-ltb, ltb-true, eqb-true, not-true, not-false}
use Rattle.std.specs.Prelude.{Option, Some, None}
use Rattle.text.specs.Names.{is_designator}
use Rattle.text.specs.Checks.{is_fine}
use Rattle.text.specs.Parts.{part}
use Rattle.text.specs.Equal.{same_bytes}
use Rattle.text.proofs.Equal.{same-equal, equal-same}
use Rattle.text.proofs.Cases.{by_test, by_lt, by_le}
use Rattle.command.specs.Text.{longest, check_command}
use Rattle.board.specs.Board.{WaitingSlot, is_none, is_free, is_for, any, lowest, is_sound, is_valid}
use Rattle.board.specs.Lent.{board_of, lengths_fit, no_slot}
use Rattle.board.specs.Inner.{Wanted, asked as designator_of, names, is_before, is_used, used_for, none_for, alone_in, sound_at, first_of, with_free, with_used, step_of, scan_from}
use Rattle.board.specs.declared.Slot.{Slot}
use Rattle.board.specs.declared.Findings.{Findings}
use Rattle.board.proofs.WaitingSlots.{never, waiting-any}

-- ---- A slot and its place

-- the place of a slot whose bytes, and what is behind them, are `area`
abbrev pub place_of : Slot → List ℕ → WaitingSlot
place_of x area = record { who = x.designator; text = take x.length (take longest area) }

take_none : (n : ℕ) (l : List ℕ) → 1 ≤ length l → is_none (take n l) ≡ eqb n 0
take_none zero l h = refl
take_none (suc n) [] h = absurd (omega arith)
take_none (suc n) (b ∷ l) h = sym (ne_eqb (suc n) 0 (λ (e : suc n ≡ 0). omega arith))

module _ (x : Slot) (area : List ℕ) (h : longest ≤ length area) where
  some : 1 ≤ length (take longest area)
  some = rw (length-take-le longest area h) (omega arith)

  -- it is free where the slot's length is 0
  pub place-free : is_free (place_of x area) ≡ eqb x.length 0
  unfolding is_free
  place-free = take_none x.length (take longest area) some

  -- and for an aircraft where the slot is
  pub place_for : (d : List ℕ) → is_for d (place_of x area) ≡ used_for d x
  unfolding is_for used_for
  place_for d = rw place-free

-- the area of the slots from i on
module _ (area : List ℕ) (i n : ℕ) (e : length area ≡ longest * (i + suc n)) where
  pub here-long : longest ≤ length (drop (longest * i) area)
  here-long = rw (length-drop (longest * i) area, e) (omega arith)

  pub next-area : drop longest (drop (longest * i) area) ≡ drop (longest * suc i) area
  next-area =
      let k : longest * i + longest ≡ longest * suc i = omega arith in
      drop-drop longest (longest * i) area ∙ ap (λ (j : ℕ). drop j area) k

  pub next-bytes : length area ≡ longest * (suc i + n)
  next-bytes = e ∙ omega arith

-- the board of the slots from i on
abbrev pub board_from : List ℕ → ℕ → List Slot → List WaitingSlot
board_from area i xs = board_of xs (drop (longest * i) area)

-- ---- No slot behind is for an aircraft

not-or : (s t : Bool) → (not s && not t) ≡ not (s || t)
not-or true t = refl
not-or false t = refl

pub none_any : (d area : List ℕ) (i : ℕ) (xs : List Slot) → length area ≡ longest * (i + length xs)
    → none_for d xs ≡ not (any (is_for d) (board_from area i xs))
unfolding none_for any board_of
none_any d area i [] e = refl
none_any d area i (x ∷ xs) e =
    rw (
      next-area area i (length xs) e,
      place_for x (drop (longest * i) area) (here-long area i (length xs) e) d,
      none_any d area (suc i) xs (next-bytes area i (length xs) e),
    )
    (not-or (used_for d x) (any (is_for d) (board_from area (suc i) xs)))

-- ---- Valid

with_valid : (a : Findings) (x : Slot) (fine : Bool) (i : ℕ) (w : Wanted) → (with_used a x fine i w).valid ≡ fine
with_valid a x fine i w =
    by_test (not (is_before a.own i) && names w x.designator)
    (λ (t : (not (is_before a.own i) && names w x.designator) ≡ true). rw t)
    (λ (t : (not (is_before a.own i) && names w x.designator) ≡ false). rw t)

and-false : (t : Bool) → (t && false) ≡ false
and-false true = refl
and-false false = refl

shuffle : (n d f v : Bool) → (n && (d && f) && v) ≡ ((d && (f && n)) && v)
shuffle true true true v = refl
shuffle true true false v = refl
shuffle true false f v = refl
shuffle false true true v = refl
shuffle false true false v = refl
shuffle false false f v = refl

agree : (n d f l v : Bool) → (n && (d && f) && (l && v)) ≡ (l && ((d && (f && n)) && v))
agree n d f true v = shuffle n d f v
agree n d f false v = and-false (n && (d && f))

-- a slot that is longer than its bytes is not sound
long_unsound : (x : Slot) (area : List ℕ) (i : ℕ) → longest < x.length → sound_at x area i ≡ false
unfolding sound_at
long_unsound x area i l = rw (lt-leb x.length longest l, and-false (ltb i 64))

-- a test's two ways
pub cond-true {ℓ} : {A : Type ℓ} (t : Bool) (p q : A) → t ≡ true → cond t p q ≡ p
cond-true t p q e = rw e

-- and the other
pub cond-false {ℓ} : {A : Type ℓ} (t : Bool) (p q : A) → t ≡ false → cond t p q ≡ q
cond-false t p q e = rw e

module _ (area : List ℕ) (w : Wanted) (a : Findings) (x : Slot) (c : Bool) (i : ℕ) where
  abbrev used : Findings
  used = with_used a x (c && sound_at x area i) i w

  pub step_bad : a.valid ≡ false → step_of area w a x c i ≡ a
  unfolding step_of
  step_bad e = cond-false a.valid (cond (is_used x) used (with_free a i)) a e

  pub step-free : a.valid ≡ true → is_used x ≡ false → step_of area w a x c i ≡ with_free a i
  unfolding step_of
  step-free e u = cond-true a.valid (cond (is_used x) used (with_free a i)) a e ∙ cond-false (is_used x) used (with_free a i) u

  step-used : a.valid ≡ true → is_used x ≡ true → step_of area w a x c i ≡ used
  unfolding step_of
  step-used e u = cond-true a.valid (cond (is_used x) used (with_free a i)) a e ∙ cond-true (is_used x) used (with_free a i) u

alone-is : (a : Findings) (x : Slot) (xs : List Slot) → a.valid ≡ true → is_used x ≡ true → alone_in a x xs ≡ none_for x.designator xs
unfolding alone_in
alone-is a x xs e u = cond-true (a.valid && is_used x) (none_for x.designator xs) true (rw (e, u))

-- ---- Apart from the slots before, and apart from the slots behind

same-turned : (a b : List ℕ) → same_bytes a b ≡ same_bytes b a
same-turned a b =
    by_test (same_bytes a b)
    (λ (e : same_bytes a b ≡ true). e ∙ sym (equal-same b a (sym (same-equal a b e))))
    (λ (e : same_bytes a b ≡ false).
    by_test (same_bytes b a)
    (λ (f : same_bytes b a ≡ true). never (equal-same a b (sym (same-equal b a f))) e)
    (λ (f : same_bytes b a ≡ false). e ∙ sym f))

-- every used slot of xs is apart from those before
abbrev clear_of : List Slot → List Slot → Bool
clear_of before [] = true
clear_of before (x ∷ xs) = (not (is_used x) || none_for x.designator before) && clear_of before xs

or-true : (t : Bool) → (t || true) ≡ true
or-true true = refl
or-true false = refl

clear_none : (xs : List Slot) → clear_of [] xs ≡ true
unfolding none_for
clear_none [] = refl
clear_none (x ∷ xs) = rw (or-true (not (is_used x))) (clear_none xs)

none-append : (d : List ℕ) (xs ys : List Slot) → none_for d (xs ++ ys) ≡ (none_for d xs && none_for d ys)
unfolding none_for
none-append d [] ys = refl
none-append d (x ∷ xs) ys = rw (none-append d xs ys) (sym (and_assoc (not (used_for d x)) (none_for d xs) (none_for d ys)))

spread : (u n m c e : Bool) → ((not u || (n && m)) && (c && e)) ≡ (((not u || n) && c) && ((not u || m) && e))
spread true true true true e = refl
spread true true true false e = refl
spread true true false true e = refl
spread true true false false e = refl
spread true false m c e = refl
spread false n m true e = refl
spread false n m false e = refl

-- one slot more before
clear_more : (before : List Slot) (x : Slot) (xs : List Slot) → clear_of (before ++ x ∷ []) xs ≡ (clear_of before xs && clear_of (x ∷ []) xs)
clear_more before x [] = refl
clear_more before x (y ∷ xs) =
    rw (clear_more before x xs, none-append y.designator before (x ∷ []))
    (spread (is_used y) (none_for y.designator before) (none_for y.designator (x ∷ [])) (clear_of before xs) (clear_of (x ∷ []) xs))

turned : (u s : Bool) → (not u || (not s && true)) ≡ not (u && s)
turned true true = refl
turned true false = refl
turned false s = refl

-- those behind a used slot are apart from it when it is apart from them
clear_used : (x : Slot) (xs : List Slot) → is_used x ≡ true → clear_of (x ∷ []) xs ≡ none_for x.designator xs
unfolding none_for used_for
clear_used x [] u = refl
clear_used x (y ∷ xs) u =
    rw (u, clear_used x xs u, same-turned y.designator x.designator)
    (ap (λ (t : Bool). t && none_for x.designator xs) (turned (is_used y) (same_bytes x.designator y.designator)))

clear_free : (x : Slot) (xs : List Slot) → is_used x ≡ false → clear_of (x ∷ []) xs ≡ true
unfolding none_for used_for
clear_free x [] u = refl
clear_free x (y ∷ xs) u = rw (u, or-true (not (is_used y)), clear_free x xs u)

regroup : (n s c b v : Bool) → ((n && s) && ((c && b) && v)) ≡ ((n && c) && ((b && s) && v))
regroup true true true b v = rw (and-true b)
regroup true true false b v = refl
regroup true false true true v = refl
regroup true false true false v = refl
regroup true false false b v = refl
regroup false s c b v = refl

module _ (area : List ℕ) (w : Wanted) (ys : List Slot) where
  -- where the board is not valid already, it stays so
  pub stays_bad : (a : Findings) (i : ℕ) (xs : List Slot) → a.valid ≡ false → scan_from area w ys a i xs ≡ a
  unfolding scan_from
  stays_bad a i [] e = refl
  stays_bad a i (x ∷ xs) e =
      ap (λ (z : Findings). scan_from area w ys z (suc i) xs) (step_bad area w a x (alone_in a x (take i ys)) i e) ∙ stays_bad a (suc i) xs e

  -- designator and text of a used slot, against the place's own soundness
  module _ (x : Slot) (xs : List Slot) (i : ℕ) (e : length area ≡ longest * (i + suc (length xs))) (few : i + suc (length xs) ≤ 64) (u : is_used x ≡ true) (fit : x.length ≤ longest) where
    abbrev here : List ℕ
    here = drop (longest * i) area

    text-is : take x.length (take longest here) ≡ part (longest * i) x.length area
    text-is = take-take x.length longest (drop (longest * i) area) fit

    sound-is : sound_at x area i ≡ (is_designator x.designator && is_fine (check_command (part (longest * i) x.length area)))
    unfolding sound_at
    sound-is =
        let l : longest * i + x.length ≤ length area = rw e (omega arith) in
        rw (lt-ltb i 64 (omega arith), le-leb x.length longest fit, le-leb (longest * i + x.length) (length area) l)

    used_sound : is_sound (place_of x here) (board_from area (suc i) xs)
        ≡ (is_designator x.designator && (is_fine (check_command (part (longest * i) x.length area)) && none_for x.designator xs))
    used_sound =
        rw (
          place-free x (drop (longest * i) area) (here-long area i (length xs) e),
          not-true (eqb x.length 0) u,
          text-is,
          waiting-any x.designator (board_from area (suc i) xs),
          ← none_any x.designator area (suc i) xs (next-bytes area i (length xs) e),
        )

  -- what the look says of validity, from slot i on
  module _ (a : Findings) (i : ℕ) (x : Slot) (xs : List Slot) (few : i + suc (length xs) ≤ 64) (e : length area ≡ longest * (i + suc (length xs))) where
    abbrev rest : List WaitingSlot
    rest = board_from area (suc i) xs

    abbrev asked : Bool
    asked = leb x.length longest && lengths_fit xs && (is_sound (place_of x (drop (longest * i) area)) rest && is_valid rest)

    valid-used : is_used x ≡ true → (none_for x.designator xs && sound_at x area i && (lengths_fit xs && is_valid rest)) ≡ asked
    valid-used u =
        by_le x.length longest
        (λ (l : x.length ≤ longest).
        rw (sound-is x xs i e few u l, used_sound x xs i e few u l, le-leb x.length longest l)
        (agree (none_for x.designator xs) (is_designator x.designator) (is_fine (check_command (part (longest * i) x.length area))) (lengths_fit xs) (is_valid rest)))
        (λ (l : longest < x.length).
        let s : sound_at x area i ≡ false = long_unsound x area i l in
        rw (s, and-false (none_for x.designator xs), lt-leb x.length longest l))

    valid-free : is_used x ≡ false → (lengths_fit xs && is_valid rest) ≡ asked
    valid-free u =
        let z : eqb x.length 0 ≡ true = not-false (eqb x.length 0) u in
        let n : x.length ≡ 0 = eqb-true x.length 0 z in
        rw (place-free x (drop (longest * i) area) (here-long area i (length xs) e), z, le-leb x.length longest (rw n (omega arith)))

  -- the slots before the next one
  module _ (i : ℕ) (x : Slot) (xs : List Slot) (left : drop i ys ≡ x ∷ xs) where
    inside : i < length ys
    inside = by_lt i (length ys) (λ (l : i < length ys). l) (λ (l : length ys ≤ i). let z : x ∷ xs ≡ [] = sym left ∙ drop_of_length-le ys {i = i} l in let n : suc (length xs) ≡ 0 = ap length z in absurd (omega arith))

    parted : get_or ys i no_slot ∷ drop (suc i) ys ≡ x ∷ xs
    parted = sym (drop-cons ys i no_slot inside) ∙ left

    before-next : take (suc i) ys ≡ take i ys ++ x ∷ []
    before-next = take-suc ys i no_slot inside ∙ ap (λ (l : List Slot). take i ys ++ take 1 l) parted

    left-next : drop (suc i) ys ≡ xs
    left-next = ap (λ (l : List Slot). drop 1 l) parted

  scan_valid : (a : Findings) (i : ℕ) (xs : List Slot) → drop i ys ≡ xs → i + length xs ≤ 64 → length area ≡ longest * (i + length xs)
      → (scan_from area w ys a i xs).valid ≡ (a.valid && (clear_of (take i ys) xs && (lengths_fit xs && is_valid (board_from area i xs))))
  unfolding scan_from lengths_fit is_valid board_of
  scan_valid a i [] left few e = sym (and-true a.valid)
  scan_valid a i (x ∷ xs) left few e =
      let few' : suc i + length xs ≤ 64 = omega arith in
      let e' = next-bytes area i (length xs) e in
      let c = alone_in a x (take i ys) in
      let more = ap (λ (l : List Slot). clear_of l xs) (before-next i x xs left) ∙ clear_more (take i ys) x xs in
      let later = left-next i x xs left in
      rw (next-area area i (length xs) e)
      (by_test a.valid
      (λ (t : a.valid ≡ true).
      by_test (is_used x)
      (λ (u : is_used x ≡ true).
      let z : Findings = with_used a x (c && sound_at x area i) i w in
      ap (λ (y : Findings). (scan_from area w ys y (suc i) xs).valid) (step-used area w a x c i t u)
      ∙ scan_valid z (suc i) xs later few' e'
      ∙ rw (
        with_valid a x (c && sound_at x area i) i w,
        alone-is a x (take i ys) t u,
        more,
        clear_used x xs u,
        ← valid-used a i x xs few e u,
        t,
        u,
      )
      (regroup (none_for x.designator (take i ys)) (sound_at x area i) (clear_of (take i ys) xs) (none_for x.designator xs) (lengths_fit xs && is_valid (board_from area (suc i) xs))))
      (λ (u : is_used x ≡ false).
      ap (λ (y : Findings). (scan_from area w ys y (suc i) xs).valid) (step-free area w a x c i t u)
      ∙ scan_valid (with_free a i) (suc i) xs later few' e'
      ∙ rw (more, clear_free x xs u, and-true (clear_of (take i ys) xs), ← valid-free a i x xs few e u, t, u)))
      (λ (t : a.valid ≡ false).
      ap (λ (y : Findings). (scan_from area w ys y (suc i) xs).valid) (step_bad area w a x c i t)
      ∙ ap (λ (y : Findings). y.valid) (stays_bad a (suc i) xs t)
      ∙ t
      ∙ rw t))

-- of all slots
pub valid-all : (area : List ℕ) (w : Wanted) (xs : List Slot) (a : Findings) → 0 + length xs ≤ 64 → length area ≡ longest * (0 + length xs)
    → (scan_from area w xs a 0 xs).valid ≡ (a.valid && (lengths_fit xs && is_valid (board_from area 0 xs)))
valid-all area w xs a few e = scan_valid area w xs a 0 xs refl few e ∙ rw (clear_none xs)

-- ---- The aircraft's own slot, the lowest free one

-- what a used slot leaves where it is the aircraft's own, and where it is not
abbrev as_mine : Findings → Slot → Bool → ℕ → Findings
as_mine a x fine i = record { valid = fine; length = x.length; own = Some i; free = a.free }

abbrev as_other : Findings → Bool → Findings
as_other a fine = record { valid = fine; length = a.length; own = a.own; free = a.free }

module _ (a : Findings) (x : Slot) (fine : Bool) (i : ℕ) (w : Wanted) where
  abbrev mine : Bool
  mine = not (is_before a.own i) && names w x.designator

  used-found : is_before a.own i ≡ true → with_used a x fine i w ≡ as_other a fine
  used-found t = cond-false mine (as_mine a x fine i) (as_other a fine) (rw t)

  used-other : names w x.designator ≡ false → with_used a x fine i w ≡ as_other a fine
  used-other s = cond-false mine (as_mine a x fine i) (as_other a fine) (rw s (and-false (not (is_before a.own i))))

  used-mine : is_before a.own i ≡ false → names w x.designator ≡ true → with_used a x fine i w ≡ as_mine a x fine i
  used-mine t s = cond-true mine (as_mine a x fine i) (as_other a fine) (rw (t, s))

  -- whatever it leaves alike
  used_keeps {ℓ} : {A : Type ℓ} (f : Findings → A) → f (as_mine a x fine i) ≡ f (as_other a fine) → f (with_used a x fine i w) ≡ f (as_other a fine)
  used_keeps f e =
      by_test mine
      (λ (t : mine ≡ true). ap f (cond-true mine (as_mine a x fine i) (as_other a fine) t) ∙ e)
      (λ (t : mine ≡ false). ap f (cond-false mine (as_mine a x fine i) (as_other a fine) t))

-- a slot found before slot i lies before the next one too
stays_before : (found : Option ℕ) (i : ℕ) → is_before found i ≡ true → is_before found (suc i) ≡ true
stays_before (Some j) i h = let l : j < i = ltb-true j i h in lt-ltb j (suc i) (omega arith)
stays_before None i h = never h refl

-- from place i on, the first that passes a test, if one does
abbrev pub first_from : ℕ → (WaitingSlot → Bool) → List WaitingSlot → Option ℕ
first_from i test b = cond (any test b) (Some (i + lowest test b)) None

module _ (area : List ℕ) (w : Wanted) (ys : List Slot) where
  abbrev d : List ℕ
  d = designator_of w

  -- one slot, in its three ways
  by_step {ℓ} : (a : Findings) (x : Slot) (c : Bool) (i : ℕ) (P : Findings → Type ℓ)
      → P a → P (with_free a i) → P (with_used a x (c && sound_at x area i) i w) → P (step_of area w a x c i)
  by_step a x c i P bad free used =
      by_test a.valid
      (λ (t : a.valid ≡ true).
      by_test (is_used x)
      (λ (u : is_used x ≡ true). subst P (sym (step-used area w a x c i t u)) used)
      (λ (u : is_used x ≡ false). subst P (sym (step-free area w a x c i t u)) free))
      (λ (t : a.valid ≡ false). subst P (sym (step_bad area w a x c i t)) bad)

  -- a slot found stays the one
  own-found : (a : Findings) (i : ℕ) (xs : List Slot) → is_before a.own i ≡ true
      → ((scan_from area w ys a i xs).own ≡ a.own) × ((scan_from area w ys a i xs).length ≡ a.length)
  unfolding scan_from
  own-found a i [] l = (refl, refl)
  own-found a i (x ∷ xs) l =
      let c = alone_in a x (take i ys) in
      let f = c && sound_at x area i in
      by_step a x c i (λ z. ((scan_from area w ys z (suc i) xs).own ≡ a.own) × ((scan_from area w ys z (suc i) xs).length ≡ a.length))
      (own-found a (suc i) xs (stays_before a.own i l))
      (own-found (with_free a i) (suc i) xs (stays_before a.own i l))
      (subst (λ z. ((scan_from area w ys z (suc i) xs).own ≡ a.own) × ((scan_from area w ys z (suc i) xs).length ≡ a.length))
      (sym (used-found a x f i w l)) (own-found (as_other a f) (suc i) xs (stays_before a.own i l)))

  free-found : (a : Findings) (i : ℕ) (xs : List Slot) → is_before a.free i ≡ true → (scan_from area w ys a i xs).free ≡ a.free
  unfolding scan_from
  free-found a i [] l = refl
  free-found a i (x ∷ xs) l =
      let c = alone_in a x (take i ys) in
      let f = c && sound_at x area i in
      let n = stays_before a.free i l in
      let z : first_of a.free i ≡ a.free = cond-true (is_before a.free i) a.free (Some i) l in
      by_step a x c i (λ y. (scan_from area w ys y (suc i) xs).free ≡ a.free)
      (free-found a (suc i) xs n)
      (free-found (with_free a i) (suc i) xs (rw z n) ∙ z)
      (free-found (with_used a x f i w) (suc i) xs (ap (λ (k : Option ℕ). is_before k (suc i)) (used_keeps a x f i w (λ y. y.free) refl) ∙ n)
      ∙ used_keeps a x f i w (λ y. y.free) refl)

  -- what ends valid was so
  valid-back : (a : Findings) (i : ℕ) (xs : List Slot) → (scan_from area w ys a i xs).valid ≡ true → a.valid ≡ true
  valid-back a i xs e =
      by_test a.valid (λ (t : a.valid ≡ true). t)
      (λ (t : a.valid ≡ false). never (sym (ap (λ z. z.valid) (stays_bad area w ys a i xs t)) ∙ e) t)

  -- none found before slot i: the look finds the lowest from there on
  module _ (i : ℕ) (x : Slot) (xs : List Slot) (e : length area ≡ longest * (i + suc (length xs))) where
    abbrev place : WaitingSlot
    place = place_of x (drop (longest * i) area)

    mine_for : is_used x ≡ true → same_bytes d x.designator ≡ true → is_for d place ≡ true
    unfolding used_for
    mine_for u s = place_for x (drop (longest * i) area) (here-long area i (length xs) e) d ∙ rw (u, s)

    other_for : same_bytes d x.designator ≡ false → is_for d place ≡ false
    unfolding used_for
    other_for s = place_for x (drop (longest * i) area) (here-long area i (length xs) e) d ∙ rw s (and-false (is_used x))

    free_for_none : is_used x ≡ false → is_for d place ≡ false
    unfolding used_for
    free_for_none u = place_for x (drop (longest * i) area) (here-long area i (length xs) e) d ∙ rw u

    free-place : is_used x ≡ false → is_free place ≡ true
    free-place u = place-free x (drop (longest * i) area) (here-long area i (length xs) e) ∙ not-false (eqb x.length 0) u

    used-place : is_used x ≡ true → is_free place ≡ false
    used-place u = place-free x (drop (longest * i) area) (here-long area i (length xs) e) ∙ not-true (eqb x.length 0) u

  -- the aircraft's own slot, and how long its text is
  pub record Owns (v : Findings) (i : ℕ) (xs : List Slot) : Type 0 where
    pub own : v.own ≡ first_from i (is_for d) (board_from area i xs)
    pub length : any (is_for d) (board_from area i xs) ≡ true → v.length ≡ (get_or xs (lowest (is_for d) (board_from area i xs)) no_slot).length

  own-none : (a : Findings) (i : ℕ) → a.own ≡ None → Owns a i []
  unfolding board_of any
  own-none a i o = record { own = o; length = λ z. never z refl }

  free-none : (a : Findings) (i : ℕ) → a.free ≡ None → a.free ≡ first_from i is_free (board_from area i [])
  unfolding board_of any
  free-none a i o = o

  module _ (i : ℕ) (x : Slot) (xs : List Slot) (e : length area ≡ longest * (i + suc (length xs))) (test : WaitingSlot → Bool) where
    abbrev all : List WaitingSlot
    all = board_from area i (x ∷ xs)

    abbrev behind : List WaitingSlot
    behind = board_from area (suc i) xs

    board-cons : all ≡ place i x xs e ∷ behind
    unfolding board_of
    board-cons = rw (next-area area i (length xs) e)

    lowest-here : test (place i x xs e) ≡ true → lowest test all ≡ 0
    unfolding lowest
    lowest-here h = ap (lowest test) board-cons ∙ rw h

    lowest-later : test (place i x xs e) ≡ false → lowest test all ≡ suc (lowest test behind)
    unfolding lowest
    lowest-later h = ap (lowest test) board-cons ∙ rw h

    any-here : test (place i x xs e) ≡ true → any test all ≡ true
    unfolding any
    any-here h = ap (any test) board-cons ∙ rw h

    any-later : test (place i x xs e) ≡ false → any test all ≡ any test behind
    unfolding any
    any-later h = ap (any test) board-cons ∙ rw h

    first-here : test (place i x xs e) ≡ true → first_from i test all ≡ Some i
    first-here h =
        let z : i + lowest test all ≡ i = omega (arith, lowest-here h) in
        cond-true (any test all) (Some (i + lowest test all)) None (any-here h) ∙ ap Some z

    first-later : test (place i x xs e) ≡ false → first_from i test all ≡ first_from (suc i) test behind
    first-later h =
        let z : i + lowest test all ≡ suc i + lowest test behind = omega (arith, lowest-later h) in
        ap (λ (k : ℕ). cond (any test all) (Some k) None) z ∙ ap (λ (t : Bool). cond t (Some (suc i + lowest test behind)) None) (any-later h)

  own-here : (v : Findings) (i : ℕ) (x : Slot) (xs : List Slot) (e : length area ≡ longest * (i + suc (length xs)))
      → is_for d (place i x xs e) ≡ true → v.own ≡ Some i → v.length ≡ x.length → Owns v i (x ∷ xs)
  own-here v i x xs e h o n =
      let l = lowest-here i x xs e (is_for d) h in
      record { own = o ∙ sym (first-here i x xs e (is_for d) h); length = λ z. n ∙ sym (ap (λ (k : ℕ). (get_or (x ∷ xs) k no_slot).length) l) }

  own-later : (v : Findings) (i : ℕ) (x : Slot) (xs : List Slot) (e : length area ≡ longest * (i + suc (length xs)))
      → is_for d (place i x xs e) ≡ false → Owns v (suc i) xs → Owns v i (x ∷ xs)
  own-later v i x xs e h o =
      let l = lowest-later i x xs e (is_for d) h in
      record {
        own = o.own ∙ sym (first-later i x xs e (is_for d) h);
        length = λ z. o.length (sym (any-later i x xs e (is_for d) h) ∙ z) ∙ sym (ap (λ (k : ℕ). (get_or (x ∷ xs) k no_slot).length) l);
      }

  pub scan_own : (a : Findings) (i : ℕ) (xs : List Slot) → length area ≡ longest * (i + length xs) → (scan_from area w ys a i xs).valid ≡ true
      → a.own ≡ None → Owns (scan_from area w ys a i xs) i xs
  unfolding scan_from
  scan_own a i [] e v o = own-none a i o
  scan_own a i (x ∷ xs) e v o =
      let c = alone_in a x (take i ys) in
      let f = c && sound_at x area i in
      let t = valid-back a i (x ∷ xs) v in
      let e' = next-bytes area i (length xs) e in
      let past : is_before a.own i ≡ false = ap (λ (k : Option ℕ). is_before k i) o in
      by_test (is_used x)
      (λ (u : is_used x ≡ true).
      let s₀ = step-used area w a x c i t u in
      by_test (same_bytes d x.designator)
      (λ (s : same_bytes d x.designator ≡ true).
      let z : step_of area w a x c i ≡ as_mine a x f i = s₀ ∙ used-mine a x f i w past s in
      let k = own-found (as_mine a x f i) (suc i) xs (lt-ltb i (suc i) (omega arith)) in
      subst (λ (y : Findings). Owns (scan_from area w ys y (suc i) xs) i (x ∷ xs)) (sym z)
      (own-here (scan_from area w ys (as_mine a x f i) (suc i) xs) i x xs e (mine_for i x xs e u s) k.0 k.1))
      (λ (s : same_bytes d x.designator ≡ false).
      let z : step_of area w a x c i ≡ as_other a f = s₀ ∙ used-other a x f i w s in
      let n : (scan_from area w ys (as_other a f) (suc i) xs).valid ≡ true = subst (λ (y : Findings). (scan_from area w ys y (suc i) xs).valid ≡ true) z v in
      subst (λ (y : Findings). Owns (scan_from area w ys y (suc i) xs) i (x ∷ xs)) (sym z)
      (own-later (scan_from area w ys (as_other a f) (suc i) xs) i x xs e (other_for i x xs e s) (scan_own (as_other a f) (suc i) xs e' n o))))
      (λ (u : is_used x ≡ false).
      let z : step_of area w a x c i ≡ with_free a i = step-free area w a x c i t u in
      let n : (scan_from area w ys (with_free a i) (suc i) xs).valid ≡ true = subst (λ (y : Findings). (scan_from area w ys y (suc i) xs).valid ≡ true) z v in
      subst (λ (y : Findings). Owns (scan_from area w ys y (suc i) xs) i (x ∷ xs)) (sym z)
      (own-later (scan_from area w ys (with_free a i) (suc i) xs) i x xs e (free_for_none i x xs e u) (scan_own (with_free a i) (suc i) xs e' n o)))

  -- and the lowest free one
  pub scan_free : (a : Findings) (i : ℕ) (xs : List Slot) → length area ≡ longest * (i + length xs) → (scan_from area w ys a i xs).valid ≡ true
      → a.free ≡ None → (scan_from area w ys a i xs).free ≡ first_from i is_free (board_from area i xs)
  unfolding scan_from
  scan_free a i [] e v o = free-none a i o
  scan_free a i (x ∷ xs) e v o =
      let c = alone_in a x (take i ys) in
      let f = c && sound_at x area i in
      let t = valid-back a i (x ∷ xs) v in
      let e' = next-bytes area i (length xs) e in
      by_test (is_used x)
      (λ (u : is_used x ≡ true).
      let y : Findings = with_used a x f i w in
      let z : step_of area w a x c i ≡ y = step-used area w a x c i t u in
      let n : (scan_from area w ys y (suc i) xs).valid ≡ true = subst (λ (q : Findings). (scan_from area w ys q (suc i) xs).valid ≡ true) z v in
      let k : y.free ≡ a.free = used_keeps a x f i w (λ (q : Findings). q.free) refl in
      let r = scan_free y (suc i) xs e' n (k ∙ o) in
      ap (λ (q : Findings). (scan_from area w ys q (suc i) xs).free) z ∙ r ∙ sym (first-later i x xs e is_free (used-place i x xs e u)))
      (λ (u : is_used x ≡ false).
      let z : step_of area w a x c i ≡ with_free a i = step-free area w a x c i t u in
      let k : first_of a.free i ≡ Some i = cond-false (is_before a.free i) a.free (Some i) (ap (λ (j : Option ℕ). is_before j i) o) in
      let r = free-found (with_free a i) (suc i) xs (ap (λ (j : Option ℕ). is_before j (suc i)) k ∙ lt-ltb i (suc i) (omega arith)) in
      ap (λ (q : Findings). (scan_from area w ys q (suc i) xs).free) z ∙ r ∙ k ∙ sym (first-here i x xs e is_free (free-place i x xs e u)))
