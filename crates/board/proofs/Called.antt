-- What is done by what a look over the lent slots found is what document 01 says of the board.
use mathlib.Core.Path.{◌≡◌, refl, sym, ap, ◌∙◌, subst}
use mathlib.Core.Bool.{Bool, true, false, cond, ◌&&◌}
use mathlib.Core.List.{List}
use Prim.Native.Nat.{ℕ, ◌+◌, ◌*◌, ◌≤◌, ◌<◌}
use native.Mathlib.Omega.{arith}
use native.Mathlib.Nat.{zero-add}
use lib.Dec.{leb, eqb}
use lib.ListN.{length, get_or, drop, length-drop}
use lib.Seq.{length-take-le}
use borrow.Author.Tests.{le-leb, lt-ltb, leb-true, eqb-true}
use Rattle.std.specs.Prelude.{Some, None, is_some, Ok, Err}
use Rattle.text.specs.Names.{is_designator}
use Rattle.text.proofs.Cases.{by_test, both_left, both_right}
use Rattle.text.specs.declared.Code.TheVariants.{BoardInvalid}
use Rattle.command.specs.Text.{longest, check_command}
use Rattle.command.proofs.Accepted.{accepted}
use Rattle.join.specs.Join.{Joined, join_text, join}
use Rattle.join.proofs.Laws.{join-short}
use Rattle.board.specs.Board.{WaitingSlot, empty_slot, is_free, is_for, any, lowest, waiting, is_valid, Move, Stay, Put, Free, placed, handed_out, add, take_out}
use Rattle.board.specs.Lent.{board_of, lengths_fit, is_shaped, add_lent, take_lent, is_valid_lent, no_slot, on_slots}
use Rattle.board.specs.Inner.{Wanted, wanted_by, asked, start_of, scanned, fits_at, at, waits_at, joins_to, own_move, free_move, placed_move, handed_move, add_move, take_move, done_of, stored_in}
use Rattle.board.specs.declared.Slot.{Slot}
use Rattle.board.specs.declared.Findings.{Findings}
use Rattle.board.proofs.WaitingSlots.{never, for_who, lowest-passes, lowest-inside}
use Rattle.board.proofs.Valid.{waiting-fine}
use Rattle.board.proofs.Steps.{is-fine}
use Rattle.board.proofs.Lent.{Shape, shape, length-board, slot-at, text_at, fit_at}
use Rattle.board.proofs.Refusals.{refusals-all, placing-all, handing-all, refusals-same, placing-same, handing-same, refusals-shaped}
use Rattle.board.proofs.Scanned.{cond-true, stays_bad, valid-all, first_from, Owns, scan_own, scan_free}

shape-true : (l e f v : Bool) → (l && e) ≡ true → (l && e && (f && v)) ≡ (l && (e && f) && v)
shape-true true true f v h = refl
shape-true true false f v h = never h refl
shape-true false e f v h = never h refl

shape-false : (l e f v : Bool) → (l && e) ≡ false → (l && (e && f) && v) ≡ false
shape-false true true f v h = never refl h
shape-false true false f v h = refl
shape-false false e f v h = refl

-- two accepted texts join in the longest's bytes
join_is : (s t : List ℕ) → check_command s ≡ Ok tt → check_command t ≡ Ok tt → join s t longest ≡ Ok (join_text s t)
unfolding join
join_is s t e f = rw (e, f, le-leb (length (join_text s t)) longest (join-short s t e f))

module _ (area : List ℕ) (w : Wanted) (xs : List Slot) where
  abbrev sized : Bool
  sized = leb (length xs) 64 && eqb (length area) (longest * length xs)

  -- the look says whether the board is valid
  pub valid-is : (scanned area w xs).valid ≡ is_valid_lent xs area
  unfolding is_valid_lent is_shaped start_of
  valid-is =
      by_test sized
      (λ (t : sized ≡ true).
      let few = leb-true (length xs) 64 (both_left (leb (length xs) 64) (eqb (length area) (longest * length xs)) t) in
      let bytes = eqb-true (length area) (longest * length xs) (both_right (leb (length xs) 64) (eqb (length area) (longest * length xs)) t) in
      valid-all area w xs (start_of (length xs) (length area)) (rw zero-add few) (rw zero-add bytes)
      ∙ shape-true (leb (length xs) 64) (eqb (length area) (longest * length xs)) (lengths_fit xs) (is_valid (board_of xs area)) t)
      (λ (t : sized ≡ false).
      ap (λ (z : Findings). z.valid) (stays_bad area w xs (start_of (length xs) (length area)) 0 xs t)
      ∙ t
      ∙ sym (shape-false (leb (length xs) 64) (eqb (length area) (longest * length xs)) (lengths_fit xs) (is_valid (board_of xs area)) t))

-- what a look for an aircraft finds, on a valid board
module _ (area d : List ℕ) (xs : List Slot) where
  abbrev v : Findings
  v = scanned area (Some d) xs

  abbrev b : List WaitingSlot
  b = board_of xs area

  module _ (h : is_valid_lent xs area ≡ true) where
    valid : v.valid ≡ true
    valid = valid-is area (Some d) xs ∙ h

    shaped : is_shaped xs area ≡ true
    unfolding is_valid_lent
    shaped = both_left (is_shaped xs area) (is_valid b) h

    sound : is_valid b ≡ true
    unfolding is_valid_lent
    sound = both_right (is_shaped xs area) (is_valid b) h

    holds : Shape xs area
    holds = shape xs area shaped

    bytes : length area ≡ longest * length xs
    bytes = holds.bytes

    owns : Owns area (Some d) xs v 0 xs
    unfolding start_of
    owns = scan_own area (Some d) xs (start_of (length xs) (length area)) 0 xs (rw zero-add bytes) valid refl

    free-is : v.free ≡ first_from 0 is_free b
    unfolding start_of
    free-is = scan_free area (Some d) xs (start_of (length xs) (length area)) 0 xs (rw zero-add bytes) valid refl

    -- whether there is one
    first-some : (test : WaitingSlot → Bool) → is_some (first_from 0 test b) ≡ any test b
    first-some test = by_test (any test b) (λ (t : any test b ≡ true). rw t) (λ (t : any test b ≡ false). rw t)

    own_any : is_some v.own ≡ any (is_for d) b
    own_any = ap is_some owns.own ∙ first-some (is_for d)

    free-any : is_some v.free ≡ any is_free b
    free-any = ap is_some free-is ∙ first-some is_free

    -- which it is
    first-at : (test : WaitingSlot → Bool) → any test b ≡ true → at (first_from 0 test b) ≡ lowest test b
    first-at test k = rw k (zero-add (lowest test b))

    -- where a text waits
    module _ (k : any (is_for d) b ≡ true) where
      abbrev i : ℕ
      i = lowest (is_for d) b

      -- the aircraft's own slot is the lowest that is for it
      own_is : at v.own ≡ i
      own_is = ap at owns.own ∙ first-at (is_for d) k

      inside : i < length xs
      inside = rw (← length-board xs area) (lowest-inside (is_for d) b k)

      length-is : v.length ≡ (get_or xs i no_slot).length
      length-is = owns.length k

      length-fits : v.length ≤ longest
      length-fits = rw length-is (fit_at xs i holds.fit)

      own-fits : fits_at (at v.own) v.length (length area) ≡ true
      own-fits =
          let l : at v.own < length xs = rw own_is inside in
          let f = holds.few in
          let m : longest * at v.own + longest ≤ length area = omega (arith, l, bytes) in
          rw (lt-ltb (at v.own) 64 (omega arith), le-leb v.length longest length-fits, le-leb (longest * at v.own + longest) (length area) m)

      -- it is what waits
      waits-is : waits_at (at v.own) v.length area ≡ waiting d b
      unfolding waiting
      waits-is = rw (own_is, length-is) (sym (text_at xs area i holds.fit inside))

      -- and the slot's designator is the aircraft's
      who-is : (get_or xs i no_slot).designator ≡ d
      who-is =
          sym
          (for_who d (get_or b i empty_slot) (lowest-passes (is_for d) b k)
          ∙ ap (λ (p : WaitingSlot). p.who) (slot-at xs area i inside))

      -- what waits is joined with the command
      own-move : (t : List ℕ) → check_command t ≡ Ok tt → own_move (at v.own) v.length d area t ≡ Put i d (join_text (waiting d b) t)
      unfolding own_move
      own-move t e =
          cond-true (fits_at (at v.own) v.length (length area)) (joins_to (join (waits_at (at v.own) v.length area) t longest) (at v.own) d) (Stay BoardInvalid 0) own-fits
          ∙ ap (λ (s : List ℕ). joins_to (join s t longest) (at v.own) d) waits-is
          ∙ ap (λ (j : Joined). joins_to j (at v.own) d) (join_is (waiting d b) t (is-fine _ (waiting-fine d b sound k)) e)
          ∙ ap (λ (n : ℕ). Put n d (join_text (waiting d b) t)) own_is

      waits-length : length (waiting d b) ≡ v.length
      waits-length =
          let f = length-fits in
          let l : at v.own < length xs = rw own_is inside in
          sym (ap length waits-is) ∙ length-take-le v.length (drop (longest * at v.own) area) (omega (arith, l, bytes, length-drop (longest * at v.own) area))

    -- where none waits and a slot is free
    free_move_lem : (t : List ℕ) → check_command t ≡ Ok tt → any is_free b ≡ true → free_move (at v.free) d area t ≡ Put (lowest is_free b) d t
    unfolding free_move
    free_move_lem t e k =
        let at_free : at v.free ≡ lowest is_free b = ap at free-is ∙ first-at is_free k in
        let l : at v.free < length xs = rw (at_free, ← length-board xs area) (lowest-inside is_free b k) in
        let f = holds.few in
        let m : longest * at v.free + longest ≤ length area = omega (arith, l, bytes) in
        let s : length t ≤ longest = (accepted t e).short in
        cond-true (fits_at (at v.free) (length t) (length area)) (Put (at v.free) d t) (Stay BoardInvalid 0)
        (rw (lt-ltb (at v.free) 64 (omega arith), le-leb (length t) longest s, le-leb (longest * at v.free + longest) (length area) m))
        ∙ ap (λ (n : ℕ). Put n d t) at_free

    placed-is : (t : List ℕ) → check_command t ≡ Ok tt → placed_move v (Some d) area t ≡ placed b d t
    placed-is t e =
        placing-same Stay (is_some v.own) (any (is_for d) b) (is_some v.free) (any is_free b)
        (own_move (at v.own) v.length d area t) (Put (lowest (is_for d) b) d (join_text (waiting d b) t))
        (free_move (at v.free) d area t) (Put (lowest is_free b) d t) own_any free-any
        (λ k. own-move (sym own_any ∙ k) t e) (λ k f. free_move_lem t e (sym free-any ∙ f))

    handed-is : (room : ℕ) → handed_move v area room ≡ handed_out b d room
    handed-is room =
        let out = Free (at v.own) (waits_at (at v.own) v.length area) in
        handing-same Stay (is_some v.own) (any (is_for d) b) (leb v.length room) (leb (length (waiting d b)) room)
        (cond (fits_at (at v.own) v.length (length area)) out (Stay BoardInvalid 0)) (Free (lowest (is_for d) b) (waiting d b)) own_any
        (λ k. ap (λ (n : ℕ). leb n room) (sym (waits-length (sym own_any ∙ k))))
        (λ k f.
        cond-true (fits_at (at v.own) v.length (length area)) out (Stay BoardInvalid 0) (own-fits (sym own_any ∙ k))
        ∙ ap (λ (s : List ℕ). Free (at v.own) s) (waits-is (sym own_any ∙ k))
        ∙ ap (λ (n : ℕ). Free n (waiting d b)) (own_is (sym own_any ∙ k)))

-- ---- The calls

-- a designator that is well formed is the one asked for
wanted-fine : (d : List ℕ) → is_designator d ≡ true → wanted_by d ≡ Some d
unfolding wanted_by
wanted-fine d e = rw e

-- and it is asked for just where it is
pub wanted-is : (d : List ℕ) → is_some (wanted_by d) ≡ is_designator d
unfolding wanted_by
wanted-is d = by_test (is_designator d) (λ e. rw e) (λ e. rw e)

module _ (area : List ℕ) (xs : List Slot) (d : List ℕ) where
  abbrev wanted : Wanted
  wanted = wanted_by d

  abbrev found : Findings
  found = scanned area wanted xs

  abbrev board : List WaitingSlot
  board = board_of xs area

  -- the designator is the one asked for
  asked_is : is_some wanted ≡ true → wanted ≡ Some d
  asked_is n = wanted-fine d (sym (wanted-is d) ∙ n)

  -- what adding does
  pub add_is : (t : List ℕ) → add_move found wanted area t ≡ add_lent xs area d t
  unfolding add_move add_lent add is_valid_lent
  add_is t =
      refusals-same Stay found.valid (is_valid_lent xs area) (is_some wanted) (is_designator d) (check_command t)
      (placed_move found wanted area t) (placed board d t) (valid-is area wanted xs) (wanted-is d)
      (λ h n s.
      ap (λ (q : Wanted). placed_move (scanned area q xs) q area t) (asked_is n)
      ∙ placed-is area d xs (sym (valid-is area wanted xs) ∙ h) t s)
      ∙ sym (refusals-shaped Stay (is_shaped xs area) (is_valid board) (is_designator d) (check_command t) (placed board d t))

  -- what taking does
  pub take-is : (room : ℕ) → take_move found wanted area room ≡ take_lent xs area d room
  unfolding take_move take_lent take_out is_valid_lent
  take-is room =
      refusals-same Stay found.valid (is_valid_lent xs area) (is_some wanted) (is_designator d) (Ok tt)
      (handed_move found area room) (handed_out board d room) (valid-is area wanted xs) (wanted-is d)
      (λ h n s.
      ap (λ (q : Wanted). handed_move (scanned area q xs) area room) (asked_is n)
      ∙ handed-is area d xs (sym (valid-is area wanted xs) ∙ h) room)
      ∙ sym (refusals-shaped Stay (is_shaped xs area) (is_valid board) (is_designator d) (Ok tt) (handed_out board d room))

-- ---- The slot that is stored

-- a move is for the aircraft asked for
abbrev pub Agrees : Wanted → List Slot → Move → Type 0
Agrees w xs (Stay code place) = Unit
Agrees w xs (Put i d t) = d ≡ asked w
Agrees w xs (Free i t) = (get_or xs i no_slot).designator ≡ asked w

agrees-cond : (w : Wanted) (xs : List Slot) (t : Bool) (m n : Move) → (t ≡ true → Agrees w xs m) → (t ≡ false → Agrees w xs n)
    → Agrees w xs (cond t m n)
agrees-cond w xs true m n f g = f refl
agrees-cond w xs false m n f g = g refl

-- then storing what was done is what document 01 says of the slots
pub done_slots : (w : Wanted) (xs : List Slot) (m : Move) → Agrees w xs m → stored_in (done_of w m) xs ≡ on_slots m xs
done_slots w xs (Stay code place) e = refl
done_slots w xs (Put i d t) e = rw e
done_slots w xs (Free i t) e = rw e

joins-agree : (w : Wanted) (xs : List Slot) (j : Joined) (i : ℕ) → Agrees w xs (joins_to j i (asked w))
joins-agree w xs (Ok t) i = refl
joins-agree w xs (Err f) i = tt

module _ (v : Findings) (w : Wanted) (area : List ℕ) (xs : List Slot) where
  own-agrees : (t : List ℕ) → Agrees w xs (own_move (at v.own) v.length (asked w) area t)
  unfolding own_move
  own-agrees t =
      agrees-cond w xs (fits_at (at v.own) v.length (length area)) (joins_to (join (waits_at (at v.own) v.length area) t longest) (at v.own) (asked w))
      (Stay BoardInvalid 0) (λ z. joins-agree w xs (join (waits_at (at v.own) v.length area) t longest) (at v.own)) (λ z. tt)

  free-agrees : (t : List ℕ) → Agrees w xs (free_move (at v.free) (asked w) area t)
  unfolding free_move
  free-agrees t =
      agrees-cond w xs (fits_at (at v.free) (length t) (length area)) (Put (at v.free) (asked w) t) (Stay BoardInvalid 0) (λ z. refl) (λ z. tt)

  add-agrees : (t : List ℕ) → Agrees w xs (add_move v w area t)
  unfolding add_move
  add-agrees t =
      refusals-all (Agrees w xs) Stay v.valid (is_some w) (check_command t) (placed_move v w area t) tt tt (λ code place e. tt)
      (λ h n s.
      placing-all (Agrees w xs) Stay (is_some v.own) (is_some v.free) (own_move (at v.own) v.length (asked w) area t)
      (free_move (at v.free) (asked w) area t) tt (λ k. own-agrees t) (λ k f. free-agrees t))

take-agrees : (area : List ℕ) (w : Wanted) (xs : List Slot) (room : ℕ) → Agrees w xs (take_move (scanned area w xs) w area room)
unfolding take_move
take-agrees area None xs room =
    refusals-all (Agrees None xs) Stay (scanned area None xs).valid false (Ok tt) (handed_move (scanned area None xs) area room) tt tt
    (λ code place e. tt) (λ h n s. never n refl)
take-agrees area (Some d) xs room =
    let w : Wanted = Some d in
    let v = scanned area w xs in
    let out = cond (fits_at (at v.own) v.length (length area)) (Free (at v.own) (waits_at (at v.own) v.length area)) (Stay BoardInvalid 0) in
    refusals-all (Agrees w xs) Stay v.valid true (Ok tt) (handed_move v area room) tt tt (λ code place e. tt)
    (λ h n s.
    handing-all (Agrees w xs) Stay (is_some v.own) (leb v.length room) out tt tt
    (λ k r.
    agrees-cond w xs (fits_at (at v.own) v.length (length area)) (Free (at v.own) (waits_at (at v.own) v.length area)) (Stay BoardInvalid 0)
    (λ g.
    let valid = sym (valid-is area w xs) ∙ h in
    let some = sym (own_any area d xs valid) ∙ k in
    ap (λ (i : ℕ). (get_or xs i no_slot).designator) (own_is area d xs valid some) ∙ who-is area d xs valid some)
    (λ g. tt)))

-- ---- For the calls over the lent slots

module _ (area : List ℕ) (xs : List Slot) (d : List ℕ) where
  abbrev wants : Wanted
  wants = wanted_by d

  abbrev seen : Findings
  seen = scanned area wants xs

  -- what was done, by document 01's move
  pub add_done : (t : List ℕ) → done_of wants (add_move seen wants area t) ≡ done_of wants (add_lent xs area d t)
  add_done t = ap (λ (m : Move). done_of wants m) (add_is area xs d t)

  pub take_done : (room : ℕ) → done_of wants (take_move seen wants area room) ≡ done_of wants (take_lent xs area d room)
  take_done room = ap (λ (m : Move). done_of wants m) (take-is area xs d room)

  -- and the slots afterwards
  pub add-slots : (t : List ℕ) → stored_in (done_of wants (add_lent xs area d t)) xs ≡ on_slots (add_lent xs area d t) xs
  add-slots t = done_slots wants xs (add_lent xs area d t) (subst (Agrees wants xs) (add_is area xs d t) (add-agrees seen wants area xs t))

  pub take-slots : (room : ℕ) → stored_in (done_of wants (take_lent xs area d room)) xs ≡ on_slots (take_lent xs area d room) xs
  take-slots room = done_slots wants xs (take_lent xs area d room) (subst (Agrees wants xs) (take-is area xs d room) (take-agrees area wants xs room))
