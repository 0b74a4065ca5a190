-- A slot is free exactly where fewer aircraft are busy than there are slots: each busy aircraft uses one slot, and nothing else does.
use mathlib.Core.Path.{◌≡◌, refl, sym, ap, ◌∙◌}
use mathlib.Core.Bool.{Bool, true, false, cond, not, ◌&&◌, ◌||◌, and-true, not-not}
use mathlib.Core.List.{List, [], ◌∷◌}
use Prim.Native.Nat.{ℕ, suc, ◌≤◌, ◌<◌}
use native.Mathlib.Omega.{arith}
use lib.Dec.{ltb}
use lib.ListN.{length}
use borrow.Author.Tests.{lt-ltb, le-ltb}
use Rattle.text.specs.Equal.{same_bytes}
use Rattle.text.proofs.Cases.{by_test, both_left, both_right}
use Rattle.text.proofs.Equal.{same-equal, same_self}
use Rattle.board.specs.Board.{WaitingSlot, is_none, is_free, is_for, any, waiting, is_valid, Reply, Given, Refused}
use Rattle.board.specs.History.{Event, Add, Take, Entry, aircraft, heard, since_from, since, member, callers, no_commands, busy_among, busy}
use Rattle.board.proofs.WaitingSlots.{never, both, waiting-any}
use Rattle.board.proofs.Valid.{used, valid-first, valid-rest}
use Rattle.board.proofs.Joined.{joined-none}
use Rattle.board.proofs.Run.{InStep}

-- ---- Lists without repeats

unfoldable pub distinct : List (List ℕ) → Bool
distinct [] = true
distinct (d ∷ ds) = not (member d ds) && distinct ds

-- the first d taken out
unfoldable without : List ℕ → List (List ℕ) → List (List ℕ)
without d [] = []
without d (e ∷ es) = cond (same_bytes d e) es (e ∷ without d es)

length_without : (d : List ℕ) (es : List (List ℕ)) → member d es ≡ true → suc (length (without d es)) ≡ length es
unfolding without member
length_without d [] m = never m refl
length_without d (e ∷ es) m = by_test (same_bytes d e) (λ y. rw y) (λ n. rw n (ap suc (length_without d es (rw n at m))))

member-without : (d x : List ℕ) (es : List (List ℕ)) → same_bytes d x ≡ false → member x es ≡ true → member x (without d es) ≡ true
unfolding without member
member-without d x [] n m = m
member-without d x (e ∷ es) n m =
    by_test (same_bytes d e)
    (λ y. rw y
    (by_test (same_bytes x e) (λ z. never (rw (same-equal d e y, same-equal x e z) (same_self e)) n) (λ z. rw z at m)))
    (λ q. rw q (by_test (same_bytes x e) (λ z. rw z) (λ z. rw z (member-without d x es n (rw z at m)))))

member-other : (d x : List ℕ) (es : List (List ℕ)) → member d es ≡ false → member x es ≡ true → same_bytes d x ≡ false
member-other d x es m k = by_test (same_bytes d x) (λ y. never (rw (same-equal d x y) k) m) (λ n. n)

-- a list without repeats whose members all are in another is no longer than that
pub no_longer : (xs ys : List (List ℕ)) → distinct xs ≡ true → ((d : List ℕ) → member d xs ≡ true → member d ys ≡ true)
    → length xs ≤ length ys
unfolding distinct member
no_longer [] ys d h = omega arith
no_longer (x ∷ xs) ys d h =
    let m : member x ys ≡ true = h x (rw (same_self x)) in
    let o : member x xs ≡ false =
    by_test (member x xs) (λ y. never (both_left (not (member x xs)) (distinct xs) d) (rw y)) (λ n. n) in
    omega (
      arith,
      length_without x ys m,
      no_longer xs (without x ys) (both_right (not (member x xs)) (distinct xs) d)
          (λ z k. member-without x z ys (member-other x z xs o k) (h z (by_test (same_bytes z x) (λ y. rw y) (λ n. rw n k)))),
    )

-- ---- The aircraft that a board has slots for

unfoldable pub holders : List WaitingSlot → List (List ℕ)
holders [] = []
holders (x ∷ b) = cond (is_free x) (holders b) (x.who ∷ holders b)

holders-any : (d : List ℕ) (b : List WaitingSlot) → member d (holders b) ≡ any (is_for d) b
unfolding holders member any is_for
holders-any d [] = refl
holders-any d (x ∷ b) =
    by_test (is_free x) (λ f. rw f (holders-any d b)) (λ f. rw f (ap (λ (t : Bool). same_bytes d x.who || t) (holders-any d b)))

-- one has a slot exactly where something waits for it
pub holders_wait : (d : List ℕ) (b : List WaitingSlot) → not (member d (holders b)) ≡ is_none (waiting d b)
holders_wait d b = ap not (holders-any d b) ∙ sym (waiting-any d b)

-- and on a valid board one slot
pub holders-distinct : (b : List WaitingSlot) → is_valid b ≡ true → distinct (holders b) ≡ true
unfolding holders distinct
holders-distinct [] v = refl
holders-distinct (x ∷ b) v =
    let r : distinct (holders b) ≡ true = holders-distinct b (valid-rest x b v) in
    by_test (is_free x) (λ f. rw f r)
    (λ f. rw f
    (both (not (member x.who (holders b))) (distinct (holders b))
    (holders_wait x.who b ∙ (used x b f (valid-first x b v)).alone) r))

holders-few : (b : List WaitingSlot) → length (holders b) ≤ length b
unfolding holders
holders-few [] = omega arith
holders-few (x ∷ b) =
    by_test (is_free x) (λ f. rw f (omega (arith, holders-few b))) (λ f. rw f (omega (arith, holders-few b)))

-- a slot is free exactly where they are fewer than the slots
pub holders-free : (b : List WaitingSlot) → any is_free b ≡ true → length (holders b) < length b
unfolding holders any
holders-free [] e = never e refl
holders-free (x ∷ b) e =
    by_test (is_free x) (λ f. rw f (omega (arith, holders-few b))) (λ f. rw f (omega (arith, holders-free b (rw f at e))))

-- and none is where they are as many
pub holders-full : (b : List WaitingSlot) → any is_free b ≡ false → length (holders b) ≡ length b
unfolding holders any
holders-full [] e = refl
holders-full (x ∷ b) e = by_test (is_free x) (λ f. never (rw f) e) (λ f. rw f (ap suc (holders-full b (rw f at e))))

-- ---- The aircraft that a log has busy

heard-other : (d : List ℕ) (cs : List (List ℕ)) (e : Event) (r : Reply) → same_bytes d (aircraft e) ≡ false → heard d cs e r ≡ cs
heard-other d cs (Add e t) (Given w) n = rw n
heard-other d cs (Add e t) (Refused code place) n = refl
heard-other d cs (Take e room) (Given w) n = rw n
heard-other d cs (Take e room) (Refused code place) n = refl

callers-cons : (d : List ℕ) (x : Entry) (log : List Entry)
    → member d (callers (x ∷ log)) ≡ (same_bytes d (aircraft x.event) || member d (callers log))
unfolding callers member
callers-cons d x log =
    let a : List ℕ = aircraft x.event in
    by_test (member a (callers log))
    (λ m. rw m (by_test (same_bytes d a) (λ y. rw (y, same-equal d a y) m) (λ n. rw n)))
    (λ m. rw m)

-- for an aircraft that a log doesn't name it says nothing
pub callers-none : (d : List ℕ) (log : List Entry) (cs : List (List ℕ)) → member d (callers log) ≡ false → since_from d cs log ≡ cs
unfolding since_from
callers-none d [] cs m = refl
callers-none d (x ∷ log) cs m =
    let a : List ℕ = aircraft x.event in
    let k : (same_bytes d a || member d (callers log)) ≡ false = sym (callers-cons d x log) ∙ m in
    let n : same_bytes d a ≡ false = by_test (same_bytes d a) (λ y. never (rw y) k) (λ n. n) in
    rw (heard-other d cs x.event x.reply n) (callers-none d log cs (rw n at k))

callers-distinct : (log : List Entry) → distinct (callers log) ≡ true
unfolding callers distinct
callers-distinct [] = refl
callers-distinct (x ∷ log) =
    by_test (member (aircraft x.event) (callers log))
    (λ m. rw m (callers-distinct log))
    (λ m. rw m (rw m (callers-distinct log)))

member_among : (log : List Entry) (d : List ℕ) (ds : List (List ℕ))
    → member d (busy_among log ds) ≡ (not (no_commands (since d log)) && member d ds)
unfolding busy_among member
member_among log d [] = sym (nothing (not (no_commands (since d log))))
  where
    nothing : (t : Bool) → (t && false) ≡ false
    nothing true = refl
    nothing false = refl
member_among log d (e ∷ ds) =
    by_test (same_bytes d e)
    (λ y. let q : d ≡ e = same-equal d e y in
    rw y (by_test (no_commands (since e log)) (λ h. rw (h, member_among log d ds, q, h)) (λ h. rw (h, y, q, h))))
    (λ n. rw n (by_test (no_commands (since e log)) (λ h. rw h (member_among log d ds)) (λ h. rw (h, n) (member_among log d ds))))

among_distinct : (log : List Entry) (ds : List (List ℕ)) → distinct ds ≡ true → distinct (busy_among log ds) ≡ true
unfolding busy_among distinct
among_distinct log [] e = refl
among_distinct log (d ∷ ds) e =
    let r : distinct (busy_among log ds) ≡ true = among_distinct log ds (both_right (not (member d ds)) (distinct ds) e) in
    by_test (no_commands (since d log))
    (λ h. rw h r)
    (λ h. rw h
    (both (not (member d (busy_among log ds))) (distinct (busy_among log ds))
    (ap not (member_among log d ds) ∙ rw h (both_left (not (member d ds)) (distinct ds) e)) r))

-- an aircraft is busy exactly where commands were accepted for it since its last hand-over
pub busy-member : (d : List ℕ) (log : List Entry) → member d (busy log) ≡ not (no_commands (since d log))
busy-member d log =
    member_among log d (callers log)
    ∙ by_test (member d (callers log))
    (λ m. rw m (and-true (not (no_commands (since d log)))))
    (λ m. rw (m, callers-none d log [] m))

-- each once
pub busy-distinct : (log : List Entry) → distinct (busy log) ≡ true
busy-distinct log = among_distinct log (callers log) (callers-distinct log)

-- ---- Both

module _ (b : List WaitingSlot) (log : List Entry) (s : InStep b log) where
  same_members : (d : List ℕ) → member d (holders b) ≡ member d (busy log)
  same_members d =
      sym (not-not (member d (holders b)))
      ∙ ap not (holders_wait d b ∙ ap is_none (s.waits d) ∙ joined-none (since d log) (s.fine d))
      ∙ sym (busy-member d log)

  -- as many slots are used as aircraft are busy
  pub as_many : length (holders b) ≡ length (busy log)
  as_many =
      let x : length (holders b) ≤ length (busy log) =
      no_longer (holders b) (busy log) (holders-distinct b s.valid) (λ d m. sym (same_members d) ∙ m) in
      let y : length (busy log) ≤ length (holders b) =
      no_longer (busy log) (holders b) (busy-distinct log) (λ d m. same_members d ∙ m) in
      omega arith

  -- so a slot is free exactly where fewer are busy than there are slots
  pub free-slots : any is_free b ≡ ltb (length (busy log)) (length b)
  free-slots =
      by_test (any is_free b)
      (λ f. f ∙ sym (lt-ltb (length (busy log)) (length b) (omega (arith, as_many, holders-free b f))))
      (λ f. f ∙ sym (le-ltb (length (busy log)) (length b) (omega (arith, as_many, holders-full b f))))
