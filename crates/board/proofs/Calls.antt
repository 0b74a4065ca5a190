-- A run of calls on what is lent is the run of the events on the board that it stands for.
use mathlib.Core.Path.{◌≡◌, refl, ap, ap₂, ◌∙◌}
use mathlib.Core.Bool.{true, false}
use mathlib.Core.List.{List, [], ◌∷◌}
use Prim.Native.Nat.{ℕ}
use lib.Dec.{leb, eqb}
use lib.ListN.{length, drop}
use borrow.Author.Tests.{eqb-true}
use Rattle.std.specs.Prelude.{Ok}
use Rattle.text.specs.Names.{is_designator}
use Rattle.text.specs.Checks.{is_fine}
use Rattle.text.proofs.Cases.{by_test, both_left, both_right}
use Rattle.text.specs.declared.Code.TheVariants.{BoardInvalid}
use Rattle.command.specs.Text.{longest, check_command}
use Rattle.join.specs.Join.{join_text}
use Rattle.board.specs.Board.{WaitingSlot, is_free, is_for, any, lowest, waiting, is_valid, Move, Stay, Put, Free, placed, handed_out, add, take_out, on_board, reply_of}
use Rattle.board.specs.History.{Event, Add, Take, move, after, logged, is_empty_board, called_for}
use Rattle.board.specs.Lent.{board_of, is_shaped, add_lent, take_lent, is_valid_lent, on_slots, on_area}
use Rattle.board.specs.Calls.{Lent, board_in, call, on_lent, after_calls, logged_calls, all_free, Demand3Lent}
use Rattle.board.specs.declared.Slot.{Slot}
use Rattle.board.proofs.WaitingSlots.{lowest-inside}
use Rattle.board.proofs.Valid.{waiting-fine}
use Rattle.board.proofs.Refusals.{refusals-all, placing-all, handing-all}
use Rattle.board.proofs.Steps.{joins}
use Rattle.board.proofs.Joined.{accepted-short}
use Rattle.board.proofs.Demand.{demand3}
use Rattle.board.proofs.Lent.{shape, shaped, length-board, Sits, moved, shape-kept}

-- ---- One call

-- every move of a board names one of its slots and a text that a slot holds
pub sits : (b : List WaitingSlot) (e : Event) → Sits (length b) (move b e)
unfolding add take_out
sits b (Add d t) =
    refusals-all (Sits (length b)) Stay (is_valid b) (is_designator d) (check_command t) (placed b d t) tt tt (λ code place k. tt)
    (λ v n s.
    let f : is_fine (check_command t) ≡ true = rw s in
    placing-all (Sits (length b)) Stay (any (is_for d) b) (any is_free b) (Put (lowest (is_for d) b) d (join_text (waiting d b) t))
    (Put (lowest is_free b) d t) tt
    (λ h. (lowest-inside (is_for d) b h, accepted-short (join_text (waiting d b) t) (joins (waiting d b) t (waiting-fine d b v h) f)))
    (λ h g. (lowest-inside is_free b g, accepted-short t f)))
sits b (Take d room) =
    refusals-all (Sits (length b)) Stay (is_valid b) (is_designator d) (Ok tt) (handed_out b d room) tt tt (λ code place k. tt)
    (λ v n s.
    handing-all (Sits (length b)) Stay (any (is_for d) b) (leb (length (waiting d b)) room) (Free (lowest (is_for d) b) (waiting d b)) tt
    tt (λ h l. lowest-inside (is_for d) b h))

-- on what is shaped a call is the event on the board
pub call-move : (x : Lent) (e : Event) → is_shaped x.slots x.area ≡ true → call x e ≡ move (board_in x) e
unfolding add_lent take_lent
call-move x (Add d t) h = rw h
call-move x (Take d room) h = rw h

-- on what isn't a valid board it is 10, and nothing changes
pub call-ten : (x : Lent) (e : Event) → is_valid_lent x.slots x.area ≡ false → call x e ≡ Stay BoardInvalid 0
unfolding add_lent take_lent is_valid_lent add take_out
call-ten x (Add d t) h = by_test (is_shaped x.slots x.area) (λ s. rw (s, rw s at h)) (λ s. rw s)
call-ten x (Take d room) h = by_test (is_shaped x.slots x.area) (λ s. rw (s, rw s at h)) (λ s. rw s)

module _ (x : Lent) (e : Event) (h : is_shaped x.slots x.area ≡ true) where
  -- it names one of the slots and a text that a slot holds
  pub call_sits : Sits (length x.slots) (call x e)
  call_sits =
      rw (call-move x e h) (rw (length-board x.slots x.area) at (sits (board_in x) e))

  -- what is lent after a call stands for the board after it
  pub call-board : board_in (on_lent (call x e) x) ≡ on_board (call x e) (board_in x)
  call-board = moved (call x e) x.slots x.area (shape x.slots x.area h).bytes call_sits

  -- and is shaped
  pub call-shaped : is_shaped (on_slots (call x e) x.slots) (on_area (call x e) x.area) ≡ true
  call-shaped =
      shaped (on_slots (call x e) x.slots) (on_area (call x e) x.area)
      (shape-kept (call x e) x.slots x.area (shape x.slots x.area h) call_sits)

-- ---- A run

-- the calls es on x run as the events on its board
pub record RunsAs (x : Lent) (es : List Event) : Type 0 where
  pub is-shaped : is_shaped (after_calls x es).slots (after_calls x es).area ≡ true
  pub board : board_in (after_calls x es) ≡ after (board_in x) es
  pub log : logged_calls x es ≡ logged (board_in x) es

-- a run of calls on what is lent is the run on its board
pub run_lent : (es : List Event) (x : Lent) → is_shaped x.slots x.area ≡ true → RunsAs x es
unfolding after_calls logged_calls after logged
run_lent [] x h = record { is-shaped = h; board = refl; log = refl }
run_lent (e ∷ es) x h =
    let r = run_lent es (on_lent (call x e) x) (call-shaped x e h) in
    let k : board_in (on_lent (call x e) x) ≡ on_board (move (board_in x) e) (board_in x) =
    call-board x e h ∙ ap (λ (m : Move). on_board m (board_in x)) (call-move x e h) in
    record {
      is-shaped = r.is-shaped;
      board = r.board ∙ ap (λ (b : List WaitingSlot). after b es) k;
      log =
          ap₂ ◌∷◌ (ap (λ (m : Move). record { event = e; reply = reply_of m }) (call-move x e h))
          (r.log ∙ ap (λ (b : List WaitingSlot). logged b es) k);
    }

-- ---- Demand 3 of what is lent

-- slots that are all free stand for an empty board
pub free-empty : (xs : List Slot) (area : List ℕ) → all_free xs ≡ true → is_empty_board (board_of xs area) ≡ true
unfolding all_free is_empty_board board_of is_free
free-empty [] area e = refl
free-empty (x ∷ xs) area e =
    rw (eqb-true x.length 0 (both_left (eqb x.length 0) (all_free xs) e))
    (free-empty xs (drop longest area) (both_right (eqb x.length 0) (all_free xs) e))

-- every run of calls on slots and area that began free
pub demand3_lent : (x : Lent) (es : List Event) → is_shaped x.slots x.area ≡ true → all_free x.slots ≡ true → Demand3Lent x es
demand3_lent x es h f =
    let r = run_lent es x h in
    let k = demand3 (board_in x) es (free-empty x.slots x.area f) in
    record {
      waits = λ d. rw (r.board, r.log) (k.waits d);
      short = λ d. rw r.board (k.short d);
      acts = λ d g. rw (r.board, r.log) (k.acts d g);
      replies = r.log ∙ k.replies ∙ ap (λ (n : ℕ). called_for n [] es) (length-board x.slots x.area);
    }
