-- Demand 3: any run of adds and takings on a board that began empty, and what it says in the demand's own words.
use mathlib.Core.Path.{◌≡◌, refl, ap₂, ◌∙◌}
use mathlib.Core.Bool.{Bool, true}
use mathlib.Core.List.{List, [], ◌∷◌, ◌++◌}
use Prim.Native.Nat.{ℕ}
use lib.ListN.{length}
use Rattle.board.specs.Board.{WaitingSlot, Move, on_board, Reply, reply_of}
use Rattle.board.specs.History.{Event, Entry, aircraft, since, move, after, logged, is_empty_board, due, reply_to, called_for, Demand3}
use Rattle.board.proofs.Steps.{right}
use Rattle.board.proofs.Joined.{waiting-short, joined-acts}
use Rattle.board.proofs.Run.{InStep, entry, empty_in_step, event_in_step, run_in_step, length-move}
use Rattle.board.proofs.Counted.{free-slots}

-- what a board in step with its log replies is what the log calls for
pub reply_called : (b : List WaitingSlot) (log : List Entry) (e : Event) → InStep b log → reply_of (move b e) ≡ reply_to (length b) log e
reply_called b log e s =
    (right b s.valid e).reply
    ∙ ap₂ (λ (free : Bool) (w : List ℕ). due free w e) (free-slots b log s) (s.waits (aircraft e))

-- and so is every reply of a run
pub run_called : (es : List Event) (b : List WaitingSlot) (log : List Entry) → InStep b log → logged b es ≡ called_for (length b) log es
unfolding logged called_for
run_called [] b log s = refl
run_called (e ∷ es) b log s =
    let m : Move = move b e in
    let r : reply_of m ≡ reply_to (length b) log e = reply_called b log e s in
    ap₂ (λ (x : Reply) (l : List Entry). record { event = e; reply = x } ∷ l) r
    (run_called es (on_board m b) (log ++ (entry b e ∷ [])) (event_in_step b log e s)
    ∙ ap₂ (λ (k : ℕ) (x : Reply). called_for k (log ++ (record { event = e; reply = x } ∷ [])) es) (length-move m b) r)

-- ---- Demand 3

module _ (b : List WaitingSlot) (es : List Event) (o : is_empty_board b ≡ true) where
  -- the board after the run is in step with its log
  pub in_step : InStep (after b es) (logged b es)
  in_step = run_in_step b [] es (empty_in_step b o)

  -- all of demand 3, after any run on a board that began empty
  pub demand3 : Demand3 b es
  demand3 =
      record {
        waits = in_step.waits;
        short = λ d. waiting-short d (after b es) in_step.valid;
        acts = λ d x. rw (in_step.waits d) (joined-acts (since d (logged b es)) x (in_step.fine d));
        replies = run_called es b [] (empty_in_step b o);
      }
