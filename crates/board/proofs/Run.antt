-- A board in step with the log of what it was asked and replied, and that every run of events keeps it so.
use mathlib.Core.Path.{◌≡◌, refl, sym, ap, ◌∙◌}
use mathlib.Core.Bool.{Bool, true, false, not}
use mathlib.Core.List.{List, [], ◌∷◌, ◌++◌, foldl-append, append_assoc, append-nil}
use Prim.Native.Nat.{ℕ}
use lib.ListN.{length, length-set}
use Rattle.std.specs.Prelude.{Result, Ok, Err}
use Rattle.text.specs.Names.{is_designator}
use Rattle.text.specs.Checks.{is_fine}
use Rattle.text.specs.Equal.{same_bytes}
use Rattle.text.proofs.Cases.{by_test, both_left, both_right}
use Rattle.text.specs.declared.Refusal.{Refusal}
use Rattle.command.specs.Text.{check_command}
use Rattle.board.specs.Board.{WaitingSlot, is_none, is_free, any, waiting, is_sound, is_valid, past_refusals, placing, Move, Stay, Put, Free, on_board, Reply, Given, Refused, reply_of}
use Rattle.board.specs.History.{Event, Add, Take, Entry, aircraft, heard, since_from, since, onto, joined, move, after, logged, is_empty_board, due}
use Rattle.board.proofs.WaitingSlots.{both, waiting-cons, free_for}
use Rattle.board.proofs.Steps.{next, right}
use Rattle.board.proofs.Joined.{all_fine, fine_snoc}

-- ---- A board that begins empty

module _ (x : WaitingSlot) (b : List WaitingSlot) (o : is_empty_board (x ∷ b) ≡ true) where
  empty-first : is_free x ≡ true
  unfolding is_empty_board
  empty-first = both_left (is_free x) (is_empty_board b) o

  empty-rest : is_empty_board b ≡ true
  unfolding is_empty_board
  empty-rest = both_right (is_free x) (is_empty_board b) o

-- nothing waits
pub empty-waits : (d : List ℕ) (b : List WaitingSlot) → is_empty_board b ≡ true → waiting d b ≡ []
unfolding waiting
empty-waits d [] o = refl
empty-waits d (x ∷ b) o = rw (waiting-cons d x b, free_for d x (empty-first x b o)) (empty-waits d b (empty-rest x b o))

-- it is valid
pub empty-valid : (b : List WaitingSlot) → is_empty_board b ≡ true → is_valid b ≡ true
unfolding is_valid
empty-valid [] o = refl
empty-valid (x ∷ b) o =
    both (is_sound x b) (is_valid b) (rw (empty-first x b o)) (empty-valid b (empty-rest x b o))

-- ---- One entry more

-- what is heard, joined, is what then waits
pub joined-heard : (d : List ℕ) (cs : List (List ℕ)) (e : Event) (r : Reply) → joined (heard d cs e r) ≡ next d (joined cs) e r
unfolding joined
joined-heard d cs (Add e t) (Given w) = by_test (same_bytes d e) (λ y. rw y (foldl-append onto [] cs (t ∷ []))) (λ n. rw n)
joined-heard d cs (Add e t) (Refused code place) = refl
joined-heard d cs (Take e room) (Given w) = by_test (same_bytes d e) (λ y. rw y) (λ n. rw n)
joined-heard d cs (Take e room) (Refused code place) = refl

given-fine : (n : Bool) (s : Result (Unit {0}) Refusal) (r : Reply) (w : List ℕ) → Given w ≡ past_refusals Refused true n s r → is_fine s ≡ true
given-fine true (Ok u) r w e = refl
given-fine true (Err d) r w e = cc
given-fine false s r w e = cc

-- all that is heard is accepted
pub heard-fine : (d : List ℕ) (cs : List (List ℕ)) (e : Event) (r : Reply) (free : Bool) (w : List ℕ) → all_fine cs ≡ true
    → r ≡ due free w e → all_fine (heard d cs e r) ≡ true
unfolding all_fine
heard-fine d cs (Add e t) (Given x) free w f k =
    by_test (same_bytes d e)
    (λ q. rw q (fine_snoc cs t f
    (given-fine (is_designator e) (check_command t) (placing Refused (not (is_none w)) free (Given (onto w t)) (Given (onto w t))) x k)))
    (λ q. rw q f)
heard-fine d cs (Add e t) (Refused code place) free w f k = f
heard-fine d cs (Take e room) (Given x) free w f k = by_test (same_bytes d e) (λ q. rw q) (λ q. rw q f)
heard-fine d cs (Take e room) (Refused code place) free w f k = f

-- an entry at the end of a log is heard last
pub since_snoc : (d : List ℕ) (log : List Entry) (x : Entry) (cs : List (List ℕ))
    → since_from d cs (log ++ (x ∷ [])) ≡ heard d (since_from d cs log) x.event x.reply
unfolding since_from
since_snoc d [] x cs = refl
since_snoc d (y ∷ log) x cs = since_snoc d log x (heard d cs y.event y.reply)

-- ---- In step

-- the board is valid, what waits is what the log says, and all of that was accepted
pub record InStep (b : List WaitingSlot) (log : List Entry) : Type 0 where
  pub valid : is_valid b ≡ true
  pub waits : (d : List ℕ) → waiting d b ≡ joined (since d log)
  pub fine : (d : List ℕ) → all_fine (since d log) ≡ true

-- the entry that an event makes
abbrev pub entry : List WaitingSlot → Event → Entry
entry b e = record { event = e; reply = reply_of (move b e) }

-- an empty board is in step with an empty log
pub empty_in_step : (b : List WaitingSlot) → is_empty_board b ≡ true → InStep b []
unfolding since_from joined all_fine
empty_in_step b o = record { valid = empty-valid b o; waits = λ d. empty-waits d b o; fine = λ d. refl }

-- an event keeps it in step
pub event_in_step : (b : List WaitingSlot) (log : List Entry) (e : Event) → InStep b log
    → InStep (on_board (move b e) b) (log ++ (entry b e ∷ []))
event_in_step b log e s =
    let m : Move = move b e in
    let r = right b s.valid e in
    let h : (d : List ℕ) → since d (log ++ (entry b e ∷ [])) ≡ heard d (since d log) e (reply_of m) =
    λ d. since_snoc d log (entry b e) [] in
    record {
      valid = r.valid;
      waits = λ d.
          r.waits d
          ∙ ap (λ (w : List ℕ). next d w e (reply_of m)) (s.waits d)
          ∙ sym (joined-heard d (since d log) e (reply_of m))
          ∙ ap joined (sym (h d));
      fine = λ d.
          rw (h d) (heard-fine d (since d log) e (reply_of m) (any is_free b) (waiting (aircraft e) b) (s.fine d) r.reply);
    }

-- and so does every run
pub run_in_step : (b : List WaitingSlot) (log : List Entry) (es : List Event) → InStep b log → InStep (after b es) (log ++ logged b es)
unfolding after logged
run_in_step b log [] s = rw (append-nil log) s
run_in_step b log (e ∷ es) s =
    rw append_assoc at (run_in_step (on_board (move b e) b) (log ++ (entry b e ∷ [])) es (event_in_step b log e s))

-- a move keeps the number of slots
pub length-move : (m : Move) (b : List WaitingSlot) → length (on_board m b) ≡ length b
length-move (Stay code place) b = refl
length-move (Put i d t) b = length-set b i (record { who = d; text = t })
length-move (Free i t) b = length-set b i _

-- and so does every run
pub length-after : (b : List WaitingSlot) (es : List Event) → length (after b es) ≡ length b
unfolding after
length-after b [] = refl
length-after b (e ∷ es) = length-after (on_board (move b e) b) es ∙ length-move (move b e) b
