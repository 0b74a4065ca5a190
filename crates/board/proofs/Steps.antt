-- One event on a valid board: what it replies, what then waits for each aircraft, and that the board stays valid.
use mathlib.Core.Path.{◌≡◌, refl, sym, ap, ◌∙◌}
use mathlib.Core.Bool.{true, false, cond}
use mathlib.Core.List.{List, [], ◌∷◌}
use Prim.Native.Nat.{ℕ}
use native.Mathlib.Omega.{arith}
use lib.Dec.{leb}
use lib.ListN.{length, get_or}
use Rattle.std.specs.Prelude.{Result, Ok, Err}
use Rattle.text.specs.Names.{is_designator}
use Rattle.text.specs.Checks.{is_fine}
use Rattle.text.specs.Equal.{same_bytes}
use Rattle.text.proofs.Cases.{by_test}
use Rattle.text.proofs.Equal.{same-equal}
use Rattle.text.specs.declared.Refusal.{Refusal}
use Rattle.text.specs.declared.Code.{Code}
use Rattle.text.specs.declared.Code.TheVariants.{BoardFull, NoRoom, NotAllowed, NothingWaits}
use Rattle.command.specs.Text.{check_command}
use Rattle.command.proofs.Accepted.{accepted}
use Rattle.join.specs.Join.{join_text}
use Rattle.join.proofs.Laws.{join-fine}
use Rattle.board.specs.Board.{WaitingSlot, empty_slot, is_none, is_free, is_for, any, lowest, waiting, is_valid, Move, Stay, Put, Free, unless_refused, placed, add, take_out, on_board, Reply, Given, Refused, reply_of}
use Rattle.board.specs.History.{Event, Add, Take, aircraft, onto, move, due}
use Rattle.board.proofs.WaitingSlots.{never, none_is, free_for, for_one, lowest-passes, lowest-inside, none_passes, waiting-any, waiting_kept, waiting-set}
use Rattle.board.proofs.Valid.{waiting-fine, only, valid-set, freed-none}

-- ---- Accepted texts

-- the test is the check's answer
pub is-fine : (s : Result (Unit {0}) Refusal) → is_fine s ≡ true → s ≡ Ok tt
is-fine (Ok u) e = refl
is-fine (Err r) e = never e refl

-- no accepted text is empty
pub accepted-some : (t : List ℕ) → is_fine (check_command t) ≡ true → is_none t ≡ false
accepted-some [] f = let i = (accepted [] (is-fine (check_command []) f)).head.inside in absurd (omega arith)
accepted-some (b ∷ t) f = refl

-- two accepted texts join into one
pub joins : (w t : List ℕ) → is_fine (check_command w) ≡ true → is_fine (check_command t) ≡ true → is_fine (check_command (join_text w t)) ≡ true
joins w t f g = ap is_fine (join-fine w t (is-fine (check_command w) f) (is-fine (check_command t) g))

-- ---- What an event calls for

-- what waits for d after an event and its reply, where w waited: an accepted command is joined on, a hand-over leaves nothing
abbrev pub next : List ℕ → List ℕ → Event → Reply → List ℕ
next d w (Add e t) (Given x) = cond (same_bytes d e) (onto w t) w
next d w (Add e t) (Refused code place) = w
next d w (Take e room) (Given x) = cond (same_bytes d e) [] w
next d w (Take e room) (Refused code place) = w

-- a later command is joined on
pub onto-some : (w t : List ℕ) → is_none w ≡ false → onto w t ≡ join_text w t
onto-some [] t e = never refl e
onto-some (b ∷ w) t e = refl

-- the first waits as it came
pub onto-none : (w t : List ℕ) → is_none w ≡ true → onto w t ≡ t
onto-none w t e = rw (none_is w e)

-- the move m is right for the event e on the board b
pub record Right (b : List WaitingSlot) (e : Event) (m : Move) : Type 0 where
  -- the reply is what is due
  pub reply : reply_of m ≡ due (any is_free b) (waiting (aircraft e) b) e
  -- the board stays valid
  pub valid : is_valid (on_board m b) ≡ true
  -- and this waits for each aircraft
  pub waits : (d : List ℕ) → waiting d (on_board m b) ≡ next d (waiting d b) e (reply_of m)

-- a refusal leaves everything
stays : (b : List WaitingSlot) (e : Event) (code : Code) (place : ℕ) → is_valid b ≡ true
    → due (any is_free b) (waiting (aircraft e) b) e ≡ Refused code place → Right b e (Stay code place)
stays b (Add d t) code place v h = record { reply = sym h; valid = v; waits = λ x. refl }
stays b (Take d room) code place v h = record { reply = sym h; valid = v; waits = λ x. refl }

module _ (b : List WaitingSlot) (v : is_valid b ≡ true) where
  -- ---- Adding

  module _ (d t : List ℕ) (n : is_designator d ≡ true) (k : check_command t ≡ Ok tt) where
    -- joined onto what waits
    onto-held : any (is_for d) b ≡ true → Right b (Add d t) (Put (lowest (is_for d) b) d (join_text (waiting d b) t))
    onto-held h =
        let i : ℕ = lowest (is_for d) b in
        let mine : is_for d (get_or b i empty_slot) ≡ true = lowest-passes (is_for d) b h in
        let some : is_none (waiting d b) ≡ false = rw (waiting-any d b, h) in
        let fine : is_fine (check_command (join_text (waiting d b) t)) ≡ true = joins (waiting d b) t (waiting-fine d b v h) (rw k) in
        let alone : (j : ℕ) → (j ≡ i → ⊥) → is_for d (get_or b j empty_slot) ≡ false = λ j q. only d b v i j mine q in
        record {
          reply = rw (n, k, onto-some (waiting d b) t some, some);
          valid =
              valid-set b i (record { who = d; text = join_text (waiting d b) t }) v
              (λ f. record { named = n; fine = fine; alone = alone });
          waits = λ e.
              waiting-set b i d (join_text (waiting d b) t) (lowest-inside (is_for d) b h) alone
              (λ x q. for_one d x (get_or b i empty_slot) mine q) (accepted-some (join_text (waiting d b) t) fine) e
              ∙ by_test (same_bytes e d) (λ y. rw (y, same-equal e d y, onto-some (waiting d b) t some)) (λ q. rw q);
        }

    -- or into the lowest free place
    into_free : any (is_for d) b ≡ false → any is_free b ≡ true → Right b (Add d t) (Put (lowest is_free b) d t)
    unfolding is_for is_free
    into_free h f =
        let i : ℕ = lowest is_free b in
        let none : (j : ℕ) → is_for d (get_or b j empty_slot) ≡ false = none_passes (is_for d) b refl h in
        let nothing : is_none (waiting d b) ≡ true = rw (waiting-any d b, h) in
        record {
          reply = rw (n, k, onto-none (waiting d b) t nothing, nothing, f);
          valid =
              valid-set b i (record { who = d; text = t }) v
              (λ q. record { named = n; fine = rw k; alone = λ j q. none j });
          waits = λ e.
              waiting-set b i d t (lowest-inside is_free b f) (λ j q. none j)
              (λ x q. free_for x (get_or b i empty_slot) (lowest-passes is_free b f)) (accepted-some t (rw k)) e
              ∙ by_test (same_bytes e d) (λ y. rw (y, same-equal e d y, onto-none (waiting d b) t nothing)) (λ q. rw q);
        }

  -- every add does what is right
  pub right_add : (d t : List ℕ) → Right b (Add d t) (add b d t)
  unfolding add
  right_add d t =
      rw v
      (by_test (is_designator d) (λ n. rw n (go n (check_command t) refl)) (λ n. rw n (stays b (Add d t) NotAllowed 0 v (rw n))))
    where
      go : is_designator d ≡ true → (s : Result (Unit {0}) Refusal) → check_command t ≡ s → Right b (Add d t) (unless_refused Stay s (placed b d t))
      go n (Err r) k = stays b (Add d t) r.code r.place v (rw (n, k))
      go n (Ok u) k =
          by_test (any (is_for d) b)
          (λ h. rw h (onto-held d t n k h))
          (λ h. rw h
          (by_test (any is_free b)
          (λ f. rw f (into_free d t n k h f))
          (λ f. rw f (stays b (Add d t) BoardFull 0 v (rw (n, k, waiting-any d b, h, f))))))

  -- ---- Taking

  handed : (d : List ℕ) (room : ℕ) → is_designator d ≡ true → any (is_for d) b ≡ true → leb (length (waiting d b)) room ≡ true
      → Right b (Take d room) (Free (lowest (is_for d) b) (waiting d b))
  unfolding is_free
  handed d room n h l =
      let i : ℕ = lowest (is_for d) b in
      let x : WaitingSlot = record { who = (get_or b i empty_slot).who; text = [] } in
      let mine : is_for d (get_or b i empty_slot) ≡ true = lowest-passes (is_for d) b h in
      record {
        reply = rw (n, waiting-any d b, h, l);
        valid = valid-set b i x v (λ f. never refl f);
        waits = λ e.
            by_test (same_bytes e d)
            (λ y. rw (y, same-equal e d y) (freed-none d b i x v mine (lowest-inside (is_for d) b h) refl))
            (λ q. rw q (waiting_kept e b i x (for_one d e (get_or b i empty_slot) mine q) (free_for e x refl)));
      }

  -- and every taking
  pub right_take : (d : List ℕ) (room : ℕ) → Right b (Take d room) (take_out b d room)
  unfolding take_out
  right_take d room =
      rw v
      (by_test (is_designator d)
      (λ n. rw n
      (by_test (any (is_for d) b)
      (λ h. rw h
      (by_test (leb (length (waiting d b)) room)
      (λ l. rw l (handed d room n h l))
      (λ l. rw l (stays b (Take d room) NoRoom 0 v (rw (n, waiting-any d b, h, l))))))
      (λ h. rw h (stays b (Take d room) NothingWaits 0 v (rw (n, waiting-any d b, h))))))
      (λ n. rw n (stays b (Take d room) NotAllowed 0 v (rw n))))

  -- every move of a valid board is right
  pub right : (e : Event) → Right b e (move b e)
  right (Add d t) = right_add d t
  right (Take d room) = right_take d room
