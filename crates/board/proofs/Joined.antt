-- Accepted commands joined in order: accepted, short, and acting as the commands one after the other.
use mathlib.Core.Path.{◌≡◌, refl, ap, ◌∙◌}
use mathlib.Core.Bool.{Bool, true, ◌&&◌}
use mathlib.Core.List.{List, [], ◌∷◌, ◌++◌, foldl}
use Prim.Native.Nat.{ℕ, ◌≤◌}
use native.Mathlib.Omega.{arith}
use lib.ListN.{length}
use Rattle.text.specs.Checks.{is_fine}
use Rattle.text.proofs.Cases.{by_test, both_left, both_right}
use Rattle.settings.specs.declared.Settings.{Settings}
use Rattle.command.specs.Text.{check_command, longest}
use Rattle.command.proofs.Accepted.{accepted}
use Rattle.config.specs.Config.{apply_to}
use Rattle.join.specs.Join.{join_text}
use Rattle.join.proofs.Laws.{join-acts}
use Rattle.board.specs.Board.{WaitingSlot, is_none, is_for, any, waiting, is_valid}
use Rattle.board.specs.History.{onto, joined, no_commands, act}
use Rattle.board.proofs.WaitingSlots.{never, both, none_is, waiting-any}
use Rattle.board.proofs.Valid.{waiting-fine}
use Rattle.board.proofs.Steps.{is-fine, accepted-some, joins}

-- ---- One text

-- an accepted text is no longer than the longest
pub accepted-short : (t : List ℕ) → is_fine (check_command t) ≡ true → length t ≤ longest
accepted-short t f = (accepted t (is-fine (check_command t) f)).short

-- so has what waits on a valid board
pub waiting-short : (d : List ℕ) (b : List WaitingSlot) → is_valid b ≡ true → length (waiting d b) ≤ longest
waiting-short d b v =
    by_test (any (is_for d) b)
    (λ h. accepted-short (waiting d b) (waiting-fine d b v h))
    (λ h. rw (none_is (waiting d b) (waiting-any d b ∙ rw h)) (omega arith))

-- an accepted text acts by being applied
pub act-fine : (x : Settings) (t : List ℕ) → is_fine (check_command t) ≡ true → act x t ≡ apply_to x t
act-fine x t f = rw f

-- no text changes nothing
pub act-none : (x : Settings) → act x [] ≡ x
act-none x = by_test (is_fine (check_command [])) (λ f. never refl (accepted-some [] f)) (λ f. rw f)

-- two joined act as the first and then the second
pub act-join : (x : Settings) (a b : List ℕ) → is_fine (check_command a) ≡ true → is_fine (check_command b) ≡ true
    → act x (join_text a b) ≡ act (act x a) b
act-join x a b f g =
    rw (joins a b f g, f, g) (join-acts a b (is-fine (check_command a) f) (is-fine (check_command b) g) x)

-- ---- Many texts

-- every command of a list is accepted
unfoldable pub all_fine : List (List ℕ) → Bool
all_fine [] = true
all_fine (c ∷ cs) = is_fine (check_command c) && all_fine cs

module _ (c : List ℕ) (cs : List (List ℕ)) (a : all_fine (c ∷ cs) ≡ true) where
  fine-first : is_fine (check_command c) ≡ true
  unfolding all_fine
  fine-first = both_left (is_fine (check_command c)) (all_fine cs) a

  fine-rest : all_fine cs ≡ true
  unfolding all_fine
  fine-rest = both_right (is_fine (check_command c)) (all_fine cs) a

-- one more
pub fine_snoc : (cs : List (List ℕ)) (t : List ℕ) → all_fine cs ≡ true → is_fine (check_command t) ≡ true
    → all_fine (cs ++ (t ∷ [])) ≡ true
unfolding all_fine
fine_snoc [] t a f = both (is_fine (check_command t)) true f refl
fine_snoc (c ∷ cs) t a f =
    both (is_fine (check_command c)) (all_fine (cs ++ (t ∷ []))) (fine-first c cs a) (fine_snoc cs t (fine-rest c cs a) f)

onto-fine : (cs : List (List ℕ)) (w : List ℕ) → is_fine (check_command w) ≡ true → all_fine cs ≡ true
    → is_fine (check_command (foldl onto w cs)) ≡ true
onto-fine [] w f a = f
onto-fine (c ∷ cs) [] f a = never refl (accepted-some [] f)
onto-fine (c ∷ cs) (b ∷ w) f a =
    onto-fine cs (join_text (b ∷ w) c) (joins (b ∷ w) c f (fine-first c cs a)) (fine-rest c cs a)

-- accepted commands joined in order are an accepted command
pub joined-fine : (c : List ℕ) (cs : List (List ℕ)) → all_fine (c ∷ cs) ≡ true → is_fine (check_command (joined (c ∷ cs))) ≡ true
unfolding joined
joined-fine c cs a = onto-fine cs c (fine-first c cs a) (fine-rest c cs a)

-- they are nothing only where there are none
pub joined-none : (cs : List (List ℕ)) → all_fine cs ≡ true → is_none (joined cs) ≡ no_commands cs
unfolding joined
joined-none [] a = refl
joined-none (c ∷ cs) a = accepted-some (joined (c ∷ cs)) (joined-fine c cs a)

onto-acts : (cs : List (List ℕ)) (w : List ℕ) (x : Settings) → is_fine (check_command w) ≡ true → all_fine cs ≡ true
    → act x (foldl onto w cs) ≡ foldl act (act x w) cs
onto-acts [] w x f a = refl
onto-acts (c ∷ cs) [] x f a = never refl (accepted-some [] f)
onto-acts (c ∷ cs) (b ∷ w) x f a =
    let g : is_fine (check_command c) ≡ true = fine-first c cs a in
    onto-acts cs (join_text (b ∷ w) c) x (joins (b ∷ w) c f g) (fine-rest c cs a)
    ∙ ap (λ (y : Settings). foldl act y cs) (act-join x (b ∷ w) c f g)

-- they act as the commands one after the other
pub joined-acts : (cs : List (List ℕ)) (x : Settings) → all_fine cs ≡ true → act x (joined cs) ≡ foldl act x cs
unfolding joined
joined-acts [] x a = act-none x
joined-acts (c ∷ cs) x a = onto-acts cs c x (fine-first c cs a) (fine-rest c cs a)

-- all accepted, each is applied
pub acts-applied : (cs : List (List ℕ)) (x : Settings) → all_fine cs ≡ true → foldl act x cs ≡ foldl apply_to x cs
acts-applied [] x a = refl
acts-applied (c ∷ cs) x a = rw (fine-first c cs a) (acts-applied cs (apply_to x c) (fine-rest c cs a))
