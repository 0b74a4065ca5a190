-- What waits after a run: all accepted commands since the last hand-over, joined in order, acting as they would have.
use mathlib.Core.Path.{◌≡◌, refl, sym, ap, ◌∙◌, subst}
use mathlib.Core.Bool.{true, false, cond}
use mathlib.Core.List.{List, [], ◌∷◌, foldl}
use Prim.Native.Nat.{ℕ, ◌≤◌}
use native.Mathlib.Omega.{arith}
use lib.ListN.{length}
use Rattle.text.specs.Checks.{is_fine}
use Rattle.text.proofs.Cases.{by_test}
use Rattle.settings.specs.declared.Settings.{Settings}
use Rattle.command.specs.Text.{longest, check_command}
use Rattle.config.specs.Config.{apply_to, kept_by, kept}
use Rattle.settings.specs.Valid.{valid}
use Rattle.config.proofs.Valid.{applies_valid}
use Rattle.decide.proofs.Tests.{says_no, by_said}
use Rattle.board.specs.Board.{is_none}
use Rattle.board.specs.History.{joined, act}
use Rattle.board.proofs.Steps.{is-fine}
use Rattle.board.proofs.Joined.{all_fine, accepted-short, joined-fine, joined-acts}
use Rattle.promises.specs.BoardRuns.{Run, now, accepted_for, join_of, NothingWaits, Waits}
use Rattle.promises.proofs.Waits.{waits_in, nothing_said}
use Rattle.promises.proofs.InRun.{joined_is, in_run, none_said}
use Rattle.std.specs.Prelude.{Result, Ok, Err}
use Rattle.text.specs.declared.Refusal.{Refusal}

-- ---- Applied one after the other

kept-act : (x : Settings) (t : List ℕ) → valid x ≡ true → kept x t ≡ act x t
unfolding kept
kept-act x t v = rw v (go (check_command t))
  where
    go : (s : Result (Unit {0}) Refusal) → kept_by s x t ≡ cond (is_fine s) (apply_to x t) x
    go (Ok u) = refl
    go (Err r) = refl

act-valid : (x : Settings) (t : List ℕ) → valid x ≡ true → valid (act x t) ≡ true
act-valid x t v =
    by_test (is_fine (check_command t)) (λ f. rw f (applies_valid x t v (is-fine (check_command t) f))) (λ f. rw f v)

all-kept : (ts : List (List ℕ)) (x : Settings) → valid x ≡ true → foldl kept x ts ≡ foldl act x ts
all-kept [] x v = refl
all-kept (t ∷ ts) x v = rw (kept-act x t v) (all-kept ts (act x t) (act-valid x t v))

none_kept : (x : Settings) (t : List ℕ) → valid x ≡ false → kept x t ≡ x
unfolding kept
none_kept x t v = rw v

stays_kept : (ts : List (List ℕ)) (x : Settings) → valid x ≡ false → foldl kept x ts ≡ x
stays_kept [] x v = refl
stays_kept (t ∷ ts) x v = rw (none_kept x t v) (stays_kept ts x v)

-- ---- After a run

module _ (r : Run) (d : List ℕ) where
  -- the accepted commands, joined, wait
  pub waits : ¬ (accepted_for r d ≡ []) → Waits (now r) d (join_of (accepted_for r d))
  waits n =
      let i = in_run r in
      subst (Waits (now r) d) (i.waits d)
      (waits_in (now r) i.shaped d i.valid (ap is_none (i.waits d) ∙ says_no (none_said r d) n))

  -- where there were none, nothing waits
  pub none : accepted_for r d ≡ [] → NothingWaits (now r) d
  none e =
      let i = in_run r in
      (nothing_said (now r) i.shaped d i.valid).yes_so (ap is_none (i.waits d) ∙ (none_said r d).so_yes e)

  -- they are an accepted command
  pub fine : ¬ (accepted_for r d ≡ []) → check_command (join_of (accepted_for r d)) ≡ (Ok tt)
  fine n = go (accepted_for r d) n ((in_run r).fine d)
    where
      go : (ts : List (List ℕ)) → ¬ (ts ≡ []) → all_fine ts ≡ true → check_command (join_of ts) ≡ (Ok tt)
      go [] n a = absurd (n refl)
      go (t ∷ ts) n a =
          ap check_command (sym (joined_is (t ∷ ts) a)) ∙ is-fine (check_command (joined (t ∷ ts))) (joined-fine t ts a)

  -- in no more bytes than the longest command
  pub short : length (join_of (accepted_for r d)) ≤ longest
  short =
      by_said (none_said r d)
      (λ e. rw e (omega arith))
      (λ n. accepted-short (join_of (accepted_for r d)) (ap is_fine (fine n)))

  -- that leaves every configuration as they would have, one after the other
  pub acts : (x : Settings) → kept x (join_of (accepted_for r d)) ≡ foldl kept x (accepted_for r d)
  acts x =
      let ts : List (List ℕ) = accepted_for r d in
      let f = (in_run r).fine d in
      by_test (valid x)
      (λ v. kept-act x (join_of ts) v ∙ ap (act x) (sym (joined_is ts f)) ∙ joined-acts ts x f ∙ sym (all-kept ts x v))
      (λ v. none_kept x (join_of ts) v ∙ sym (stays_kept ts x v))
