-- Demand 3 of two commands joined, as specs/Join says it.
use mathlib.Core.Path.{◌≡◌, refl, sym, ap, ap₂, ◌∙◌}
use mathlib.Core.Logic.{◌↔◌}
use mathlib.Core.Bool.{Bool, true, false, cond}
use mathlib.Core.List.{List}
use Prim.Native.Nat.{ℕ, ◌≤◌, ◌<◌, max}
use native.Mathlib.Omega.{arith}
use native.Mathlib.Nat.{zero-add}
use lib.Dec.{leb}
use lib.ListN.{length, take, drop}
use borrow.Author.Tests.{leb-true, le-leb, lt-leb}
use Rattle.text.proofs.Over.{found-over, after-over}
use Rattle.settings.specs.declared.Settings.{Settings}
use Rattle.command.specs.Text.{check_command}
use Rattle.command.specs.Record.{downlink_of}
use Rattle.command.proofs.Codes.{check-coded}
use Rattle.config.specs.Config.{apply_to, applied, kept}
use Rattle.settings.specs.Valid.{valid}
use Rattle.config.proofs.Valid.{applies_valid}
use Rattle.join.specs.Join.{Joined, join_text, no_change_text, by_seen, join, joined_over}
use Rattle.join.proofs.Laws.{join-fine, join-short, join-downlink, join-acts, join_groups, no-change-fine, no-change-join, join-no-change}
use Rattle.desk.specs.Numbers.{answer_of, check_numbers}
use Rattle.desk.specs.Joins.{join_numbers}
use Rattle.promises.specs.BoardRuns.{IsAccepted}
use Rattle.promises.specs.Join.{naming, join_answer, buffer_joined, apply_answer, JoinedInto, ActsAsBoth, JoinPromises}
use Rattle.promises.proofs.Codes.{accepted-fine, fine-accepted}
use Rattle.std.specs.Prelude.{Result, Ok, Err}
use Rattle.text.specs.declared.Refusal.{Refusal}
use Rattle.join.specs.declared.Fault.TheVariants.{Room}

-- ---- The call

-- accepted texts, given room
joins-is : (a b : List ℕ) (room : ℕ) → check_command a ≡ (Ok tt) → check_command b ≡ (Ok tt) → length (join_text a b) ≤ room
    → join a b room ≡ Ok (join_text a b)
unfolding join
joins-is a b room x y l = rw (x, y, le-leb (length (join_text a b)) room l)

joins : (a b out : List ℕ) → IsAccepted a → IsAccepted b → length (join_text a b) ≤ length out → JoinedInto a b out
joins a b out x y l =
    let k : join a b (length out) ≡ Ok (join_text a b) = joins-is a b (length out) (accepted-fine a x) (accepted-fine b y) l in
    let t : List ℕ = join_text a b in
    let over-is = ap (λ (j : Joined). joined_over j out) k in
    record {
      answer = ap join_numbers k;
      text = ap (take (length t)) over-is ∙ found-over out 0 t (rw zero-add l);
      rest = ap (drop (length t)) over-is ∙ rw zero-add at (after-over out 0 t (rw zero-add l));
    }

zero-only : (a b : List ℕ) (x y : Result (Unit {0}) Refusal) (room : ℕ) → check_command a ≡ x → check_command b ≡ y
    → (join_numbers (by_seen x y (join_text a b) room)).code ≡ 0
    → (x ≡ (Ok tt)) × (y ≡ (Ok tt)) × (length (join_text a b) ≤ room)
zero-only a b (Err r) y room e f z = let l = (check-coded a r e).0 in absurd (omega arith)
zero-only a b (Ok u) (Err r) room e f z = let l = (check-coded b r f).0 in absurd (omega arith)
zero-only a b (Ok u) (Ok v) room e f z = (refl, refl, go (leb (length (join_text a b)) room) refl z)
  where
    go : (t : Bool) → leb (length (join_text a b)) room ≡ t
        → (join_numbers (cond t (Ok (join_text a b)) (Err Room))).code ≡ 0 → length (join_text a b) ≤ room
    go true h q = leb-true (length (join_text a b)) room h
    go false h q = absurd (omega arith)

zero : (a b out : List ℕ)
    → ((join_answer a b out).code ≡ 0) ↔ (IsAccepted a × IsAccepted b × (length (join_text a b) ≤ length out))
unfolding join
zero a b out = (
  λ z.
      let q = zero-only a b (check_command a) (check_command b) (length out) refl refl z in
      (fine-accepted a q.0, fine-accepted b q.1, q.2),
  λ q. ap (λ (j : Joined). (join_numbers j).code) (joins-is a b (length out) (accepted-fine a q.0) (accepted-fine b q.1) q.2),
)

-- ---- Refusals

first-refused : (a b out : List ℕ) → ¬ IsAccepted a → join_answer a b out ≡ naming 1 (check_numbers (check_command a))
unfolding join
first-refused a b out n = go (check_command a) n
  where
    go : (x : Result (Unit {0}) Refusal) → ¬ ((check_numbers x).code ≡ 0)
        → join_numbers (by_seen x (check_command b) (join_text a b) (length out)) ≡ naming 1 (check_numbers x)
    go (Ok u) m = absurd (m refl)
    go (Err r) m = refl

second-refused : (a b out : List ℕ) → IsAccepted a → ¬ IsAccepted b → join_answer a b out ≡ naming 2 (check_numbers (check_command b))
unfolding join
second-refused a b out x n = rw (accepted-fine a x) (go (check_command b) n)
  where
    go : (y : Result (Unit {0}) Refusal) → ¬ ((check_numbers y).code ≡ 0) → join_numbers (by_seen (Ok tt) y (join_text a b) (length out)) ≡ naming 2 (check_numbers y)
    go (Ok u) m = absurd (m refl)
    go (Err r) m = refl

no_room : (a b out : List ℕ) → IsAccepted a → IsAccepted b → length out < length (join_text a b) → join_answer a b out ≡ answer_of 2 0
unfolding join
no_room a b out x y l = rw (accepted-fine a x, accepted-fine b y, lt-leb (length (join_text a b)) (length out) l)

untouched : (a b out : List ℕ) → ¬ ((join_answer a b out).code ≡ 0) → buffer_joined a b out ≡ out
untouched a b out n = go (join a b (length out)) n
  where
    go : (j : Joined) → ¬ ((join_numbers j).code ≡ 0) → joined_over j out ≡ out
    go (Ok t) m = absurd (m refl)
    go (Err f) m = refl

-- ---- Applied

module _ (x : Settings) (t : List ℕ) (v : valid x ≡ true) (k : check_command t ≡ (Ok tt)) where
  -- what is left where both are accepted
  pub kept-is : kept x t ≡ apply_to x t
  unfolding kept
  kept-is = rw (v, k)

  applied-code : (apply_answer x t).code ≡ 0
  unfolding applied
  applied-code = rw (v, k)

  applied-downlink : (apply_answer x t).downlink ≡ downlink_of t
  unfolding applied
  applied-downlink = rw (v, k)

acts : (x : Settings) (a b : List ℕ) → valid x ≡ true → IsAccepted a → IsAccepted b → ActsAsBoth x a b
acts x a b v p q =
    let m = accepted-fine a p in
    let n = accepted-fine b q in
    let both = join-fine a b m n in
    let then : kept x a ≡ apply_to x a = kept-is x a v m in
    let still : valid (kept x a) ≡ true = ap valid then ∙ applies_valid x a v m in
    record {
      first = applied-code x a v m;
      second = applied-code (kept x a) b still n;
      joined = applied-code x (join_text a b) v both;
      same =
          kept-is x (join_text a b) v both
          ∙ join-acts a b m n x
          ∙ ap (λ (y : Settings). apply_to y b) (sym then)
          ∙ sym (kept-is (kept x a) b still n);
      downlink =
          applied-downlink x (join_text a b) v both
          ∙ join-downlink a b m n
          ∙ ap₂ max (sym (applied-downlink x a v m)) (sym (applied-downlink (kept x a) b still n));
    }

-- ---- All of it

pub join_promises : JoinPromises
join_promises =
    record {
      joins = joins;
      fine = λ a b x y. fine-accepted (join_text a b) (join-fine a b (accepted-fine a x) (accepted-fine b y));
      short = λ a b x y. join-short a b (accepted-fine a x) (accepted-fine b y);
      zero = zero;
      first-refused = first-refused;
      second-refused = second-refused;
      no_room = no_room;
      untouched = untouched;
      acts = acts;
      grouping = λ a b c x y z. join_groups a b c (accepted-fine a x) (accepted-fine b y) (accepted-fine c z);
      no_change = fine-accepted no_change_text no-change-fine;
      no-change-first = λ a x. no-change-join a (accepted-fine a x);
      no-change-second = λ a x. join-no-change a (accepted-fine a x);
    }
