-- One command that is joined from the newest entry to the oldest acts as the commands in order.
use mathlib.Core.Path.{◌≡◌, refl, sym, ap, subst, ◌∙◌}
use mathlib.Core.Bool.{true, cond}
use mathlib.Core.List.{List, [], ◌∷◌, ◌++◌, foldl}
use Prim.Native.Nat.{ℕ, ◌+◌, ◌≤◌}
use native.Mathlib.Omega.{arith}
use lib.ListN.{length, take}
use lib.Seq.{length-take-le}
use borrow.Author.Tests.{le-leb}
use Rattle.text.specs.Equal.{same_bytes}
use Rattle.text.specs.Over.{over}
use Rattle.text.proofs.Over.{length_over, found-over}
use Rattle.text.proofs.Cases.{by_test, both_left, both_right}
use Rattle.settings.specs.Valid.{reset}
use Rattle.settings.specs.declared.Settings.{Settings}
use Rattle.command.specs.Text.{longest, check_command}
use Rattle.command.proofs.Accepted.{accepted}
use Rattle.config.specs.Config.{apply_to, outcome, applied}
use Rattle.config.proofs.Valid.{reset-valid}
use Rattle.join.specs.Join.{join, join_text, no_change_text}
use Rattle.join.proofs.Laws.{join-fine, join-short, join-acts, no-change-fine, no-change_applies}
use Rattle.journal.specs.Journal.{Entry, is_entry, all_entries, IsJournal, Read, Sound, Broken, walk, entries_in}
use Rattle.journal.specs.Calls.{texts_for, replay}
use Rattle.journal.specs.Inner.{joined_at, Holds, Gathered}
use Rattle.journal.proofs.Bytes.{entry-text}
use Rattle.journal.proofs.Entries.{gathers, sound-broken, read_is, broken-walk}
use Rattle.std.specs.Prelude.{Ok, Result, Err}
use Rattle.text.specs.Checks.{refuse}
use Rattle.text.specs.declared.Code.TheVariants.{JournalBroken}
use Rattle.text.specs.declared.Refusal.{Refusal}
use Rattle.join.specs.declared.Fault.{Fault}

-- an entry's command before those that are later, where it is for the aircraft
abbrev pub joined_entry : List ℕ → Entry → List ℕ → List ℕ
joined_entry d e later = cond (same_bytes d e.who) (join_text e.text later) later

unfoldable pub joined_all : List ℕ → List Entry → List ℕ → List ℕ
joined_all d [] later = later
joined_all d (e ∷ es) later = joined_entry d e (joined_all d es later)

joined-more : (d : List ℕ) (es : List Entry) (e : Entry) (later : List ℕ)
    → joined_all d (es ++ (e ∷ [])) later ≡ joined_all d es (joined_entry d e later)
unfolding joined_all
joined-more d [] e later = refl
joined-more d (x ∷ es) e later = ap (joined_entry d x) (joined-more d es e later)

-- the walk joins them all
pub joined-all : (s d : List ℕ) (es : List Entry) (end : ℕ) (later : List ℕ) → IsJournal s end es
    → walk (joined_at s d) s end later ≡ Sound (joined_all d es later)
unfolding joined_all joined_at
joined-all s d =
    gathers (joined_at s d) s (joined_all d) (λ later. refl)
    (λ es e later same. joined-more d es e later ∙ ap (λ (x : Entry). joined_all d es (joined_entry d x later)) (sym same))

module _ (d : List ℕ) where
  -- an accepted command
  pub joined-fine : (es : List Entry) (later : List ℕ) → all_entries es ≡ true → check_command later ≡ (Ok tt)
      → check_command (joined_all d es later) ≡ (Ok tt)
  unfolding joined_all all_entries
  joined-fine [] later ok fine = fine
  joined-fine (e ∷ es) later ok fine =
      let rest = joined-fine es later (both_right (is_entry e) (all_entries es) ok) fine in
      let own = entry-text e (both_left (is_entry e) (all_entries es) ok) in
      by_test (same_bytes d e.who)
      (λ t. rw t (join-fine e.text (joined_all d es later) own rest))
      (λ t. rw t rest)

  -- that acts as all of them in order, and then the later one
  joined-acts : (es : List Entry) (later : List ℕ) → all_entries es ≡ true → check_command later ≡ (Ok tt) → (x : Settings)
      → apply_to x (joined_all d es later) ≡ apply_to (foldl apply_to x (texts_for d es)) later
  unfolding joined_all all_entries texts_for
  joined-acts [] later ok fine x = refl
  joined-acts (e ∷ es) later ok fine x =
      let rest = joined-fine es later (both_right (is_entry e) (all_entries es) ok) fine in
      let own = entry-text e (both_left (is_entry e) (all_entries es) ok) in
      let on = joined-acts es later (both_right (is_entry e) (all_entries es) ok) fine in
      by_test (same_bytes d e.who)
      (λ t. rw t (join-acts e.text (joined_all d es later) own rest x ∙ on (apply_to x e.text)))
      (λ t. rw t (on x))

  -- applied after reset it is the replay
  pub joined-replays : (es : List Entry) → all_entries es ≡ true → apply_to reset (joined_all d es no_change_text) ≡ replay d es
  unfolding replay
  joined-replays es ok =
      joined-acts es no_change_text ok no-change-fine reset ∙ no-change_applies (foldl apply_to reset (texts_for d es))

-- ---- What the walk over the commands tells

sound-text : (t u : List ℕ) → Sound t ≡ Sound u → t ≡ u
sound-text t u e = cc

length-refused : {P : Type 0} (n : ℕ) (r : Refusal) → ◌≡◌ {A = Result ℕ Refusal} (Err r) (Ok n) → P
length-refused n r e = let z : ◌≡◌ {A = ℕ} 0 1 = cc in absurd (omega arith)

module _ (s d : List ℕ) (end : ℕ) where
  -- the walk ended, and the buffer holds what it gathered
  pub gathered_sound : (m : ℕ) (bytes t : List ℕ) → walk (joined_at s d) s end no_change_text ≡ Sound t → Holds bytes m t
      → Gathered s d end (Ok m) bytes
  gathered_sound m bytes t e h =
      let long : length t ≡ m = ap length (sym h.found) ∙ length-take-le m bytes (omega (arith, h.room, h.short)) in
      record {
        broken = λ place b. sound-broken t place (sym e ∙ b);
        sound = λ u w.
            let same : t ≡ u = sound-text t u (sym e ∙ w) in
            (ap Ok (sym (ap length (sym same) ∙ long)), subst (λ (v : List ℕ). Holds bytes (length v) v) same (rw long h));
      }

  -- it failed
  pub gathered_broken : (place : ℕ) (bytes : List ℕ) → walk (joined_at s d) s end no_change_text ≡ Broken place
      → Gathered s d end (refuse JournalBroken place) bytes
  gathered_broken place bytes e =
      record {
        broken = λ p b. let same : place ≡ p = broken-same place p (sym e ∙ b) in rw same;
        sound = λ t w. sound-broken t place (sym w ∙ e);
      }
    where
      broken-same : (p q : ℕ) → ◌≡◌ {A = Read (List ℕ)} (Broken p) (Broken q) → p ≡ q
      broken-same p q b = cc

  -- a refusal is that of a broken journal
  pub told-refused : (x : Refusal) (bytes : List ℕ) → Gathered s d end (Err x) bytes
      → (x ≡ record { code = JournalBroken; place = x.place }) × (entries_in s end ≡ Broken x.place)
  told-refused x bytes g = go (entries_in s end) refl
    where
      go : (r : Read (List Entry)) → entries_in s end ≡ r → (x ≡ record { code = JournalBroken; place = x.place }) × (r ≡ Broken x.place)
      go (Sound es) e = length-refused _ x (g.sound _ (joined-all s d es end no_change_text (read_is s end es e))).0
      go (Broken p) e =
          let told : ◌≡◌ {A = Result ℕ Refusal} (Err x) (refuse JournalBroken p) = g.broken p (broken-walk (joined_at s d) s end p no_change_text e) in
          let same : ◌≡◌ {A = Refusal} x (record { code = JournalBroken; place = p }) = cc in
          let z : x.place ≡ p = ap (λ (y : Refusal). y.place) same in
          (same ∙ ap (λ (k : ℕ). record { code = JournalBroken; place = k }) (sym z), ap Broken (sym z))

  -- a length is that of one command which acts as the journal's for the aircraft
  pub told-length : (m : ℕ) (bytes : List ℕ) → Gathered s d end (Ok m) bytes
      → (es : List Entry) × (entries_in s end ≡ Sound es) × Holds bytes m (joined_all d es no_change_text)
  told-length m bytes g = go (entries_in s end) refl
    where
      go : (r : Read (List Entry)) → entries_in s end ≡ r
          → (es : List Entry) × (r ≡ Sound es) × Holds bytes m (joined_all d es no_change_text)
      go (Sound es) e =
          let t = joined_all d es no_change_text in
          let f = g.sound t (joined-all s d es end no_change_text (read_is s end es e)) in
          let told = f.0 in
          let z : m ≡ length t = cc in
          (es, refl, rw z f.1)
      go (Broken p) e = length-refused m (record { code = JournalBroken; place = p }) (sym (g.broken p (broken-walk (joined_at s d) s end p no_change_text e)))

-- ---- The join that is written

-- two accepted commands are joined in the longest's bytes
pub joins : (a b : List ℕ) → check_command a ≡ (Ok tt) → check_command b ≡ (Ok tt) → join a b longest ≡ Ok (join_text a b)
unfolding join
joins a b x y = rw (x, y, le-leb (length (join_text a b)) longest (join-short a b x y))

-- so that the join is never refused, and its length is told
pub text-refused : {P : Type 0} (n : ℕ) (f : Fault) → ◌≡◌ {A = Result ℕ Fault} (Ok n) (Err f) → P
text-refused n f e = let z : ◌≡◌ {A = ℕ} 0 1 = cc in absurd (omega arith)

pub text_same : (m n : ℕ) → ◌≡◌ {A = Result ℕ Fault} (Ok m) (Ok n) → m ≡ n
text_same m n e = cc

-- what a command applied after reset answers
pub applied-reset : (t : List ℕ) → check_command t ≡ (Ok tt) → applied reset t ≡ Ok (outcome reset t)
unfolding applied
applied-reset t e = rw (reset-valid, e)

-- a command written over the start of a buffer for any command
pub held-over : (bytes t : List ℕ) → length bytes ≡ longest → check_command t ≡ (Ok tt) → Holds (over bytes 0 t) (length t) t
held-over bytes t long fine =
    let short : length t ≤ longest = (accepted t fine).short in
    let fits : 0 + length t ≤ length bytes = omega arith in
    record {
      room = length_over bytes 0 t fits ∙ long;
      short = short;
      found = found-over bytes 0 t fits;
      fine = fine;
    }

-- a buffer that holds a command holds its own first bytes
pub held_same : {bytes : List ℕ} {n : ℕ} {t : List ℕ} → Holds bytes n t → Holds bytes n (take n bytes)
held_same h = record { room = h.room; short = h.short; found = refl; fine = rw h.found h.fine }
