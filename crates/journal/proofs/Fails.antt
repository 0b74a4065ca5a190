-- Where reading from the end first fails, and why: one place, which the bytes decide.
use mathlib.Core.Path.{◌≡◌, refl, sym, ap, ◌∙◌}
use mathlib.Core.Logic.{◌⊎◌, inl, inr}
use mathlib.Core.Bool.{true, false, ◌&&◌}
use mathlib.Core.List.{List, [], ◌∷◌, ◌++◌, append_assoc, append-nil}
use Prim.Native.Nat.{ℕ, zero, suc, ◌+◌, ◌-◌, ◌≤◌, ◌<◌}
use native.Mathlib.Omega.{arith}
use native.Mathlib.Nat.{add-zero}
use lib.Dec.{leb, eqb}
use lib.ListN.{length, take, length-append, length-take}
use borrow.Author.Tests.{leb-true, le-leb}
use Rattle.text.proofs.Cases.{by_test, by_le, both_left, both_right}
use Rattle.field.proofs.Decimal.{part-long}
use Rattle.journal.specs.Journal.{Entry, entry_bytes, journal_bytes, is_entry, all_entries, most, entry_at, is_trailer, length_in, before_trailer, at_trailer, last_entry, Sound, Broken, on_last, walk_back, walk, entries_in, starts_at}
use Rattle.journal.proofs.Ends.{starts, finds, refused}
use Rattle.journal.proofs.Bytes.{from_end, journal-more, entries-more, entry-who, bytes-length, found-bytes, stands-ends, stands-front}
use Rattle.journal.proofs.Walk.{walk_starts, walk-fails}
use Rattle.journal.proofs.Entries.{sound-broken}
use Rattle.std.specs.Prelude.{Result, Ok, Err, Option, Some, None}
use Rattle.text.specs.Checks.{refuse}
use Rattle.text.specs.declared.Code.TheVariants.{JournalBroken}
use Rattle.text.specs.declared.Refusal.{Refusal}
use Rattle.journal.specs.declared.Entry.{Entry as Found}

-- why a step from the end fails, and at which place
pub data Why (s : List ℕ) (here place : ℕ) : Type 0 where
  Limits : place ≡ 0 → ((here < 3) ⊎ (most < here)) ⊎ (length s < here) → Why s here place
  Trailer : place + 3 ≡ here → here ≤ most → here ≤ length s
      → ((front : List ℕ) (e : Entry) → is_entry e ≡ true → take here s ≡ front ++ entry_bytes e → ⊥)
      → Why s here place

fails-same : (p q : ℕ) → ◌≡◌ {A = Result (Option Found) Refusal} (refuse JournalBroken p) (refuse JournalBroken q) → p ≡ q
fails-same p q e =
    let same : ◌≡◌ {A = Refusal} (record { code = JournalBroken; place = p }) (record { code = JournalBroken; place = q }) = cc in
    ap (λ (x : Refusal). x.place) same

pub starts_fails : {P : Type 0} (at n place : ℕ) → starts_at at n ≡ refuse JournalBroken place → P
starts_fails at n place e = let z : ◌≡◌ {A = ℕ} 0 1 = cc in absurd (omega arith)

pub nothing-fails : {P : Type 0} (place : ℕ) → ◌≡◌ {A = Result (Option Found) Refusal} (Ok None) (refuse JournalBroken place) → P
nothing-fails place e = let z : ◌≡◌ {A = ℕ} 0 1 = cc in absurd (omega arith)

trailer-place : (s : List ℕ) (p place : ℕ) → at_trailer s p ≡ refuse JournalBroken place → p ≡ place
unfolding at_trailer before_trailer
trailer-place s p place e =
    by_test (is_trailer s p)
    (λ t. by_test (leb (6 + length_in s p) p && is_entry (entry_at s (p - (6 + length_in s p)) (length_in s p)))
    (λ u. starts_fails _ _ place (rw (t, u) at e))
    (λ u. fails-same p place (rw (t, u) at e)))
    (λ t. fails-same p place (rw t at e))

outside : (s : List ℕ) (here : ℕ) → (leb 3 here && leb here most && leb here (length s)) ≡ false
    → ((here < 3) ⊎ (most < here)) ⊎ (length s < here)
outside s here l =
    by_le 3 here
    (λ three. by_le here most
    (λ few. by_le here (length s)
    (λ inside. let z : true ≡ false = rw (le-leb 3 here three, le-leb here most few, le-leb here (length s) inside) at l in true-false z)
    (λ beyond. inr beyond))
    (λ many. inl (inr many)))
    (λ short. inl (inl short))
  where
    true-false : {P : Type 0} → true ≡ false → P
    true-false e = let z : ◌≡◌ {A = ℕ} 0 1 = cc in absurd (omega arith)

pub why : (s : List ℕ) (here place : ℕ) → last_entry s here ≡ refuse JournalBroken place → Why s here place
unfolding last_entry
why s here place e =
    by_test (eqb here 0)
    (λ z. nothing-fails place (rw z at e))
    (λ z. by_test (leb 3 here && leb here most && leb here (length s))
    (λ l.
    let two = both_left (leb 3 here && leb here most) (leb here (length s)) l in
    let three = leb-true 3 here (both_left (leb 3 here) (leb here most) two) in
    let few = leb-true here most (both_right (leb 3 here) (leb here most) two) in
    let inside = leb-true here (length s) (both_right (leb 3 here && leb here most) (leb here (length s)) l) in
    let p = trailer-place s (here - 3) place (rw (z, l) at e) in
    Trailer (omega (arith, p, three)) few inside
    (λ front x ok is.
    let found = finds s here (length front) (length x.text) (stands-ends s here front x inside is ok few) in
    starts_fails (length front) (length x.text) place (sym found ∙ e)))
    (λ l. Limits (sym (fails-same 0 place (rw (z, l) at e))) (outside s here l)))

-- reading stopped: some entries were read from the end, and before them a step failed
pub record Stopped (s : List ℕ) (end place : ℕ) : Type 0 where
  pub here : ℕ
  pub later : List Entry
  pub read : take end s ≡ take here s ++ journal_bytes later
  pub entries : all_entries later ≡ true
  pub whole : here + length (journal_bytes later) ≡ end
  pub within : (later ≡ []) ⊎ (end ≤ most)
  pub fails : last_entry s here ≡ refuse JournalBroken place

stopped_now : (s : List ℕ) (end place : ℕ) → last_entry s end ≡ refuse JournalBroken place → Stopped s end place
unfolding journal_bytes all_entries
stopped_now s end place e =
    record {
      here = end;
      later = [];
      read = sym (append-nil (take end s));
      entries = refl;
      whole = add-zero end;
      within = inl refl;
      fails = e;
    }

stopped_on : (s : List ℕ) (end at n place : ℕ) → last_entry s end ≡ starts_at at n → Stopped s at place → Stopped s end place
stopped_on s end at n place e x =
    let h = starts s end at n e in
    let more = entry_at s at n in
    let six = entry-who more h.fine in
    let w = h.whole in
    let i = h.inside in
    record {
      here = x.here;
      later = x.later ++ (more ∷ []);
      read =
          found-bytes s end at n h
          ∙ rw (x.read, journal-more x.later more) (append_assoc (take x.here s) (journal_bytes x.later) (entry_bytes more));
      entries = entries-more x.later more ∙ rw x.entries h.fine;
      whole =
          omega (
            arith,
            x.whole,
            ap length (journal-more x.later more),
            length-append (journal_bytes x.later) (entry_bytes more),
            bytes-length more six,
            part-long s (at + 6) n (omega arith),
          );
      within = inr h.few;
      fails = x.fails;
    }

walk_stopped : {A : Type 0} (gather : ℕ → ℕ → A → A) (s : List ℕ) (steps end place : ℕ) (a : A) → end < steps
    → walk_back gather s steps end a ≡ Broken place → Stopped s end place
unfolding walk_back
walk_stopped gather s zero end place a k e = absurd (omega arith)
walk_stopped {A} gather s (suc steps) end place a k e =
    go (last_entry s end) refl e (λ (at n : ℕ) (l : at < end). walk_stopped gather s steps at place (gather at n a) (omega arith))
  where
    go : (l : Result (Option Found) Refusal) → last_entry s end ≡ l
        → on_last l (Sound a) (λ (at n : ℕ). walk_back gather s steps at (gather at n a)) ≡ Broken place
        → ((at n : ℕ) → at < end → walk_back gather s steps at (gather at n a) ≡ Broken place → Stopped s at place)
        → Stopped s end place
    go (Ok None) q w on = sound-broken a place w
    go (Ok (Some f)) q w on =
        let h = (starts s end f.at f.length q).whole in
        stopped_on s end f.at f.length place q (on f.at f.length (omega arith) w)
    go (Err r) q w on =
        let z : r.place ≡ place = cc in
        stopped_now s end place (q ∙ ap Err (refused s end r q ∙ ap (λ (k : ℕ). record { code = JournalBroken; place = k }) z))

-- a journal that is broken at a place has its first failure from the end there
pub broken_where : (s : List ℕ) (end place : ℕ) → entries_in s end ≡ Broken place → Stopped s end place
unfolding entries_in
broken_where s end place e =
    walk_stopped (λ (at n : ℕ) (later : List Entry). entry_at s at n ∷ later) s (suc end) end place [] (omega arith) e

-- and there alone: where some entries were read from the end and the next step fails at a place, the journal is broken at that place
module _ {A : Type 0} (gather : ℕ → ℕ → A → A) (s : List ℕ) (here place : ℕ) (fails : last_entry s here ≡ refuse JournalBroken place) where
  Breaks : List Entry → Type 0
  Breaks later = (end : ℕ) (a : A) → take end s ≡ take here s ++ journal_bytes later → all_entries later ≡ true
      → here + length (journal_bytes later) ≡ end → (later ≡ []) ⊎ (end ≤ most) → walk gather s end a ≡ Broken place

  breaks_none : Breaks []
  unfolding Breaks journal_bytes
  breaks_none end a read ok whole within =
      let z : end ≡ here = sym whole ∙ add-zero here in
      rw z (walk-fails gather s here (record { code = JournalBroken; place = place }) a fails)

  breaks_more : (later : List Entry) (e : Entry) → Breaks later → Breaks (later ++ (e ∷ []))
  unfolding Breaks
  breaks_more later e before end a read all whole within =
      let front : List ℕ = take here s ++ journal_bytes later in
      let both : (all_entries later && is_entry e) ≡ true = sym (entries-more later e) ∙ all in
      let ok = both_right (all_entries later) (is_entry e) both in
      let is : take end s ≡ front ++ entry_bytes e =
      read ∙ rw (journal-more later e) (sym (append_assoc (take here s) (journal_bytes later) (entry_bytes e))) in
      let long = ap length (journal-more later e) ∙ length-append (journal_bytes later) (entry_bytes e) in
      let some = bytes-length e (entry-who e ok) in
      let ends = ap length is ∙ length-append front (entry_bytes e) in
      let fronts = length-append (take here s) (journal_bytes later) in
      let one = length-take end s in
      let two = length-take here s in
      let inside : end ≤ length s = omega arith in
      let at : length front ≡ here + length (journal_bytes later) = omega arith in
      let few : end ≤ most = not-empty within in
      let found = finds s end (length front) (length e.text) (stands-ends s end front e inside is ok few) in
      walk_starts gather s end (length front) (length e.text) a found
      ∙ before (length front) (gather (length front) (length e.text) a) (stands-front s end front e inside is ok)
      (both_left (all_entries later) (is_entry e) both) (sym at) (inr (omega arith))
    where
      not-empty : (later ++ (e ∷ []) ≡ []) ⊎ (end ≤ most) → end ≤ most
      not-empty (inl z) = absurd (omega (arith, ap length z, length-append later (e ∷ [])))
      not-empty (inr few) = few

pub stopped_broken : (s : List ℕ) (end place : ℕ) → Stopped s end place → entries_in s end ≡ Broken place
unfolding entries_in Breaks
stopped_broken s end place x =
    let gather : ℕ → ℕ → List Entry → List Entry = λ (at n : ℕ) (later : List Entry). entry_at s at n ∷ later in
    from_end (Breaks gather s x.here place x.fails) (breaks_none gather s x.here place x.fails)
    (breaks_more gather s x.here place x.fails) x.later end [] x.read x.entries x.whole x.within
