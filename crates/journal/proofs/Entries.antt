-- A journal is sound just where its bytes are those of entries one behind the other; these are then what every walk gathers from.
use mathlib.Core.Path.{◌≡◌, refl, sym, ap, subst, ◌∙◌}
use mathlib.Core.Logic.{◌↔◌}
use mathlib.Core.Bool.{true, ◌&&◌}
use mathlib.Core.List.{List, [], ◌∷◌, ◌++◌, append_assoc, append-nil}
use Prim.Native.Nat.{ℕ, zero, suc}
use native.Mathlib.Omega.{arith}
use lib.ListN.{length, take}
use lib.Seq.{length-take-le}
use Rattle.text.proofs.Cases.{both_left, both_right}
use Rattle.journal.specs.Journal.{Entry, entry_bytes, journal_bytes, is_entry, all_entries, IsJournal, entry_at, last_entry, Sound, Broken, on_last, walk_back, walk, entries_in, starts_at}
use Rattle.journal.proofs.Ends.{starts, finds, nothing, nothing-there}
use Rattle.journal.proofs.Walk.{walk_starts, walk-nothing}
use Rattle.journal.proofs.Bytes.{from_end, journal-more, entries-more, found-bytes, stands-whole, stands-entry, stands-ends, stands-front}
use Rattle.std.specs.Prelude.{Result, Ok, Err, Option, Some, None}
use Rattle.text.specs.declared.Refusal.{Refusal}
use Rattle.journal.specs.declared.Entry.{Entry as Found}

pub sound-broken : {A : Type 0} {P : Type 0} (a : A) (place : ℕ) → Sound a ≡ Broken place → P
sound-broken a place e = let z : ◌≡◌ {A = ℕ} 0 1 = cc in absurd (omega arith)

-- no entries take no bytes
no_bytes : journal_bytes [] ≡ []
unfolding journal_bytes
no_bytes = refl

no-entries : all_entries [] ≡ true
unfolding all_entries
no-entries = refl

empty-journal : (s : List ℕ) → IsJournal s 0 []
empty-journal s = record { few = omega arith; inside = omega arith; bytes = sym no_bytes; entries = no-entries }

-- one entry behind a journal's makes a journal
longer : (s : List ℕ) (end at n : ℕ) (es : List Entry) → last_entry s end ≡ starts_at at n → IsJournal s at es
    → IsJournal s end (es ++ (entry_at s at n ∷ []))
longer s end at n es e j =
    let h = starts s end at n e in
    record {
      few = h.few;
      inside = h.inside;
      bytes = found-bytes s end at n h ∙ rw j.bytes (sym (journal-more es (entry_at s at n)));
      entries = entries-more es (entry_at s at n) ∙ rw j.entries h.fine;
    }

-- where a walk ends there are entries whose bytes these are
pub sound-is : {A : Type 0} (gather : ℕ → ℕ → A → A) (s : List ℕ) (steps end : ℕ) (a r : A)
    → walk_back gather s steps end a ≡ Sound r → (es : List Entry) × IsJournal s end es
unfolding walk_back
sound-is gather s zero end a r e = sound-broken r 0 (sym e)
sound-is {A} gather s (suc steps) end a r e =
    go (last_entry s end) refl e (λ (at n : ℕ). sound-is gather s steps at (gather at n a) r)
  where
    go : (l : Result (Option Found) Refusal) → last_entry s end ≡ l
        → on_last l (Sound a) (λ (at n : ℕ). walk_back gather s steps at (gather at n a)) ≡ Sound r
        → ((at n : ℕ) → walk_back gather s steps at (gather at n a) ≡ Sound r → (es : List Entry) × IsJournal s at es)
        → (es : List Entry) × IsJournal s end es
    go (Ok None) q w on = ([], subst (λ (k : ℕ). IsJournal s k []) (sym (nothing s end q)) (empty-journal s))
    go (Ok (Some x)) q w on = let f = on x.at x.length w in (f.0 ++ (entry_at s x.at x.length ∷ []), longer s end x.at x.length f.0 q f.1)
    go (Err x) q w on = sound-broken r x.place (sym w)

-- where a walk fails, every other fails too, at the same place
pub all-broken : {A B : Type 0} (f : ℕ → ℕ → A → A) (g : ℕ → ℕ → B → B) (s : List ℕ) (steps end place : ℕ) (a : A) (b : B)
    → walk_back f s steps end a ≡ Broken place → walk_back g s steps end b ≡ Broken place
unfolding walk_back
all-broken f g s zero end place a b e = cc
all-broken {A} {B} f g s (suc steps) end place a b e =
    go (last_entry s end) e (λ (at n : ℕ). all-broken f g s steps at place (f at n a) (g at n b))
  where
    go : (l : Result (Option Found) Refusal)
        → on_last l (Sound a) (λ (at n : ℕ). walk_back f s steps at (f at n a)) ≡ Broken place
        → ((at n : ℕ) → walk_back f s steps at (f at n a) ≡ Broken place → walk_back g s steps at (g at n b) ≡ Broken place)
        → on_last l (Sound b) (λ (at n : ℕ). walk_back g s steps at (g at n b)) ≡ Broken place
    go (Ok None) w on = sound-broken a place w
    go (Ok (Some x)) w on = on x.at x.length w
    go (Err x) w on = cc

-- ---- The newest entry of a journal

-- it is found from the end, and the others are the journal before it
pub record Newest (s : List ℕ) (end : ℕ) (es : List Entry) (e : Entry) : Type 0 where
  pub found : last_entry s end ≡ starts_at (length (journal_bytes es)) (length e.text)
  pub read : entry_at s (length (journal_bytes es)) (length e.text) ≡ e
  pub before : IsJournal s (length (journal_bytes es)) es

pub newest : (s : List ℕ) (end : ℕ) (es : List Entry) (e : Entry) → IsJournal s end (es ++ (e ∷ [])) → Newest s end es e
newest s end es e j =
    let front = journal_bytes es in
    let is : take end s ≡ front ++ entry_bytes e = j.bytes ∙ journal-more es e in
    let both : (all_entries es && is_entry e) ≡ true = sym (entries-more es e) ∙ j.entries in
    let ok = both_right (all_entries es) (is_entry e) both in
    let whole = stands-whole s end front e j.inside is ok in
    record {
      found = finds s end (length front) (length e.text) (stands-ends s end front e j.inside is ok j.few);
      read = stands-entry s end front e j.inside is ok;
      before =
          record {
            few = omega (arith, j.few);
            inside = omega (arith, j.inside);
            bytes = stands-front s end front e j.inside is ok;
            entries = both_left (all_entries es) (is_entry e) both;
          };
    }

-- no entries end at byte 0
pub none_left : (s : List ℕ) (end : ℕ) → IsJournal s end [] → end ≡ 0
none_left s end j = sym (length-take-le end s j.inside) ∙ ap length (j.bytes ∙ no_bytes)

-- ---- What a walk gathers from a journal's entries

-- `all` says what is gathered from a list of entries: nothing from none, and from one more what that one adds first
module _ {A : Type 0} (gather : ℕ → ℕ → A → A) (s : List ℕ) (all : List Entry → A → A) (none : (a : A) → all [] a ≡ a)
    (more : (es : List Entry) (e : Entry) (a : A) → entry_at s (length (journal_bytes es)) (length e.text) ≡ e
    → all (es ++ (e ∷ [])) a ≡ all es (gather (length (journal_bytes es)) (length e.text) a)) where
  Gathers : List Entry → Type 0
  Gathers es = (end : ℕ) (a : A) → IsJournal s end es → walk gather s end a ≡ Sound (all es a)

  one_more : (es : List Entry) (e : Entry) → Gathers es → Gathers (es ++ (e ∷ []))
  unfolding Gathers
  one_more es e before end a j =
      let x = newest s end es e j in
      let at = length (journal_bytes es) in
      let n = length e.text in
      walk_starts gather s end at n a x.found ∙ before at (gather at n a) x.before ∙ ap Sound (sym (more es e a x.read))

  no_more : Gathers []
  unfolding Gathers
  no_more end a j = rw (none_left s end j, walk-nothing gather s 0 a (nothing-there s), none a)

  pub gathers : (es : List Entry) (end : ℕ) (a : A) → IsJournal s end es → walk gather s end a ≡ Sound (all es a)
  unfolding Gathers
  gathers = from_end Gathers no_more one_more

-- ---- The entries themselves

-- the journal of entries is read as these entries
pub reads : (s : List ℕ) (end : ℕ) (es : List Entry) → IsJournal s end es → entries_in s end ≡ Sound es
unfolding entries_in
reads s end es j =
    gathers (λ (at n : ℕ) (later : List Entry). entry_at s at n ∷ later) s (λ fs later. fs ++ later) (λ later. refl)
    (λ fs e later same. append_assoc fs (e ∷ []) later ∙ ap (λ (x : Entry). fs ++ (x ∷ later)) (sym same)) es end [] j
    ∙ ap Sound (append-nil es)

sound-same : (es fs : List Entry) → Sound es ≡ Sound fs → es ≡ fs
sound-same es fs e = cc

-- and nothing else is
pub read_is : (s : List ℕ) (end : ℕ) (es : List Entry) → entries_in s end ≡ Sound es → IsJournal s end es
unfolding entries_in
read_is s end es e =
    let f = sound-is (λ (at n : ℕ) (later : List Entry). entry_at s at n ∷ later) s (suc end) end [] es e in
    let same : f.0 ≡ es = sound-same f.0 es (sym (reads s end f.0 f.1) ∙ e) in
    subst (IsJournal s end) same f.1

-- a journal is sound, and has these entries, just where its bytes are theirs, within both limits
pub sound_where : (s : List ℕ) (end : ℕ) (es : List Entry) → (entries_in s end ≡ Sound es) ↔ IsJournal s end es
sound_where s end es = (read_is s end es, reads s end es)

-- no bytes are the journal of two different lists of entries
pub one_list : (s : List ℕ) (end : ℕ) (es fs : List Entry) → IsJournal s end es → IsJournal s end fs → es ≡ fs
one_list s end es fs j k = sound-same es fs (sym (reads s end es j) ∙ reads s end fs k)

-- where reading fails, every walk does
pub broken-walk : {A : Type 0} (gather : ℕ → ℕ → A → A) (s : List ℕ) (end place : ℕ) (a : A) → entries_in s end ≡ Broken place
    → walk gather s end a ≡ Broken place
unfolding entries_in
broken-walk gather s end place a e =
    all-broken (λ (at n : ℕ) (later : List Entry). entry_at s at n ∷ later) gather s (suc end) end place [] a e

-- and reading fails where one does
pub walk-broken : {A : Type 0} (gather : ℕ → ℕ → A → A) (s : List ℕ) (end place : ℕ) (a : A) → walk gather s end a ≡ Broken place
    → entries_in s end ≡ Broken place
unfolding entries_in
walk-broken gather s end place a e =
    all-broken gather (λ (at n : ℕ) (later : List Entry). entry_at s at n ∷ later) s (suc end) end place a [] e
