-- Without its last entries a journal is the journal of the others.
use mathlib.Core.Path.{◌≡◌, refl, sym, ap, ◌∙◌}
use mathlib.Core.Bool.{true}
use mathlib.Core.List.{List, [], ◌∷◌, ◌++◌}
use Prim.Native.Nat.{ℕ, zero, suc, ◌+◌, ◌-◌, ◌≤◌, ◌<◌}
use native.Mathlib.Omega.{arith}
use native.Mathlib.Nat.{add-zero}
use lib.ListN.{length, take, drop, length-append, take-append-drop}
use lib.Seq.{take-append-le, take_all, take-take, take_at, length-take-le}
use borrow.Author.Tests.{le-leb, lt-leb, ne_eqb}
use Rattle.text.specs.Names.{is_designator}
use Rattle.text.proofs.Cases.{by_le, both_left}
use Rattle.journal.specs.Journal.{Entry, entry_bytes, journal_bytes, all_entries, IsJournal, Read, Sound, Broken, walk, entries_in}
use Rattle.journal.specs.Calls.{without, drop_told, dropped, replay, replayed}
use Rattle.journal.specs.Inner.{kept_at, kept_told}
use Rattle.journal.specs.declared.Kept.{Kept}
use Rattle.journal.proofs.Bytes.{from_end, journal-append, entries-append}
use Rattle.journal.proofs.Entries.{gathers, reads, read_is, broken-walk}
use Rattle.std.specs.Prelude.{Ok}
use Rattle.text.specs.Checks.{refuse}
use Rattle.text.specs.declared.Code.TheVariants.{OutOfRange}

-- the first of a journal's entries are the journal of their bytes
pub first-entries : (s : List ℕ) (end m : ℕ) (es : List Entry) → IsJournal s end es
    → IsJournal s (length (journal_bytes (take m es))) (take m es)
first-entries s end m es j =
    let first = journal_bytes (take m es) in
    let rest = journal_bytes (drop m es) in
    let both : take end s ≡ first ++ rest =
    j.bytes ∙ ap journal_bytes (sym (take-append-drop m es)) ∙ journal-append (take m es) (drop m es) in
    let long : length first + length rest ≡ end =
    sym (sym (length-take-le end s j.inside) ∙ ap length both ∙ length-append first rest) in
    record {
      few = omega (arith, j.few);
      inside = omega (arith, j.inside);
      bytes = sym (take-take (length first) end s (omega arith)) ∙ ap (take (length first)) both ∙ take_at first rest (length first) refl;
      entries =
          both_left (all_entries (take m es)) (all_entries (drop m es))
          (sym (entries-append (take m es) (drop m es)) ∙ ap all_entries (take-append-drop m es) ∙ j.entries);
    }

-- ---- What the walk keeps

-- from the oldest of these entries on, the first one's offset being given
kept_all : ℕ → List Entry → Kept → Kept
kept_all at [] k = k
kept_all at (e ∷ es) k = kept_at at (length e.text) (kept_all (at + length (entry_bytes e)) es k)

kept_more : (at : ℕ) (es : List Entry) (e : Entry) (k : Kept)
    → kept_all at (es ++ (e ∷ [])) k ≡ kept_all at es (kept_at (at + length (journal_bytes es)) (length e.text) k)
unfolding kept_all journal_bytes
kept_more at [] e k = rw (add-zero at)
kept_more at (x ∷ es) e k =
    let place : at + length (entry_bytes x) + length (journal_bytes es) ≡ at + length (entry_bytes x ++ journal_bytes es) =
    omega (arith, length-append (entry_bytes x) (journal_bytes es)) in
    rw (kept_more (at + length (entry_bytes x)) es e k, place)

-- where no more are to be dropped the end stays
kept_stays : (at : ℕ) (es : List Entry) (x : ℕ) → kept_all at es (record { wanted = 0; end = x }) ≡ record { wanted = 0; end = x }
unfolding kept_all kept_at
kept_stays at [] x = refl
kept_stays at (e ∷ es) x = rw (kept_stays (at + length (entry_bytes e)) es x)

zero_plus : (n : ℕ) → 0 + n ≡ n
zero_plus n = omega arith

Right : List Entry → Type 0
Right es = (n : ℕ)
    → kept_told (Sound (kept_all 0 es (record { wanted = n; end = length (journal_bytes es) }))) ≡ drop_told (Sound es) n

right_none : Right []
unfolding Right kept_all kept_told journal_bytes
right_none zero = refl
right_none (suc n) = rw (ne_eqb (suc n) 0 (λ (z : suc n ≡ 0). omega arith), lt-leb (suc n) 0 (omega arith))

right_more : (es : List Entry) (e : Entry) → Right es → Right (es ++ (e ∷ []))
unfolding Right kept_told kept_at
right_more es e before zero =
    let fs = es ++ (e ∷ []) in
    let all : take (length fs - 0) fs ≡ fs = take_all (length fs - 0) fs (omega arith) in
    rw (kept_stays 0 fs (length (journal_bytes fs)), all, le-leb 0 (length fs) (omega arith))
right_more es e before (suc n) =
    let fs = es ++ (e ∷ []) in
    let k : Kept = record { wanted = suc n; end = length (journal_bytes fs) } in
    let long : length fs ≡ suc (length es) = length-append es (e ∷ []) ∙ omega arith in
    let m : suc n - 1 ≡ n = omega arith in
    let left : length fs - suc n ≡ length es - n = omega arith in
    let same : take (length es - n) fs ≡ take (length es - n) es = take-append-le (length es - n) es (e ∷ []) (omega arith) in
    let one : kept_all 0 fs k ≡ kept_all 0 es (record { wanted = n; end = length (journal_bytes es) }) =
    kept_more 0 es e k ∙ rw (zero_plus (length (journal_bytes es)), ne_eqb (suc n) 0 (λ (z : suc n ≡ 0). omega arith), m) in
    ap (λ (x : Kept). kept_told (Sound x)) one
    ∙ before n
    ∙ by_le n (length es)
    (λ (l : n ≤ length es). rw (le-leb n (length es) l, le-leb (suc n) (length fs) (omega arith), left, same))
    (λ l. rw (lt-leb n (length es) l, lt-leb (suc n) (length fs) (omega arith)))

-- the walk answers the length without the last n
pub kept-told : (s : List ℕ) (end n : ℕ) (es : List Entry) → IsJournal s end es
    → kept_told (walk kept_at s end (record { wanted = n; end = end })) ≡ drop_told (Sound es) n
unfolding Right kept_all
kept-told s end n es j =
    let long : end ≡ length (journal_bytes es) = sym (length-take-le end s j.inside) ∙ ap length j.bytes in
    ap kept_told
    (gathers kept_at s (kept_all 0) (λ k. refl) (λ fs e k same. kept_more 0 fs e k ∙ rw (zero_plus (length (journal_bytes fs)))) es end
    (record { wanted = n; end = end }) j)
    ∙ rw long (from_end Right right_none right_more es n)

-- what is dropped, by the walk
pub drop_walks : (s : List ℕ) (end n : ℕ) → dropped s end n ≡ kept_told (walk kept_at s end (record { wanted = n; end = end }))
unfolding dropped kept_told
drop_walks s end n = go (entries_in s end) refl
  where
    go : (r : Read (List Entry)) → entries_in s end ≡ r → drop_told r n ≡ kept_told (walk kept_at s end (record { wanted = n; end = end }))
    go (Sound es) e = sym (kept-told s end n es (read_is s end es e))
    go (Broken place) e = ap kept_told (sym (broken-walk kept_at s end place (record { wanted = n; end = end }) e))

-- ---- Dropping the last n entries, on the bytes

-- a journal is the same without the bytes behind it
pub alone : (s : List ℕ) (end : ℕ) (es : List Entry) → IsJournal s end es → IsJournal (take end s) end es
alone s end es j =
    record {
      few = j.few;
      inside = omega (arith, length-take-le end s j.inside);
      bytes = take-take end end s (omega arith) ∙ j.bytes;
      entries = j.entries;
    }

-- what is left after dropping the last n of these entries: its length, its bytes, and the state that it gives
pub record Leaves (s : List ℕ) (end n : ℕ) (es : List Entry) (d : List ℕ) : Type 0 where
  pub size : ℕ
  pub answer : dropped s end n ≡ Ok size
  pub bytes : take size s ≡ journal_bytes (without n es)
  pub entries : entries_in (take size s) size ≡ Sound (without n es)
  pub state : is_designator d ≡ true → replayed (take size s) size d ≡ Ok (replay d (without n es))

-- up to the count, exactly the first of the entries are left, and their state
pub drop-leaves : (s : List ℕ) (end n : ℕ) (es : List Entry) (d : List ℕ) → entries_in s end ≡ Sound es → n ≤ length es → Leaves s end n es d
unfolding dropped replayed
drop-leaves s end n es d e h =
    let k = length (journal_bytes (without n es)) in
    let j = first-entries s end (length es - n) es (read_is s end es e) in
    let same : entries_in (take k s) k ≡ Sound (without n es) = reads (take k s) k (without n es) (alone s k (without n es) j) in
    record {
      size = k;
      answer = rw (e, le-leb n (length es) h);
      bytes = j.bytes;
      entries = same;
      state = λ named. rw (same, named);
    }

-- and above it the answer is 5 at 0
pub drop-refused : (s : List ℕ) (end n : ℕ) (es : List Entry) → entries_in s end ≡ Sound es → length es < n → dropped s end n ≡ refuse OutOfRange 0
unfolding dropped
drop-refused s end n es e h = rw (e, lt-leb n (length es) h)
