-- Document 02, §8, as specs/Journal says it.
use mathlib.Core.Path.{◌≡◌, refl, sym, ap, subst, ◌∙◌}
use mathlib.Core.Bool.{cond}
use mathlib.Core.Logic.{◌↔◌, inl, inr}
use mathlib.Core.List.{List, [], ◌∷◌, ◌++◌, foldl, foldl-append}
use Prim.Native.Nat.{ℕ, ◌+◌, ◌-◌, ◌≤◌, ◌<◌}
use native.Mathlib.Omega.{arith}
use native.Mathlib.Nat.{zero-add}
use lib.ListN.{length, take, drop}
use borrow.Author.Tests.{le-leb, lt-leb}
use Rattle.text.specs.Checks.{must, ◌and_then◌, refuse}
use Rattle.text.specs.Equal.{same_bytes}
use Rattle.text.specs.Over.{over}
use Rattle.text.specs.Parts.{part}
use Rattle.text.proofs.Cases.{by_test, by_eq, by_le}
use Rattle.text.proofs.Equal.{same_self, same-equal}
use Rattle.text.proofs.Over.{before-over, found-over, after-over}
use Rattle.settings.specs.Valid.{reset}
use Rattle.settings.specs.declared.Settings.{Settings}
use Rattle.command.specs.Text.{check_command}
use Rattle.config.specs.Config.{apply_to}
use Rattle.decide.proofs.Tests.{says_no}
use Rattle.journal.specs.Journal.{Entry, entry_bytes, journal_bytes, most, entry_at, last_entry, Read, Sound, Broken, entries_in}
use Rattle.journal.specs.Calls.{seen_of, told, check_journal, taken, new_end, fits_in, add_seen, added, left_by, added_over, dropped, texts_for, replay, replayed}
use Rattle.journal.specs.Printed.{printed, print_seen, print_told, printed_over}
use Rattle.journal.specs.declared.Entry.{Entry as Found}
use Rattle.journal.proofs.Ends.{starts, finds, nothing, refused, nothing-there}
use Rattle.journal.proofs.Bytes.{found-bytes, stands-ends}
use Rattle.journal.proofs.Entries.{read_is, newest, none_left}
use Rattle.journal.proofs.Unique.{unique}
use Rattle.journal.proofs.Fails.{Why, Limits, Trailer, why, broken_where, stopped_broken, starts_fails, nothing-fails}
use Rattle.journal.proofs.Added.{new_end_lem, one_written, add-fine}
use Rattle.journal.proofs.Dropped.{first-entries, alone, drop-refused}
use Rattle.journal.proofs.Lines.{digits_hold, no-leading-zero}
use Rattle.journal.proofs.Shown.{prints, prints-nothing, one_journal, one_line, one-prints}
use Rattle.desk.specs.Numbers.{accepted, answer_of, check_numbers, length_numbers}
use Rattle.promises.specs.BoardRuns.{IsAccepted, SixAllowed}
use Rattle.promises.specs.Journal.{check_answer, last_answer, add_answer, drop_answer, replay_answer, settings_after, print_answer, FailsAt, AddedTo, DroppedTo, PrintedTo, JournalPromises}
use Rattle.promises.specs.JournalBytes.{bytes_of, all_bytes, SoundEntry, AllSound, JournalOf, lines_from}
use Rattle.promises.proofs.Codes.{designator-said, accepted-fine}
use Rattle.promises.proofs.JournalBytes.{sound-entry, entry-sound, all_sound, sound-all, entry-same, bytes_same, journal-of, is-journal, reads_of, lines_same, last-sound, texts-last}
use Rattle.std.specs.Prelude.{Result, Ok, Err, Option, Some, None}
use Rattle.text.specs.declared.Refusal.{Refusal}
use Rattle.text.specs.declared.Code.TheVariants.{NoRoom, JournalBroken}

-- ---- Checking

abbrev seen : Read (List Entry) → Result (Unit {0}) Refusal
seen r = seen_of r (λ (es : List Entry). (Ok tt))

is-sound : (s : List ℕ) (end : ℕ) → (check_answer s end).code ≡ 0 → (es : List Entry) × (entries_in s end ≡ Sound es)
unfolding check_journal
is-sound s end z = go (entries_in s end) z
  where
    go : (r : Read (List Entry)) → (check_numbers (seen r)).code ≡ 0 → (es : List Entry) × (r ≡ Sound es)
    go (Sound es) q = (es, refl)
    go (Broken place) q = absurd (omega arith)

not_sound : (s : List ℕ) (end : ℕ) → ¬ ((check_answer s end).code ≡ 0) → (place : ℕ) × (entries_in s end ≡ Broken place)
unfolding check_journal
not_sound s end n = go (entries_in s end) n
  where
    go : (r : Read (List Entry)) → ¬ ((check_numbers (seen r)).code ≡ 0) → (place : ℕ) × (r ≡ Broken place)
    go (Sound es) q = absurd (q refl)
    go (Broken place) q = (place, refl)

accepts : (s : List ℕ) (end : ℕ) → ((check_answer s end).code ≡ 0) ↔ ((es : List Entry) × JournalOf s end es)
unfolding check_journal
accepts s end = (
  λ z. let f = is-sound s end z in (f.0, journal-of s end f.0 (read_is s end f.0 f.1)),
  λ f. rw (reads_of s end f.0 f.1),
)

one_list : (es fs : List Entry) → AllSound es → AllSound fs → all_bytes es ≡ all_bytes fs → es ≡ fs
one_list es fs x y e = unique es fs (sound-all es x) (sound-all fs y) (sym (bytes_same es) ∙ e ∙ bytes_same fs)

-- ---- Where reading fails

module _ (s : List ℕ) (here place : ℕ) (e : last_entry s here ≡ refuse JournalBroken place) where
  some_left : 1 ≤ here
  some_left =
      by_eq here 0
      (λ (z : here ≡ 0). nothing-fails place (sym (nothing-there s) ∙ ap (last_entry s) (sym z) ∙ e))
      (λ n. omega arith)

  none-there : here ≤ 65535 → here ≤ length s → (front : List ℕ) (x : Entry) → SoundEntry x → take here s ≡ front ++ bytes_of x → ⊥
  none-there few inside front x ok is =
      starts_fails (length front) (length x.text) place
      (sym (finds s here (length front) (length x.text) (stands-ends s here front x inside (is ∙ rw (entry-same x)) (entry-sound x ok) few)) ∙ e)

  at-trailer : Why s here place → 3 ≤ here → here ≤ 65535 → here ≤ length s → place + 3 ≡ here
  at-trailer (Trailer p few inside none) three small within = p
  at-trailer (Limits z (inl (inl short))) three small within = absurd (omega arith)
  at-trailer (Limits z (inl (inr many))) three small within = absurd (omega arith)
  at-trailer (Limits z (inr beyond)) three small within = absurd (omega arith)

  at-limits : Why s here place → (here < 3 → place ≡ 0) × (65535 < here → place ≡ 0) × (length s < here → place ≡ 0)
  at-limits (Limits z l) = (λ h. z, λ h. z, λ h. z)
  at-limits (Trailer p few inside none) = (λ h. absurd (omega arith), λ h. absurd (omega arith), λ h. absurd (omega arith))

broken : (s : List ℕ) (end : ℕ) → ¬ ((check_answer s end).code ≡ 0)
    → (place : ℕ) × (check_answer s end ≡ answer_of 14 place) × FailsAt s end place
unfolding check_journal
broken s end n =
    let f = not_sound s end n in
    let place = f.0 in
    let x = broken_where s end place f.1 in
    let w = why s x.here place x.fails in (
      place,
      rw f.1,
      record {
        here = x.here;
        later = x.later;
        read = x.read ∙ rw (bytes_same x.later);
        sound = all_sound x.later x.entries;
        whole = ap (λ (l : List ℕ). x.here + length l) (bytes_same x.later) ∙ x.whole;
        within = x.within;
        some = some_left s x.here place x.fails;
        none = none-there s x.here place x.fails;
        trailer = at-trailer s x.here place x.fails w;
        limits = at-limits s x.here place x.fails w;
      },
    )

-- no other place fits those words
module _ (s : List ℕ) (end place : ℕ) (x : FailsAt s end place) where
  place_is : (q : ℕ) → Why s x.here q → q ≡ place
  place_is q (Trailer p few inside none) = let z = x.trailer (omega arith) few inside in omega arith
  place_is q (Limits z (inl (inl short))) = z ∙ sym (x.limits.0 short)
  place_is q (Limits z (inl (inr many))) = z ∙ sym (x.limits.1 many)
  place_is q (Limits z (inr beyond)) = z ∙ sym (x.limits.2 beyond)

  step-fails : (l : Result (Option Found) Refusal) → last_entry s x.here ≡ l → l ≡ refuse JournalBroken place
  step-fails (Ok None) e = let z = nothing s x.here e in absurd (omega (arith, x.some))
  step-fails (Ok (Some f)) e =
      let h = starts s x.here f.at f.length e in
      absurd
      (x.none h.few h.inside (take f.at s) (entry_at s f.at f.length) (sound-entry (entry_at s f.at f.length) h.fine)
      (found-bytes s x.here f.at f.length h ∙ rw (entry-same (entry_at s f.at f.length))))
  step-fails (Err r) e =
      let broken : ◌≡◌ {A = Result (Option Found) Refusal} (Err r) (refuse JournalBroken r.place) = ap Err (refused s x.here r e) in
      broken ∙ ap (refuse JournalBroken) (place_is r.place (why s x.here r.place (e ∙ broken)))

  fails-broken : entries_in s end ≡ Broken place
  fails-broken =
      stopped_broken s end place
      (record {
        here = x.here;
        later = x.later;
        read = x.read ∙ rw (bytes_same x.later);
        entries = sound-all x.later x.sound;
        whole = ap (λ (l : List ℕ). x.here + length l) (sym (bytes_same x.later)) ∙ x.whole;
        within = x.within;
        fails = step-fails (last_entry s x.here) refl;
      })

one_place : (s : List ℕ) (end p q : ℕ) → FailsAt s end p → FailsAt s end q → p ≡ q
one_place s end p q x y = same p q (sym (fails-broken s end p x) ∙ fails-broken s end q y)
  where
    same : (m n : ℕ) → ◌≡◌ {A = Read (List Entry)} (Broken m) (Broken n) → m ≡ n
    same m n e = cc

-- ---- One entry from the end

last-newest : (s : List ℕ) (end : ℕ) (es : List Entry) (e : Entry) → JournalOf s end (es ++ (e ∷ []))
    → last_answer s end
    ≡ record { place = 0; offset = length (all_bytes es); text = length (all_bytes es) + 6; length = length e.text; code = 0; given = 1; spare = 0 }
last-newest s end es e j = rw ((newest s end es e (is-journal s end (es ++ (e ∷ [])) j)).found, bytes_same es)

last-nothing : (s : List ℕ) (end : ℕ) → JournalOf s end []
    → last_answer s end ≡ record { place = 0; offset = 0; text = 0; length = 0; code = 0; given = 0; spare = 0 }
last-nothing s end j = rw (none_left s end (is-journal s end [] j), nothing-there s)

-- ---- Adding

module _ (s : List ℕ) (end : ℕ) (d t : List ℕ) where
  abbrev e : Entry
  e = taken d t

  adds : (es : List Entry) → JournalOf s end es → SixAllowed d → IsAccepted t
      → end + (9 + length t) ≤ 65535 → end + (9 + length t) ≤ length s → AddedTo s end d t es
  unfolding added added_over
  adds es j six ok few room =
      let named = (designator-said d).so_yes six in
      let fine = accepted-fine t ok in
      let ends = new_end_lem end d t named in
      let few-new : new_end end e ≤ most = omega (arith, ends) in
      let room-new : new_end end e ≤ length s = omega (arith, ends) in
      let all = add-fine s end d t es (reads_of s end es j) named fine few-new room-new in
      let long : length (entry_bytes e) ≡ 9 + length t = omega (arith, ends) in
      let D : List ℕ = over s end (entry_bytes e) in
      let answered : add_answer s end d t ≡ accepted (new_end end e) = rw all in
      let left : added_over s end d t ≡ D = rw all in
      record {
        answer = answered ∙ ap accepted ends;
        before = ap (take end) left ∙ before-over s end (entry_bytes e) room-new;
        entry =
            ap (part end (9 + length t)) left
            ∙ ap (λ (k : ℕ). part end k D) (sym long)
            ∙ found-over s end (entry_bytes e) room-new
            ∙ sym (entry-same e);
        behind =
            ap (drop (end + (9 + length t))) left
            ∙ ap (λ (k : ℕ). drop (end + k) D) (sym long)
            ∙ after-over s end (entry_bytes e) room-new
            ∙ ap (λ (k : ℕ). drop (end + k) s) long;
        journal =
            subst (λ (b : List ℕ). JournalOf b (end + (9 + length t)) (es ++ (e ∷ []))) (sym left)
            (subst (λ (k : ℕ). JournalOf D k (es ++ (e ∷ []))) ends
            (journal-of D (new_end end e) (es ++ (e ∷ []))
            (one_written s end es e (is-journal s end es j) (entry-sound e (record { who = six; text = ok })) few-new room-new)));
      }

  add-broken : ¬ ((check_answer s end).code ≡ 0) → add_answer s end d t ≡ check_answer s end
  unfolding added add_seen check_journal
  add-broken n = rw (not_sound s end n).1

  add-four : (check_answer s end).code ≡ 0 → ¬ SixAllowed d → add_answer s end d t ≡ answer_of 4 0
  unfolding added add_seen check_journal
  add-four z n = rw ((is-sound s end z).1, says_no (designator-said d) n)

  add-own : (check_answer s end).code ≡ 0 → SixAllowed d → ¬ IsAccepted t → add_answer s end d t ≡ check_numbers (check_command t)
  unfolding added add_seen check_journal
  add-own z six n = rw ((is-sound s end z).1, (designator-said d).so_yes six) (go (check_command t) n)
    where
      go : (x : Result (Unit {0}) Refusal) → ¬ ((check_numbers x).code ≡ 0)
          → length_numbers (told (x and_then must (fits_in s (new_end end e)) NoRoom 0) (new_end end e)) ≡ check_numbers x
      go (Ok u) m = absurd (m refl)
      go (Err r) m = refl

  add-two : (check_answer s end).code ≡ 0 → SixAllowed d → IsAccepted t
      → ((end + (9 + length t) ≤ 65535) × (end + (9 + length t) ≤ length s) → ⊥) → add_answer s end d t ≡ answer_of 2 0
  unfolding added add_seen check_journal
  add-two z six ok n =
      let ends = new_end_lem end d t ((designator-said d).so_yes six) in
      rw ((is-sound s end z).1, (designator-said d).so_yes six, accepted-fine t ok)
      (by_le (new_end end e) most
      (λ few. by_le (new_end end e) (length s)
      (λ room. absurd (n (omega (arith, ends), omega (arith, ends))))
      (λ beyond. rw (le-leb (new_end end e) most few, lt-leb (new_end end e) (length s) beyond)))
      (λ many. rw (lt-leb (new_end end e) most many)))

  add-untouched : ¬ ((add_answer s end d t).code ≡ 0) → added_over s end d t ≡ s
  unfolding added added_over
  add-untouched n = go (add_seen s end d t) n
    where
      go : (x : Result (Unit {0}) Refusal) → ¬ ((length_numbers (told x (new_end end e))).code ≡ 0) → left_by x s end (entry_bytes e) ≡ s
      go (Ok u) m = absurd (m refl)
      go (Err r) m = refl

-- ---- Replaying

module _ (x : Settings) (s : List ℕ) (end : ℕ) (d : List ℕ) where
  replays : (es : List Entry) → JournalOf s end es → SixAllowed d
      → (replay_answer s end d ≡ accepted 0) × (settings_after x s end d ≡ foldl apply_to reset (texts_for d es))
  unfolding replayed replay
  replays es j six = rw (reads_of s end es j, (designator-said d).so_yes six) (refl, refl)

  replay-broken : ¬ ((check_answer s end).code ≡ 0) → (replay_answer s end d ≡ check_answer s end) × (settings_after x s end d ≡ x)
  unfolding replayed check_journal
  replay-broken n = rw (not_sound s end n).1 (refl, refl)

  replay-four : (check_answer s end).code ≡ 0 → ¬ SixAllowed d → (replay_answer s end d ≡ answer_of 4 0) × (settings_after x s end d ≡ x)
  unfolding replayed
  replay-four z n = rw ((is-sound s end z).1, says_no (designator-said d) n) (refl, refl)

replay-none : (x : Settings) (s : List ℕ) (end : ℕ) (d : List ℕ) → JournalOf s end [] → SixAllowed d → settings_after x s end d ≡ reset
unfolding texts_for
replay-none x s end d j six = (replays x s end d [] j six).1

-- the settings behind one entry more
module _ (x : Settings) (s : List ℕ) (end : ℕ) (u : List ℕ) (next : ℕ) where
  replay-more : (d : List ℕ) (e : Entry) (es : List Entry) → JournalOf s end es → JournalOf u next (es ++ (e ∷ [])) → SixAllowed d
      → settings_after x u next d ≡ foldl apply_to (settings_after x s end d) (cond (same_bytes d e.who) (e.text ∷ []) [])
  replay-more d e es j k six =
      let new : List (List ℕ) = cond (same_bytes d e.who) (e.text ∷ []) [] in
      (replays x u next d (es ++ (e ∷ [])) k six).1
      ∙ ap (foldl apply_to reset) (texts-last d es e)
      ∙ foldl-append apply_to reset (texts_for d es) new
      ∙ ap (λ (y : Settings). foldl apply_to y new) (sym (replays x s end d es j six).1)

  replay-own : (d t : List ℕ) (es : List Entry) → JournalOf s end es → JournalOf u next (es ++ (record { who = d; text = t } ∷ []))
      → settings_after x u next d ≡ apply_to (settings_after x s end d) t
  replay-own d t es j k =
      let e : Entry = record { who = d; text = t } in
      let six = (last-sound es e k.sound).who in
      replay-more d e es j k six ∙ rw (same_self d)

  replay-other : (d : List ℕ) (e : Entry) (es : List Entry) → JournalOf s end es → JournalOf u next (es ++ (e ∷ [])) → SixAllowed d
      → ¬ (e.who ≡ d) → settings_after x u next d ≡ settings_after x s end d
  replay-other d e es j k six n =
      by_test (same_bytes d e.who)
      (λ y. absurd (n (sym (same-equal d e.who y))))
      (λ y. replay-more d e es j k six ∙ rw y)

-- ---- Dropping

drops : (s : List ℕ) (end n : ℕ) (es : List Entry) → JournalOf s end es → n ≤ length es → DroppedTo s end n es
unfolding dropped
drops s end n es j h =
    let fs = take (length es - n) es in
    let k = length (journal_bytes fs) in
    let left = journal-of (take k s) k fs (alone s k fs (first-entries s end (length es - n) es (is-journal s end es j))) in
    record {
      size = k;
      answer = rw (reads_of s end es j, le-leb n (length es) h);
      journal = left;
      state = λ x d six. (replays x (take k s) k d fs left six).1;
    }

drop-five : (s : List ℕ) (end n : ℕ) (es : List Entry) → JournalOf s end es → length es < n → drop_answer s end n ≡ answer_of 5 0
drop-five s end n es j h = rw (drop-refused s end n es (reads_of s end es j) h)

drop-broken : (s : List ℕ) (end n : ℕ) → ¬ ((check_answer s end).code ≡ 0) → drop_answer s end n ≡ check_answer s end
unfolding dropped check_journal
drop-broken s end n q = rw (not_sound s end q).1

-- ---- Printing

module _ (s : List ℕ) (end : ℕ) (es : List Entry) (out : List ℕ) (j : JournalOf s end es) where
  all-printed : length (lines_from 0 es) ≤ length out → PrintedTo s end es out
  all-printed h =
      let t = lines_from 0 es in
      let same = lines_same 0 es in
      let f = prints s end es out (reads_of s end es j) (rw same at h) in
      let over-is : printed_over s end out ≡ over out 0 t = f.1 ∙ rw same in
      let fits : 0 + length t ≤ length out = rw zero-add h in
      record {
        answer = ap length_numbers f.0 ∙ rw same;
        text = ap (take (length t)) over-is ∙ found-over out 0 t fits;
        rest = ap (drop (length t)) over-is ∙ rw zero-add at (after-over out 0 t fits);
      }

  print_two : length out < length (lines_from 0 es) → (print_answer s end out ≡ answer_of 2 0) × (printed_over s end out ≡ out)
  unfolding print_told printed_over print_seen
  print_two h = rw (reads_of s end es j, lt-leb (length (printed 0 es)) (length out) (rw (lines_same 0 es) at h)) (refl, refl)

print_broken : (s : List ℕ) (end : ℕ) (out : List ℕ) → ¬ ((check_answer s end).code ≡ 0)
    → (print_answer s end out ≡ check_answer s end) × (printed_over s end out ≡ out)
unfolding check_journal
print_broken s end out n =
    let f = not_sound s end n in
    let g = prints-nothing s end f.0 out f.1 in
    (ap length_numbers g.0 ∙ rw f.1, g.1)

one-printed : (out : List ℕ) → 32 ≤ length out
    → (print_answer one_journal 31 out ≡ accepted 32) × (take 32 (printed_over one_journal 31 out) ≡ one_line)
one-printed out h =
    let f = one-prints out h in
    (ap length_numbers f.0, ap (take 32) f.1 ∙ found-over out 0 one_line (omega arith))

-- ---- All of it

pub journal_promises : JournalPromises
journal_promises =
    record {
      accepts = accepts;
      unique = one_list;
      broken = broken;
      one_place = one_place;
      newest = last-newest;
      nothing = last-nothing;
      adds = adds;
      add-broken = add-broken;
      add-four = add-four;
      add-own = add-own;
      add-two = add-two;
      add-untouched = add-untouched;
      replays = λ x s end d es j six. replays x s end d es j six;
      replay-none = replay-none;
      replay-own = replay-own;
      replay-other = replay-other;
      replay-broken = replay-broken;
      replay-four = replay-four;
      drops = drops;
      drop-five = drop-five;
      drop-broken = drop-broken;
      prints = all-printed;
      print_two = print_two;
      print_broken = print_broken;
      offsets = digits_hold;
      no_zero = no-leading-zero;
      one = one-printed;
    }
