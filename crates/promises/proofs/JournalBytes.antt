-- The document's words for a journal's bytes, against the definitions that the contracts name.
use mathlib.Core.Path.{◌≡◌, refl, sym, ◌∙◌}
use mathlib.Core.Bool.{true, cond}
use mathlib.Core.List.{List, [], ◌∷◌, ◌++◌, append_assoc}
use Prim.Native.Nat.{ℕ, ◌+◌}
use lib.ListN.{length}
use Rattle.text.specs.Checks.{is_fine}
use Rattle.text.specs.Equal.{same_bytes}
use Rattle.text.specs.Names.{is_designator}
use Rattle.text.proofs.Cases.{by_test, both_left, both_right}
use Rattle.command.specs.Text.{check_command}
use Rattle.journal.specs.Journal.{Entry, entry_bytes, journal_bytes, is_entry, all_entries, IsJournal, Sound, entries_in}
use Rattle.journal.specs.Calls.{texts_for}
use Rattle.journal.specs.Printed.{line, printed}
use Rattle.journal.proofs.Entries.{reads}
use Rattle.promises.specs.JournalBytes.{bytes_of, all_bytes, SoundEntry, AllSound, JournalOf, line_of, lines_from}
use Rattle.promises.proofs.Codes.{designator-said, accepted-said}

pub sound-entry : (e : Entry) → is_entry e ≡ true → SoundEntry e
unfolding is_entry
sound-entry e h =
    record {
      who = (designator-said e.who).yes_so (both_left (is_designator e.who) (is_fine (check_command e.text)) h);
      text = (accepted-said e.text).yes_so (both_right (is_designator e.who) (is_fine (check_command e.text)) h);
    }

pub entry-sound : (e : Entry) → SoundEntry e → is_entry e ≡ true
unfolding is_entry
entry-sound e x = rw ((designator-said e.who).so_yes x.who, (accepted-said e.text).so_yes x.text)

pub all_sound : (es : List Entry) → all_entries es ≡ true → AllSound es
unfolding all_entries
all_sound [] h = tt
all_sound (e ∷ es) h =
    (sound-entry e (both_left (is_entry e) (all_entries es) h), all_sound es (both_right (is_entry e) (all_entries es) h))

pub sound-all : (es : List Entry) → AllSound es → all_entries es ≡ true
unfolding all_entries
sound-all [] x = refl
sound-all (e ∷ es) x = rw (entry-sound e x.0) (sound-all es x.1)

pub entry-same : (e : Entry) → bytes_of e ≡ entry_bytes e
unfolding entry_bytes
entry-same e = refl

pub bytes_same : (es : List Entry) → all_bytes es ≡ journal_bytes es
unfolding all_bytes journal_bytes
bytes_same [] = refl
bytes_same (e ∷ es) = rw (entry-same e, bytes_same es)

pub journal-of : (s : List ℕ) (end : ℕ) (es : List Entry) → IsJournal s end es → JournalOf s end es
journal-of s end es j =
    record { few = j.few; inside = j.inside; same = j.bytes ∙ sym (bytes_same es); sound = all_sound es j.entries }

pub is-journal : (s : List ℕ) (end : ℕ) (es : List Entry) → JournalOf s end es → IsJournal s end es
is-journal s end es j =
    record { few = j.few; inside = j.inside; bytes = j.same ∙ bytes_same es; entries = sound-all es j.sound }

pub reads_of : (s : List ℕ) (end : ℕ) (es : List Entry) → JournalOf s end es → entries_in s end ≡ Sound es
reads_of s end es j = reads s end es (is-journal s end es j)

-- a line in three words
line_same : (at : ℕ) (e : Entry) → line_of at e ≡ line at e
unfolding line
line_same at e = simp append_assoc

pub lines_same : (at : ℕ) (es : List Entry) → lines_from at es ≡ printed at es
unfolding lines_from printed
lines_same at [] = refl
lines_same at (e ∷ es) = rw (entry-same e, line_same at e, lines_same (at + length (entry_bytes e)) es)

-- the newest entry is sound too
pub last-sound : (es : List Entry) (e : Entry) → AllSound (es ++ (e ∷ [])) → SoundEntry e
last-sound [] e x = x.0
last-sound (f ∷ es) e x = last-sound es e x.1

-- its text comes behind those of the others, where it is the aircraft's
pub texts-last : (d : List ℕ) (es : List Entry) (e : Entry)
    → texts_for d (es ++ (e ∷ [])) ≡ texts_for d es ++ cond (same_bytes d e.who) (e.text ∷ []) []
unfolding texts_for
texts-last d [] e = refl
texts-last d (f ∷ es) e = by_test (same_bytes d f.who) (λ y. rw (y, texts-last d es e)) (λ n. rw (n, texts-last d es e))
