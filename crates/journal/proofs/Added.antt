-- An entry written behind a journal's: the new journal has the old entries and that one.
use mathlib.Core.Path.{◌≡◌, refl, sym, ◌∙◌}
use mathlib.Core.Bool.{true}
use mathlib.Core.List.{List, [], ◌∷◌, ◌++◌}
use Prim.Native.Nat.{ℕ, ◌+◌, ◌≤◌}
use native.Mathlib.Omega.{arith}
use lib.Dec.{leb, eqb}
use lib.ListN.{length}
use lib.Seq.{take-add}
use borrow.Author.Tests.{leb-true, le-leb, eqb-true}
use Rattle.text.specs.Checks.{must, ◌and_then◌}
use Rattle.text.specs.Names.{all_allowed, is_designator}
use Rattle.text.specs.Over.{over}
use Rattle.text.proofs.Cases.{both_left, both_right}
use Rattle.text.proofs.Checks.{err_ok, must-held, both-fine}
use Rattle.text.proofs.Over.{length_over, before-over, found-over}
use Rattle.command.specs.Text.{check_command}
use Rattle.journal.specs.Journal.{Entry, entry_bytes, is_entry, most, IsJournal, Read, Sound, Broken, entries_in}
use Rattle.journal.specs.Calls.{seen_of, check_journal, taken, new_end, fits_in, add_seen, added_over}
use Rattle.journal.proofs.Bytes.{journal-more, entries-more, bytes-length}
use Rattle.journal.proofs.Entries.{reads, read_is}
use Rattle.std.specs.Prelude.{Ok}
use Rattle.text.specs.declared.Code.TheVariants.{NoRoom, NotAllowed, JournalBroken}

-- a designator has six bytes
pub designator-long : (d : List ℕ) → is_designator d ≡ true → length d ≡ 6
designator-long d e = eqb-true (length d) 6 (both_left (eqb (length d) 6) (all_allowed d) e)

-- where an entry would end
pub new_end_lem : (end : ℕ) (d t : List ℕ) → is_designator d ≡ true → new_end end (taken d t) ≡ end + (9 + length t)
new_end_lem end d t e = rw (bytes-length (taken d t) (designator-long d e))

-- one entry more, written behind the others
pub one_written : (s : List ℕ) (end : ℕ) (es : List Entry) (e : Entry) → IsJournal s end es → is_entry e ≡ true
    → new_end end e ≤ most → new_end end e ≤ length s → IsJournal (over s end (entry_bytes e)) (new_end end e) (es ++ (e ∷ []))
one_written s end es e j ok few room =
    let D = over s end (entry_bytes e) in
    record {
      few = few;
      inside = omega (arith, length_over s end (entry_bytes e) room, room);
      bytes =
          take-add end (length (entry_bytes e)) D
          ∙ rw (before-over s end (entry_bytes e) room, found-over s end (entry_bytes e) room, j.bytes) (sym (journal-more es e));
      entries = entries-more es e ∙ rw j.entries ok;
    }

-- what an accepted adding was asked
pub record Accepted (s : List ℕ) (end : ℕ) (d t : List ℕ) : Type 0 where
  pub entries : List Entry
  pub sound : entries_in s end ≡ Sound entries
  pub named : is_designator d ≡ true
  pub fine : check_command t ≡ (Ok tt)
  pub few : new_end end (taken d t) ≤ most
  pub room : new_end end (taken d t) ≤ length s

checked-sound : (r : Read (List Entry)) → seen_of r (λ (es : List Entry). Ok tt) ≡ (Ok tt) → (es : List Entry) × (r ≡ Sound es)
checked-sound (Sound es) e = (es, refl)
checked-sound (Broken place) e = err_ok (record { code = JournalBroken; place = place }) tt e

-- a journal that is accepted has entries
pub checked-journal : (s : List ℕ) (end : ℕ) → check_journal s end ≡ (Ok tt) → (es : List Entry) × (entries_in s end ≡ Sound es)
unfolding check_journal
checked-journal s end e = checked-sound (entries_in s end) e

pub accepted : (s : List ℕ) (end : ℕ) (d t : List ℕ) → add_seen s end d t ≡ (Ok tt) → Accepted s end d t
unfolding add_seen check_journal
accepted s end d t e =
    let fits = must (fits_in s (new_end end (taken d t))) NoRoom 0 in
    let one = both-fine (seen_of (entries_in s end) (λ (es : List Entry). Ok tt)) (must (is_designator d) NotAllowed 0 and_then check_command t and_then fits) tt e in
    let two = both-fine (must (is_designator d) NotAllowed 0) (check_command t and_then fits) tt one.1 in
    let three = both-fine (check_command t) fits tt two.1 in
    let found = checked-sound (entries_in s end) one.0 in
    let held = must-held (fits_in s (new_end end (taken d t))) NoRoom 0 three.1 in
    let new = new_end end (taken d t) in
    record {
      entries = found.0;
      sound = found.1;
      named = must-held (is_designator d) NotAllowed 0 two.0;
      fine = three.0;
      few = leb-true new most (both_left (leb new most) (leb new (length s)) held);
      room = leb-true new (length s) (both_right (leb new most) (leb new (length s)) held);
    }

-- the new journal has the old entries and that one
pub add_reads : (s : List ℕ) (end : ℕ) (d t : List ℕ) (es : List Entry) → add_seen s end d t ≡ (Ok tt) → entries_in s end ≡ Sound es
    → entries_in (added_over s end d t) (new_end end (taken d t)) ≡ Sound (es ++ (taken d t ∷ []))
unfolding added_over is_entry
add_reads s end d t es e sound =
    let a = accepted s end d t e in
    rw e
    (reads (over s end (entry_bytes (taken d t))) (new_end end (taken d t)) (es ++ (taken d t ∷ []))
    (one_written s end es (taken d t) (read_is s end es sound) (rw (a.named, a.fine)) a.few a.room))

-- where nothing is refused
pub add-fine : (s : List ℕ) (end : ℕ) (d t : List ℕ) (es : List Entry) → entries_in s end ≡ Sound es → is_designator d ≡ true
    → check_command t ≡ (Ok tt) → new_end end (taken d t) ≤ most → new_end end (taken d t) ≤ length s → add_seen s end d t ≡ (Ok tt)
unfolding add_seen check_journal
add-fine s end d t es sound named fine few room =
    rw (sound, named, fine, le-leb (new_end end (taken d t)) most few, le-leb (new_end end (taken d t)) (length s) room)
