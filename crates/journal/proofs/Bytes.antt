-- The bytes of a journal: entries one behind the other, and the last of them where a step from the end finds it.
use mathlib.Core.Path.{◌≡◌, refl, sym, ap, subst, ◌∙◌}
use mathlib.Core.Bool.{true, ◌&&◌, and_assoc, and-true}
use mathlib.Core.List.{List, [], ◌∷◌, ◌++◌, append_assoc, append-nil}
use Prim.Native.Nat.{ℕ, ◌+◌, ◌-◌, ◌≤◌}
use native.Mathlib.Omega.{arith}
use lib.Dec.{eqb}
use lib.ListN.{length, take, drop, length-append, take-append-drop}
use lib.Seq.{take-add, take-take, take_at, length-take-le}
use borrow.Author.Tests.{eqb-true}
use Rattle.text.specs.Checks.{is_fine}
use Rattle.text.specs.Names.{all_allowed, is_designator}
use Rattle.text.specs.Parts.{part}
use Rattle.text.proofs.Cases.{both_left, both_right}
use Rattle.text.proofs.Checks.{fine-is}
use Rattle.text.proofs.Stands.{part-add}
use Rattle.text.proofs.Parts.{part_middle}
use Rattle.field.proofs.Decimal.{part-long}
use Rattle.field.proofs.Local.{part-extend}
use Rattle.command.specs.Text.{check_command}
use Rattle.journal.specs.Journal.{Entry, trailer, entry_bytes, journal_bytes, is_entry, all_entries, most, entry_at}
use Rattle.journal.proofs.Ends.{Ends}
use Rattle.std.specs.Prelude.{Ok}

-- ---- Lists from their end

-- what holds of no entries, and of some with one behind them where it holds of those, holds of all
pub from_end : {A : Type 0} (P : List A → Type 0) → P [] → ((xs : List A) (x : A) → P xs → P (xs ++ (x ∷ []))) → (xs : List A) → P xs
from_end {A} P none more xs = go [] xs none
  where
    go : (front rest : List A) → P front → P (front ++ rest)
    go front [] p = subst P (sym (append-nil front)) p
    go front (x ∷ rest) p = subst P (append_assoc front (x ∷ []) rest) (go (front ++ (x ∷ [])) rest (more front x p))

-- ---- Entries one behind the other

pub journal-append : (es fs : List Entry) → journal_bytes (es ++ fs) ≡ journal_bytes es ++ journal_bytes fs
unfolding journal_bytes
journal-append [] fs = refl
journal-append (e ∷ es) fs = rw (journal-append es fs) (sym (append_assoc (entry_bytes e) (journal_bytes es) (journal_bytes fs)))

pub entries-append : (es fs : List Entry) → all_entries (es ++ fs) ≡ (all_entries es && all_entries fs)
unfolding all_entries
entries-append [] fs = refl
entries-append (e ∷ es) fs = rw (entries-append es fs) (sym (and_assoc (is_entry e) (all_entries es) (all_entries fs)))

-- one entry alone
pub journal-one : (e : Entry) → journal_bytes (e ∷ []) ≡ entry_bytes e
unfolding journal_bytes
journal-one e = append-nil (entry_bytes e)

pub entries-one : (e : Entry) → all_entries (e ∷ []) ≡ is_entry e
unfolding all_entries
entries-one e = and-true (is_entry e)

-- one entry more
pub journal-more : (es : List Entry) (e : Entry) → journal_bytes (es ++ (e ∷ [])) ≡ journal_bytes es ++ entry_bytes e
journal-more es e = journal-append es (e ∷ []) ∙ rw (journal-one e)

pub entries-more : (es : List Entry) (e : Entry) → all_entries (es ++ (e ∷ [])) ≡ (all_entries es && is_entry e)
entries-more es e = entries-append es (e ∷ []) ∙ rw (entries-one e)

-- ---- One entry

-- its designator has six bytes
pub entry-who : (e : Entry) → is_entry e ≡ true → length e.who ≡ 6
unfolding is_entry
entry-who e h =
    eqb-true (length e.who) 6
    (both_left (eqb (length e.who) 6) (all_allowed e.who) (both_left (is_designator e.who) (is_fine (check_command e.text)) h))

-- its text is accepted
pub entry-text : (e : Entry) → is_entry e ≡ true → check_command e.text ≡ (Ok tt)
unfolding is_entry
entry-text e h = fine-is (check_command e.text) (both_right (is_designator e.who) (is_fine (check_command e.text)) h)

-- nine bytes beside the text
pub bytes-length : (e : Entry) → length e.who ≡ 6 → length (entry_bytes e) ≡ 9 + length e.text
unfolding entry_bytes
bytes-length e h =
    omega (arith, length-append (e.who ++ e.text) (trailer (length e.text)), length-append e.who e.text)

-- ---- Where a step from the end finds an entry, its bytes stand

pub found-bytes : (s : List ℕ) (end at n : ℕ) → Ends s end at n → take end s ≡ take at s ++ entry_bytes (entry_at s at n)
unfolding entry_bytes
found-bytes s end at n h =
    let w = h.whole in
    let i = h.inside in
    let whole : end ≡ at + (6 + n + 3) = omega arith in
    let behind : at + (6 + n) ≡ end - 3 = omega arith in
    let long : length (part (at + 6) n s) ≡ n = part-long s (at + 6) n (omega arith) in
    ap (λ (k : ℕ). take k s) whole
    ∙ take-add at (6 + n + 3) s
    ∙ ap (λ (l : List ℕ). take at s ++ l)
    (part-add s at (6 + n) 3 ∙ rw (part-add s at 6 n, behind, h.marked, long))

-- a part of the first bytes of a text is the text's
part-first : (s : List ℕ) (end at n : ℕ) → end ≤ length s → at + n ≤ end → part at n (take end s) ≡ part at n s
part-first s end at n i h =
    sym (ap (part at n) (sym (take-append-drop end s))
    ∙ part-extend n (take end s) (drop end s) at (omega (arith, length-take-le end s i)))

-- and where the bytes of an entry stand behind others, a step from the end finds it
module _ (s : List ℕ) (end : ℕ) (front : List ℕ) (e : Entry) (inside : end ≤ length s)
    (is : take end s ≡ front ++ entry_bytes e) (ok : is_entry e ≡ true) where
  abbrev at : ℕ
  at = length front

  abbrev n : ℕ
  n = length e.text

  pub stands-whole : at + (9 + n) ≡ end
  stands-whole =
      sym (sym (length-take-le end s inside) ∙ ap length is ∙ length-append front (entry_bytes e) ∙ rw (bytes-length e (entry-who e ok)))

  split : take end s ≡ front ++ (e.who ++ (e.text ++ trailer n))
  unfolding entry_bytes
  split = is ∙ ap (λ (l : List ℕ). front ++ l) (append_assoc e.who e.text (trailer n))

  six : length e.who ≡ 6
  six = entry-who e ok

  pub stands-who : part at 6 s ≡ e.who
  stands-who =
      let w = stands-whole in
      sym (part-first s end at 6 inside (omega arith))
      ∙ ap (part at 6) (split ∙ sym (append_assoc front e.who (e.text ++ trailer n)))
      ∙ part_middle front e.who (e.text ++ trailer n) at 6 refl six

  pub stands-text : part (at + 6) n s ≡ e.text
  stands-text =
      let w = stands-whole in
      sym (part-first s end (at + 6) n inside (omega arith))
      ∙ ap (part (at + 6) n)
      (split ∙ sym (append_assoc front e.who (e.text ++ trailer n)) ∙ sym (append_assoc (front ++ e.who) e.text (trailer n)))
      ∙ part_middle (front ++ e.who) e.text (trailer n) (at + 6) n (length-append front e.who ∙ rw six) refl

  pub stands-trailer : part (end - 3) 3 s ≡ trailer n
  unfolding entry_bytes
  stands-trailer =
      let w = stands-whole in
      let before : List ℕ = front ++ (e.who ++ e.text) in
      let starts : length before ≡ end - 3 =
      length-append front (e.who ++ e.text) ∙ rw (length-append e.who e.text, six) (omega arith) in
      sym (part-first s end (end - 3) 3 inside (omega arith))
      ∙ ap (part (end - 3) 3)
      (is ∙ sym (append_assoc front (e.who ++ e.text) (trailer n)) ∙ sym (append-nil (before ++ trailer n)))
      ∙ part_middle before (trailer n) [] (end - 3) 3 starts refl

  -- the entry read there
  pub stands-entry : entry_at s at n ≡ e
  stands-entry = rw (stands-who, stands-text)

  pub stands-ends : end ≤ most → Ends s end at n
  stands-ends few = record { whole = stands-whole; few = few; inside = inside; marked = stands-trailer; fine = rw stands-entry ok }

  -- and before it the others
  pub stands-front : take at s ≡ front
  stands-front =
      let w = stands-whole in
      sym (take-take at end s (omega arith)) ∙ ap (take at) is ∙ take_at front (entry_bytes e) at refl
