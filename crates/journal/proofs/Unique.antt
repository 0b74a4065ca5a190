-- No bytes are the entries of two different lists, however long.
use mathlib.Core.Path.{◌≡◌, refl, sym, ap, ◌∙◌}
use mathlib.Core.Bool.{true}
use mathlib.Core.List.{List, [], ◌∷◌, ◌++◌}
use Prim.Native.Nat.{ℕ, ◌-◌, ◌≤◌}
use native.Mathlib.Omega.{arith}
use lib.ListN.{length, take, length-append}
use lib.Seq.{take-length}
use Rattle.text.proofs.Cases.{both_left, both_right}
use Rattle.journal.specs.Journal.{Entry, entry_bytes, journal_bytes, is_entry, all_entries}
use Rattle.journal.proofs.Ends.{told-length}
use Rattle.journal.proofs.Bytes.{from_end, journal-more, entries-more, entry-who, bytes-length, stands-whole, stands-trailer, stands-entry, stands-front}

-- entries behind others are told by the bytes alone
module _ (a b : List ℕ) (e f : Entry) (ok : is_entry e ≡ true) (fine : is_entry f ≡ true) (same : a ++ entry_bytes e ≡ b ++ entry_bytes f) where
  abbrev s : List ℕ
  s = a ++ entry_bytes e

  one : take (length s) s ≡ a ++ entry_bytes e
  one = take-length s

  two : take (length s) s ≡ b ++ entry_bytes f
  two = take-length s ∙ same

  within : length s ≤ length s
  within = omega arith

  texts-long : length e.text ≡ length f.text
  texts-long =
      let x = stands-whole s (length s) a e within one ok in
      sym (told-length s (length s - 3) (length e.text) (omega arith) (stands-trailer s (length s) a e within one ok))
      ∙ told-length s (length s - 3) (length f.text) (omega arith) (stands-trailer s (length s) b f within two fine)

  fronts_long : length a ≡ length b
  fronts_long =
      let x = stands-whole s (length s) a e within one ok in
      let y = stands-whole s (length s) b f within two fine in
      let z = texts-long in
      omega arith

  pub same-last : e ≡ f
  same-last =
      sym (stands-entry s (length s) a e within one ok)
      ∙ rw (fronts_long, texts-long) (stands-entry s (length s) b f within two fine)

  pub same-front : a ≡ b
  same-front =
      sym (stands-front s (length s) a e within one ok)
      ∙ ap (λ (k : ℕ). take k s) fronts_long
      ∙ stands-front s (length s) b f within two fine

some_bytes : (es : List Entry) (e : Entry) → is_entry e ≡ true → 1 ≤ length (journal_bytes (es ++ (e ∷ [])))
some_bytes es e ok =
    omega (arith, ap length (journal-more es e), length-append (journal_bytes es) (entry_bytes e), bytes-length e (entry-who e ok))

no_bytes : length (journal_bytes []) ≡ 0
unfolding journal_bytes
no_bytes = refl

Alone : List Entry → Type 0
Alone es = (fs : List Entry) → all_entries es ≡ true → all_entries fs ≡ true → journal_bytes es ≡ journal_bytes fs → es ≡ fs

alone-none : Alone []
unfolding Alone
alone-none =
    from_end (λ (fs : List Entry). all_entries [] ≡ true → all_entries fs ≡ true → journal_bytes [] ≡ journal_bytes fs → [] ≡ fs)
    (λ h k e. refl)
    (λ fs f on h k e.
    let ok = both_right (all_entries fs) (is_entry f) (sym (entries-more fs f) ∙ k) in
    absurd (omega (arith, some_bytes fs f ok, ap length e, no_bytes)))

alone-more : (es : List Entry) (e : Entry) → Alone es → Alone (es ++ (e ∷ []))
unfolding Alone
alone-more es e before =
    from_end
    (λ (fs : List Entry). all_entries (es ++ (e ∷ [])) ≡ true → all_entries fs ≡ true → journal_bytes (es ++ (e ∷ [])) ≡ journal_bytes fs
    → es ++ (e ∷ []) ≡ fs)
    (λ h k q.
    let ok = both_right (all_entries es) (is_entry e) (sym (entries-more es e) ∙ h) in
    absurd (omega (arith, some_bytes es e ok, ap length q, no_bytes)))
    (λ fs f on h k q.
    let x = sym (entries-more es e) ∙ h in
    let y = sym (entries-more fs f) ∙ k in
    let ok = both_right (all_entries es) (is_entry e) x in
    let fine = both_right (all_entries fs) (is_entry f) y in
    let bytes = sym (journal-more es e) ∙ q ∙ journal-more fs f in
    let last : e ≡ f = same-last (journal_bytes es) (journal_bytes fs) e f ok fine bytes in
    let front : es ≡ fs =
    before fs (both_left (all_entries es) (is_entry e) x) (both_left (all_entries fs) (is_entry f) y)
    (same-front (journal_bytes es) (journal_bytes fs) e f ok fine bytes) in
    rw (front, last))

-- the entries are unique
pub unique : (es fs : List Entry) → all_entries es ≡ true → all_entries fs ≡ true → journal_bytes es ≡ journal_bytes fs → es ≡ fs
unfolding Alone
unique = from_end Alone alone-none alone-more
