-- The lengths that are answered are small: of a journal at most 65,535, of what is printed at most twice that.
use mathlib.Core.Path.{◌≡◌, refl, sym, ap, ◌∙◌}
use mathlib.Core.Bool.{true}
use mathlib.Core.List.{List, [], ◌∷◌}
use Prim.Native.Nat.{ℕ, ◌+◌, ◌-◌, ◌*◌, ◌≤◌}
use native.Mathlib.Omega.{arith}
use lib.Dec.{leb, ltb}
use lib.ListN.{length, length-append}
use lib.Seq.{length-take-le}
use borrow.Author.Tests.{leb-true}
use Rattle.text.specs.Checks.{must}
use Rattle.text.proofs.Cases.{by_test, both_left, both_right}
use Rattle.text.proofs.Checks.{must-held}
use Rattle.journal.specs.Journal.{Entry, entry_bytes, journal_bytes, is_entry, all_entries, most, Read, Sound, Broken, entries_in}
use Rattle.journal.specs.Calls.{seen_of, told, taken, new_end, add_seen, added, without, drop_told, dropped}
use Rattle.journal.specs.Printed.{digits_of, line, printed, printed_in, print_seen, print_told}
use Rattle.journal.proofs.Added.{accepted}
use Rattle.journal.proofs.Bytes.{entry-who, bytes-length}
use Rattle.journal.proofs.Dropped.{first-entries}
use Rattle.journal.proofs.Entries.{read_is}
use Rattle.journal.proofs.Lines.{line-length}
use Rattle.std.specs.Prelude.{Result, Ok, Err}
use Rattle.text.specs.declared.Refusal.{Refusal}
use Rattle.text.specs.declared.Code.TheVariants.{NoRoom, OutOfRange}

-- what a refusal or a length was told of
told-fine : (r : Result (Unit {0}) Refusal) (m n : ℕ) → told r m ≡ Ok n → (r ≡ (Ok tt)) × (m ≡ n)
told-fine (Ok u) m n e = (refl, cc)
told-fine (Err r) m n e = let z : ◌≡◌ {A = ℕ} 0 1 = cc in absurd (omega arith)

-- ---- Lines

few-digits : (n : ℕ) → digits_of n ≤ 5
unfolding digits_of
few-digits n =
    by_test (ltb n 10) (λ a. rw a (omega arith))
    (λ a. by_test (ltb n 100) (λ b. rw (a, b) (omega arith))
    (λ b. by_test (ltb n 1000) (λ c. rw (a, b, c) (omega arith))
    (λ c. by_test (ltb n 10000) (λ d. rw (a, b, c, d) (omega arith)) (λ d. rw (a, b, c, d) (omega arith)))))

-- a line is less than twice its entry
lines-short : (o : ℕ) (es : List Entry) → all_entries es ≡ true → length (printed o es) ≤ 2 * length (journal_bytes es)
unfolding printed journal_bytes all_entries
lines-short o [] ok = omega arith
lines-short o (e ∷ es) ok =
    let six = entry-who e (both_left (is_entry e) (all_entries es) ok) in
    let rest = lines-short (o + length (entry_bytes e)) es (both_right (is_entry e) (all_entries es) ok) in
    omega (
      arith,
      rest,
      few-digits o,
      line-length o e six,
      bytes-length e six,
      length-append (printed (o + length (entry_bytes e)) es) (line o e),
      length-append (entry_bytes e) (journal_bytes es),
    )

-- ---- Answers

pub added-short : (s : List ℕ) (end : ℕ) (d t : List ℕ) (n : ℕ) → added s end d t ≡ Ok n → n ≤ most
unfolding added
added-short s end d t n e =
    let f = told-fine (add_seen s end d t) (new_end end (taken d t)) n e in
    omega (arith, f.1, (accepted s end d t f.0).few)

pub dropped-short : (s : List ℕ) (end count n : ℕ) → dropped s end count ≡ Ok n → n ≤ most
unfolding dropped
dropped-short s end count n e = go (entries_in s end) refl e
  where
    go : (r : Read (List Entry)) → entries_in s end ≡ r → drop_told r count ≡ Ok n → n ≤ most
    go (Sound es) q w =
        let f = told-fine (must (leb count (length es)) OutOfRange 0) (length (journal_bytes (without count es))) n w in
        omega (arith, f.1, (first-entries s end (length es - count) es (read_is s end es q)).few)
    go (Broken place) q w = let z : ◌≡◌ {A = ℕ} 0 1 = cc in absurd (omega arith)

pub printed-short : (s : List ℕ) (end room n : ℕ) → print_told s end room ≡ Ok n → n ≤ 2 * most
unfolding print_told print_seen
printed-short s end room n e = go (entries_in s end) refl e
  where
    go : (r : Read (List Entry)) → entries_in s end ≡ r
        → told (seen_of r (λ (es : List Entry). must (leb (length (printed 0 es)) room) NoRoom 0)) (length (printed_in r)) ≡ Ok n → n ≤ 2 * most
    go (Sound es) q w =
        let f = told-fine (must (leb (length (printed 0 es)) room) NoRoom 0) (length (printed 0 es)) n w in
        let j = read_is s end es q in
        let long : length (journal_bytes es) ≡ end = sym (sym (length-take-le end s j.inside) ∙ ap length j.bytes) in
        omega (arith, f.1, lines-short 0 es j.entries, j.few)
    go (Broken place) q w = let z : ◌≡◌ {A = ℕ} 0 1 = cc in absurd (omega arith)

-- what is printed fits its buffer
pub printed-fits : (s : List ℕ) (end room n : ℕ) → print_told s end room ≡ Ok n → n ≤ room
unfolding print_told print_seen
printed-fits s end room n e = go (entries_in s end) e
  where
    go : (r : Read (List Entry))
        → told (seen_of r (λ (es : List Entry). must (leb (length (printed 0 es)) room) NoRoom 0)) (length (printed_in r)) ≡ Ok n → n ≤ room
    go (Sound es) w =
        let f = told-fine (must (leb (length (printed 0 es)) room) NoRoom 0) (length (printed 0 es)) n w in
        omega (arith, f.1, leb-true (length (printed 0 es)) room (must-held (leb (length (printed 0 es)) room) NoRoom 0 f.0))
    go (Broken place) w = let z : ◌≡◌ {A = ℕ} 0 1 = cc in absurd (omega arith)
