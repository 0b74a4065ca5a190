-- What is printed, entry by entry, and how an offset is spelt.
use mathlib.Core.Path.{◌≡◌, sym, ap, ◌∙◌}
use mathlib.Core.Bool.{true}
use mathlib.Core.List.{List, [], ◌∷◌, ◌++◌, append_assoc, append-nil}
use Prim.Native.Nat.{ℕ, suc, ◌+◌, ◌/◌, ◌%◌, ◌≤◌}
use native.Mathlib.Omega.{arith}
use native.Mathlib.Nat.{add_assoc, add-zero}
use lib.ListN.{length, get_or, length-append}
use borrow.Author.Tests.{lt-ltb, le-ltb}
use Rattle.text.proofs.Cases.{by_lt}
use Rattle.field.specs.Decimal.{all_digits, value, digits_before}
use Rattle.field.proofs.Decimal.{part-long, decimal-length, decimal-digits, value-decimal}
use Rattle.journal.specs.Journal.{Entry, entry_bytes, journal_bytes, most, IsJournal, entry_at, last_entry, Read, Sound, Broken, walk, entries_in, starts_at}
use Rattle.journal.specs.Printed.{digits_of, offset_text, word, offset_word, line, printed}
use Rattle.journal.specs.Inner.{length_told, with_line, with_size}
use Rattle.journal.proofs.Bytes.{entry-who}
use Rattle.journal.proofs.Entries.{gathers, sound-is, walk-broken}
use Rattle.journal.proofs.Ends.{Ends, starts}
use Rattle.journal.proofs.Walk.{walk_starts}
use Rattle.std.specs.Prelude.{Ok, Err}
use Rattle.text.specs.declared.Code.TheVariants.{JournalBroken}
use Rattle.text.specs.declared.Refusal.{Refusal}

-- ---- Lines

-- the newest entry's line comes first
lines_more : (o : ℕ) (es : List Entry) (e : Entry) → printed o (es ++ (e ∷ [])) ≡ line (o + length (journal_bytes es)) e ++ printed o es
unfolding printed journal_bytes
lines_more o [] e = sym (append-nil (line (o + 0) e) ∙ ap (λ (k : ℕ). line k e) (add-zero o))
lines_more o (x ∷ es) e =
    let place : o + length (entry_bytes x) + length (journal_bytes es) ≡ o + length (entry_bytes x ++ journal_bytes es) =
    omega (arith, length-append (entry_bytes x) (journal_bytes es)) in
    ap (λ (l : List ℕ). l ++ line o x) (lines_more (o + length (entry_bytes x)) es e)
    ∙ rw place (append_assoc (line (o + length (entry_bytes x ++ journal_bytes es)) e) (printed (o + length (entry_bytes x)) es) (line o x))

pub newest-first : (es : List Entry) (e : Entry) → printed 0 (es ++ (e ∷ [])) ≡ line (length (journal_bytes es)) e ++ printed 0 es
newest-first es e = lines_more 0 es e ∙ rw (zero_plus (length (journal_bytes es)))
  where
    zero_plus : (n : ℕ) → 0 + n ≡ n
    zero_plus n = omega arith

-- the walk gathers the lines
pub lines-all : (s : List ℕ) (es : List Entry) (end : ℕ) (lines : List ℕ) → IsJournal s end es
    → walk (with_line s) s end lines ≡ Sound (lines ++ printed 0 es)
unfolding printed
lines-all s =
    gathers (with_line s) s (λ es lines. lines ++ printed 0 es) (λ lines. append-nil lines)
    (λ es e lines same. ap (λ (l : List ℕ). lines ++ l) (newest-first es e) ∙ rw same (sym (append_assoc lines (line (length (journal_bytes es)) e) (printed 0 es))))

-- and their length
pub sizes-all : (s : List ℕ) (es : List Entry) (end size : ℕ) → IsJournal s end es
    → walk (with_size s) s end size ≡ Sound (size + length (printed 0 es))
unfolding printed
sizes-all s =
    gathers (with_size s) s (λ es size. size + length (printed 0 es)) (λ size. add-zero size)
    (λ es e size same.
    rw (newest-first es e, same, length-append (line (length (journal_bytes es)) e) (printed 0 es))
    (sym (add_assoc size (length (line (length (journal_bytes es)) e)) (length (printed 0 es)))))

pub sound-list : (t u : List ℕ) → Sound t ≡ Sound u → t ≡ u
sound-list t u e = cc

-- what was gathered stays at the front
pub lines_grow : (s : List ℕ) (end : ℕ) (lines t : List ℕ) → walk (with_line s) s end lines ≡ Sound t → length lines ≤ length t
lines_grow s end lines t e =
    let f = sound-is (with_line s) s (suc end) end lines t e in
    let same : lines ++ printed 0 f.0 ≡ t = sound-list (lines ++ printed 0 f.0) t (sym (lines-all s f.0 end lines f.1) ∙ e) in
    omega (arith, ap length same, length-append lines (printed 0 f.0))

-- a line beside offset and text has nine bytes
pub line-length : (at : ℕ) (e : Entry) → length e.who ≡ 6 → length (line at e) ≡ digits_of at + (9 + length e.text)
unfolding line
line-length at e six =
    simp (length-append, decimal-length (digits_of at) at, six) (omega arith)

-- the line of an entry that a step from the end finds
pub found-line : (s : List ℕ) (end at n : ℕ) → Ends s end at n → length (line at (entry_at s at n)) ≡ digits_of at + (9 + n)
found-line s end at n h =
    let w = h.whole in
    let i = h.inside in
    line-length at (entry_at s at n) (entry-who (entry_at s at n) h.fine) ∙ rw (part-long s (at + 6) n (omega arith))

-- how long its words are
pub word-length : (s : List ℕ) (behind : ℕ) → length (word s behind) ≡ length s + 1
word-length s behind = length-append s (behind ∷ [])

pub offset_length : (at : ℕ) → length (offset_word at) ≡ digits_of at + 1
offset_length at = word-length (offset_text at) 32 ∙ rw (decimal-length (digits_of at) at)

-- there is room for the next line where there is room for all
pub line-fits : (s : List ℕ) (end here at n : ℕ) (lines t : List ℕ) → walk (with_line s) s end [] ≡ Sound t
    → walk (with_line s) s end [] ≡ walk (with_line s) s here lines → last_entry s here ≡ starts_at at n
    → length lines + (digits_of at + (9 + n)) ≤ length t
line-fits s end here at n lines t all so e =
    let h = starts s here at n e in
    let more = line at (entry_at s at n) in
    let on : walk (with_line s) s at (lines ++ more) ≡ Sound t = sym (walk_starts (with_line s) s here at n lines e) ∙ sym so ∙ all in
    omega (arith, lines_grow s at (lines ++ more) t on, length-append lines more, found-line s here at n h)

-- ---- What the walk over the lines tells

told-sound : (r : Read ℕ) (n : ℕ) → length_told r ≡ Ok n → r ≡ Sound n
told-sound (Sound m) n e = let z : m ≡ n = cc in rw z
told-sound (Broken place) n e = let z : ◌≡◌ {A = ℕ} 0 1 = cc in absurd (omega arith)

told-broken : (r : Read ℕ) (x : Refusal) → length_told r ≡ Err x → (x ≡ record { code = JournalBroken; place = x.place }) × (r ≡ Broken x.place)
told-broken (Sound m) x e = let z : ◌≡◌ {A = ℕ} 0 1 = cc in absurd (omega arith)
told-broken (Broken p) x e =
    let same : ◌≡◌ {A = Refusal} (record { code = JournalBroken; place = p }) x = cc in
    let z : p ≡ x.place = ap (λ (y : Refusal). y.place) same in
    (sym same ∙ ap (λ (k : ℕ). record { code = JournalBroken; place = k }) z, ap Broken z)

sound-number : (m n : ℕ) → Sound m ≡ Sound n → m ≡ n
sound-number m n e = cc

-- a length is told of a sound journal alone
pub size-sound : (s : List ℕ) (end n : ℕ) → length_told (walk (with_size s) s end 0) ≡ Ok n
    → (es : List Entry) × IsJournal s end es × (n ≡ length (printed 0 es))
size-sound s end n e =
    let told = told-sound (walk (with_size s) s end 0) n e in
    let f = sound-is (with_size s) s (suc end) end 0 n told in
    (f.0, f.1, omega (arith, sound-number (0 + length (printed 0 f.0)) n (sym (sizes-all s f.0 end 0 f.1) ∙ told)))

-- and 14 of a broken one
pub size-broken : (s : List ℕ) (end : ℕ) (x : Refusal) → length_told (walk (with_size s) s end 0) ≡ Err x
    → (x ≡ record { code = JournalBroken; place = x.place }) × (entries_in s end ≡ Broken x.place)
size-broken s end x e =
    let told = told-broken (walk (with_size s) s end 0) x e in
    (told.0, walk-broken (with_size s) s end x.place 0 told.1)

-- ---- An offset

-- how many digits, and that they hold the number
pub digits_hold : (n : ℕ) → n ≤ most → value (offset_text n) ≡ n
unfolding digits_of
digits_hold n h =
    by_lt n 10 (λ l. rw (lt-ltb n 10 l) (value-decimal 1 n l))
    (λ a. by_lt n 100 (λ l. rw (le-ltb n 10 a, lt-ltb n 100 l) (value-decimal 2 n l))
    (λ b. by_lt n 1000 (λ l. rw (le-ltb n 10 a, le-ltb n 100 b, lt-ltb n 1000 l) (value-decimal 3 n l))
    (λ c. by_lt n 10000 (λ l. rw (le-ltb n 10 a, le-ltb n 100 b, le-ltb n 1000 c, lt-ltb n 10000 l) (value-decimal 4 n l))
    (λ d. rw (le-ltb n 10 a, le-ltb n 100 b, le-ltb n 1000 c, le-ltb n 10000 d) (value-decimal 5 n (omega arith))))))

-- an offset's bytes are digits
pub offset_digits : (n : ℕ) → all_digits (offset_text n) ≡ true
offset_digits n = decimal-digits (digits_of n) n

-- no zero leads them, but for the offset 0 itself
pub no-leading-zero : (n : ℕ) → n ≤ most → get_or (offset_text n) 0 0 ≡ 48 → n ≡ 0
unfolding digits_of digits_before
no-leading-zero n h =
    by_lt n 10 (λ l. rw (lt-ltb n 10 l) (λ (z : 48 + n % 10 ≡ 48). omega arith))
    (λ a. by_lt n 100 (λ l. rw (le-ltb n 10 a, lt-ltb n 100 l) (λ (z : 48 + n / 10 % 10 ≡ 48). omega arith))
    (λ b. by_lt n 1000 (λ l. rw (le-ltb n 10 a, le-ltb n 100 b, lt-ltb n 1000 l) (λ (z : 48 + n / 10 / 10 % 10 ≡ 48). omega arith))
    (λ c. by_lt n 10000 (λ l. rw (le-ltb n 10 a, le-ltb n 100 b, le-ltb n 1000 c, lt-ltb n 10000 l) (λ (z : 48 + n / 10 / 10 / 10 % 10 ≡ 48). omega arith))
    (λ d. rw (le-ltb n 10 a, le-ltb n 100 b, le-ltb n 1000 c, le-ltb n 10000 d) (λ (z : 48 + n / 10 / 10 / 10 / 10 % 10 ≡ 48). omega arith)))))
