-- Document 02, §8: "one line per entry (nothing at all for a broken journal), newest first: the entry's offset in decimal, a space,
-- the designator, a space, the text, LF".
use Rattle.std.specs.Prelude.{cond, List, [], ◌∷◌, ◌++◌, ℕ, ◌+◌, leb, ltb, length, Result}
use Rattle.text.specs.Checks.{must}
use Rattle.field.specs.Decimal.{decimal}
use Rattle.journal.specs.Journal.{Entry, entry_bytes, Read, Sound, Broken, entries_in}
use Rattle.journal.specs.Calls.{seen_of, told, left_by}
use Rattle.text.specs.declared.Refusal.{Refusal}
use Rattle.text.specs.declared.Code.TheVariants.{NoRoom}

-- how many digits an offset has
unfoldable pub digits_of : ℕ → ℕ
digits_of n = cond (ltb n 10) 1 (cond (ltb n 100) 2 (cond (ltb n 1000) 3 (cond (ltb n 10000) 4 5)))

abbrev pub offset_text : ℕ → List ℕ
offset_text at = decimal (digits_of at) at

-- a text and the byte behind it: a space is 32, LF is 10
abbrev pub word : List ℕ → ℕ → List ℕ
word s behind = s ++ (behind ∷ [])

abbrev pub offset_word : ℕ → List ℕ
offset_word at = word (offset_text at) 32

unfoldable pub line : ℕ → Entry → List ℕ
line at e = offset_word at ++ word e.who 32 ++ word e.text 10

-- the lines of entries of which the first one's offset is given: those of the later ones come before its own
unfoldable pub printed : ℕ → List Entry → List ℕ
printed at [] = []
printed at (e ∷ es) = printed (at + length (entry_bytes e)) es ++ line at e

abbrev pub printed_in : Read (List Entry) → List ℕ
printed_in (Sound es) = printed 0 es
printed_in (Broken place) = []

-- 14, then 2 where the buffer is shorter than the text
unfoldable pub print_seen : List ℕ → ℕ → ℕ → Result (Unit {0}) Refusal
print_seen s end room = seen_of (entries_in s end) (λ (es : List Entry). must (leb (length (printed 0 es)) room) NoRoom 0)

unfoldable pub print_told : List ℕ → ℕ → ℕ → Result ℕ Refusal
print_told s end room = told (print_seen s end room) (length (printed_in (entries_in s end)))

unfoldable pub printed_over : List ℕ → ℕ → List ℕ → List ℕ
printed_over s end out = left_by (print_seen s end (length out)) out 0 (printed_in (entries_in s end))
