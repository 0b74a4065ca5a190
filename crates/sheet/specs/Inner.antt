-- What the inner functions ask for. No promise to a caller rests on these names.
use Rattle.std.specs.Prelude.{Bool, true, cond, ◌&&◌, List, [], ◌∷◌, ℕ, ◌+◌, ◌*◌, ◌%◌, ◌≤◌, length, get_or, take, drop, ◌≡◌, leb, Ok}
use Rattle.text.specs.Parts.{part}
use Rattle.packed.specs.Packed.{trim}
use Rattle.field.specs.Decimal.{is_digit, value}
use Rattle.sheet.specs.Sheet.{airport_of, seen, label_of, line_end, fixed_code, field_end, cell_end}
use Rattle.sheet.specs.declared.Form.{Form}
use Rattle.sheet.specs.declared.Form.TheVariants.{Name, Switch, Digit, Number}
use Rattle.sheet.specs.declared.Cell.{Cell}
use Rattle.sheet.specs.declared.Found.{Found}
use Rattle.sheet.specs.declared.Held.{Held}
use Rattle.sheet.specs.Layout.{width_of}

-- numbers that are read without overflow
unfoldable pub small_form : Form → Bool
small_form (Name w) = leb w 100
small_form Switch = true
small_form (Digit most) = leb most 9
small_form (Number w l) = leb w 6 && (leb l.below 32768 && leb l.most 32767)

unfoldable pub small_cell : Cell → Bool
small_cell c = leb c.at 2000 && (leb c.labelled 16 && small_form c.form)

-- ---- Numbers

unfoldable pub digit_count : List ℕ → ℕ
digit_count [] = 0
digit_count (b ∷ bs) = cond (is_digit b) 1 0 + digit_count bs

-- where a field goes on behind its spaces, its digits wherever they stand, and what all its bytes spell
abbrev pub FoundIn : List ℕ → Found → Type 0
FoundIn f r = ((r.spaces ≤ length f) × (drop r.spaces f ≡ trim f)) × ((r.digits ≡ digit_count f) × (r.value ≡ value f))

-- ---- Checking

-- a cell with a short fixed group, all of whose bytes are there
abbrev pub Whole : List ℕ → Cell → Type 0
Whole s c = (small_cell c ≡ true) × ((c.labelled ≤ 4) × (cell_end c ≤ length s))

-- its fixed group, and the CR LF behind it
abbrev pub Framed : List ℕ → Cell → Type 0
Framed s c = (fixed_code (label_of c) s c.at ≡ Ok tt) × (cond c.ends (seen (fixed_code line_end s (field_end c)) (field_end c)) (Ok tt) ≡ (Ok tt))

-- ---- Writing

-- what a cell holds, by its form: a word, or the bytes of a name
unfoldable pub held_is : Form → Held → List ℕ
held_is (Name w) h = take w h.name
held_is Switch h = h.word ∷ []
held_is (Digit most) h = h.word ∷ []
held_is (Number w l) h = h.word ∷ []

-- of the airports' cells the even ones have a name and the odd ones a status
abbrev pub AirportIs : List ℕ → ℕ → Held → Type 0
AirportIs airports k h =
    (k % 2 ≡ 0 → take 4 h.name ≡ part (5 * airport_of k) 4 airports) × ((k % 2 ≡ 0 → ⊥) → h.word ≡ get_or airports (5 * airport_of k + 4) 0)

-- how many bytes a cell is
unfoldable pub size_of_cell : Cell → ℕ
size_of_cell c = c.labelled + (width_of c.form + cond c.ends 2 0)

-- names are no longer than six bytes, and every field has one byte or more
unfoldable pub held_form : Form → Bool
held_form (Name w) = leb w 6
held_form Switch = true
held_form (Digit most) = leb most 9
held_form (Number w l) = true
