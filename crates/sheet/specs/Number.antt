-- A number of the sheet: right-aligned behind spaces, in the fewest digits, `-` directly before the digits of one below zero.
use Rattle.std.specs.Prelude.{Bool, true, false, cond, ◌&&◌, ◌||◌, List, [], ◌∷◌, ℕ, ◌-◌, leb, ltb, eqb, length, get_or, drop, Result, Ok, Err}
use Rattle.text.specs.declared.Code.{Code}
use Rattle.text.specs.declared.Code.TheVariants.{NotAllowed, OutOfRange, OtherSpelling}
use Rattle.packed.specs.Packed.{trim}
use Rattle.field.specs.Decimal.{all_digits, value, decimal}
use Rattle.sheet.specs.declared.Limits.{Limits}

-- a number is held in 16 bits, one below zero as C's int16_t has it: 65536 less its size
abbrev pub word_of : Bool → ℕ → ℕ
word_of below v = cond below (65536 - v) v

abbrev pub is_below : ℕ → Bool
is_below x = leb 32768 x

abbrev pub size_of : ℕ → ℕ
size_of x = cond (is_below x) (65536 - x) x

-- no further below zero than the limit there, or from the least to the most
unfoldable pub within : Limits → Bool → ℕ → Bool
within l below v = cond below (leb v l.below) (leb l.least v && leb v l.most)

-- the word that a field was read as, 0 where it was refused
abbrev pub word_in : Result ℕ Code → ℕ
word_in (Ok x) = x
word_in (Err code) = 0

-- ---- Reading: 4, then 6, then 5

-- 48 is `0`: it stands before other digits, or behind `-`
abbrev pub zero_first : Bool → List ℕ → Bool
zero_first below ds = eqb (get_or ds 0 0) 48 && (below || ltb 1 (length ds))

-- one digit or more, else 4; a zero before other digits or behind `-` is 6; a number outside the limits is 5
unfoldable pub digits_read : Limits → Bool → List ℕ → Result ℕ Code
digits_read l below ds =
    cond (ltb 0 (length ds) && all_digits ds)
    (cond (zero_first below ds) (Err OtherSpelling)
    (cond (within l below (value ds)) (Ok (word_of below (value ds)))
    (Err OutOfRange)))
    (Err NotAllowed)

-- 45 is `-`
unfoldable pub signed_read : Limits → List ℕ → Result ℕ Code
signed_read l t = cond (eqb (get_or t 0 0) 45) (digits_read l true (drop 1 t)) (digits_read l false t)

-- a field, behind its leading spaces
unfoldable pub number_read : Limits → List ℕ → Result ℕ Code
number_read l f = signed_read l (trim f)

-- ---- Writing

-- digits with spaces for the zeros before the first other digit; the last digit stays
unfoldable pub blanked : List ℕ → List ℕ
blanked [] = []
blanked (b ∷ []) = b ∷ []
blanked (b ∷ c ∷ ds) = cond (eqb b 48) (32 ∷ blanked (c ∷ ds)) (b ∷ c ∷ ds)

-- `-` for the last of the leading spaces
unfoldable pub marked : List ℕ → List ℕ
marked [] = []
marked (b ∷ []) = b ∷ []
marked (b ∷ c ∷ ds) = cond (eqb c 32) (b ∷ marked (c ∷ ds)) (45 ∷ c ∷ ds)

unfoldable pub number_text : ℕ → ℕ → List ℕ
number_text w x = cond (is_below x) (marked (blanked (decimal w (size_of x)))) (blanked (decimal w (size_of x)))
