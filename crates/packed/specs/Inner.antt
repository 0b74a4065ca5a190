-- What the inner functions of the reader and the writer answer. No promise to a caller rests on these names.
use Rattle.std.specs.Prelude.{Bool, cond, ◌&&◌, List, ℕ, ◌+◌, ◌%◌, ltb, length}
use Rattle.packed.specs.Packed.{digit_of, trim, all_digits, fault}
use Rattle.text.specs.declared.Code.TheVariants.{NotAllowed, OtherSpelling}
use Rattle.text.specs.declared.Refusal.{Refusal}

-- how a field is refused that is neither missing nor a figure: digits behind spaces are more than hold it
unfoldable pub refused_field : List ℕ → Refusal
refused_field f =
    cond (ltb 0 (length (trim f)) && all_digits (trim f))
    (record { code = OtherSpelling; place = 0 }) (record { code = NotAllowed; place = fault f })

-- the last digit of n: one that stands alone counts from half a digit on
unfoldable pub last_digit : ℕ → Bool → ℕ
last_digit n alone = digit_of ((n + cond alone 20 0) % 40)
