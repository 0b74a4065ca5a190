-- A command's smallest fields, in a text s from a place on. Within a field: 8, then 3 or 4, 6, 5.
use Rattle.std.specs.Prelude.{cond, ◌&&◌, List, ℕ, zero, suc, ◌+◌, leb, eqb, length, get_or, Result, Ok}
use Rattle.text.specs.Names.{all_allowed}
use Rattle.text.specs.Parts.{part}
use Rattle.field.specs.Decimal.{all_digits, value}
use Rattle.text.specs.Checks.{refuse, after}
use Rattle.text.specs.declared.Refusal.{Refusal}
use Rattle.text.specs.declared.Code.{Code}
use Rattle.text.specs.declared.Code.TheVariants.{NotAllowed, OutOfRange, WrongEnd, WrongFixed}

-- 8 where the text ends inside a field of n bytes
abbrev pub room : ℕ → List ℕ → ℕ → Result ℕ Refusal → Result ℕ Refusal
room n s at seen = cond (leb (at + n) (length s)) seen (refuse WrongEnd at)

-- w digits that spell a number from the least to the most: a non-digit is 4, a number that doesn't fit has a code of its own
unfoldable pub check_digits : Code → ℕ → ℕ → ℕ → List ℕ → ℕ → Result ℕ Refusal
check_digits code w least most s at =
    room w s at
    (cond (all_digits (part at w s))
    (cond (leb least (value (part at w s)) && leb (value (part at w s)) most) (Ok (at + w)) (refuse code at))
    (refuse NotAllowed at))

-- a number: one that doesn't fit is 5
abbrev pub check_number : ℕ → ℕ → ℕ → List ℕ → ℕ → Result ℕ Refusal
check_number w least most s at = check_digits OutOfRange w least most s at

-- a mark, one byte that is one of few digits: any other byte is 4
abbrev pub check_mark : ℕ → ℕ → List ℕ → ℕ → Result ℕ Refusal
check_mark least most s at = check_digits NotAllowed 1 least most s at

-- the delimiter `/`
unfoldable pub check_delimiter : List ℕ → ℕ → Result ℕ Refusal
check_delimiter s at = room 1 s at (cond (eqb (get_or s at 0) 47) (Ok (at + 1)) (refuse WrongFixed at))

-- an airfield, four bytes
unfoldable pub check_airfield : List ℕ → ℕ → Result ℕ Refusal
check_airfield s at = room 4 s at (cond (all_allowed (part at 4 s)) (Ok (at + 4)) (refuse NotAllowed at))

-- n fields of one kind, one after the other
unfoldable pub repeat : (ℕ → Result ℕ Refusal) → ℕ → ℕ → Result ℕ Refusal
repeat check zero at = Ok at
repeat check (suc n) at = after (check at) (repeat check n)
