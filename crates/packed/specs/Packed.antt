-- Document 01, "Packed figures".
use Rattle.std.specs.Prelude.{Bool, true, cond, ◌&&◌, List, [], ◌∷◌, ◌++◌, ℕ, zero, suc, ◌+◌, ◌-◌, ◌*◌, ◌/◌, ◌%◌, ◌^◌, leb, ltb, eqb, ℤ, pos, negsuc, length, drop, replicate, Option, Some, None, Result, Ok, Err, is_ok}
use Rattle.std.proofs.Math.IntN.{sub_ℕ}
use Rattle.std.specs.Int.Signed.{mag}
use Rattle.text.specs.Table.{values}
use Rattle.text.specs.Checks.{refuse}
use Rattle.text.specs.declared.Code.{Code}
use Rattle.text.specs.declared.Code.TheVariants.{WrongLength, NoRoom, NotAllowed, OutOfRange, OtherSpelling}
use Rattle.text.specs.declared.Refusal.{Refusal}

-- what a field holds: a number, or that there is none
abbrev pub Figure : Type 0
Figure = Option ℤ

-- ---- One table of 256 entries gives every byte its worth

-- `0`-`9` are 0 to 9, `A`-`Z` are 10 to 35, `:` `,` `-` `.` are 36 to 39, all others none, which is 40
unfoldable pub worth_of : ℕ → ℕ
worth_of b =
    cond (leb 48 b && leb b 57) (b - 48)
    (cond (leb 65 b && leb b 90) (b - 55)
    (cond (eqb b 58) 36
    (cond (eqb b 44) 37
    (cond (eqb b 45) 38
    (cond (eqb b 46) 39 40)))))

unfoldable pub worths : List ℕ
worths = values worth_of 0 256

-- the byte that is worth n
unfoldable pub digit_of : ℕ → ℕ
digit_of n =
    cond (ltb n 10) (48 + n)
    (cond (ltb n 36) (55 + n)
    (cond (eqb n 36) 58
    (cond (eqb n 37) 44
    (cond (eqb n 38) 45 46))))

unfoldable pub digits : List ℕ
digits = values digit_of 0 40

-- ---- In k digits, most significant first, the figure is the base-40 number less 20·40^(k-1)

-- k digits span -half_of k to half_of k - 1; no digits hold nothing
unfoldable pub half_of : ℕ → ℕ
half_of zero = 0
half_of (suc k) = 20 * 40 ^ k

-- `mag x` is x, or -x - 1 below zero: the whole span is one test
abbrev pub holds : ℕ → ℤ → Bool
holds k x = ltb (mag x) (half_of k)

-- the base-40 number of the bytes, n being what stands before them
unfoldable pub number : ℕ → List ℕ → ℕ
number n [] = n
number n (b ∷ bs) = number (n * 40 + worth_of b) bs

-- the figure of a base-40 number of k digits
abbrev pub figure_of : ℕ → ℕ → ℤ
figure_of n k = sub_ℕ n (half_of k)

-- ---- A field has leading spaces, then at least one digit; the fewest digits that hold the figure are its one spelling

abbrev pub width_ok : ℕ → Bool
width_ok w = leb 1 w && leb w 5

unfoldable pub all_solidi : List ℕ → Bool
all_solidi [] = true
all_solidi (b ∷ bs) = eqb b 47 && all_solidi bs

-- the field without its leading spaces
unfoldable pub trim : List ℕ → List ℕ
trim [] = []
trim (b ∷ bs) = cond (eqb b 32) (trim bs) (b ∷ bs)

unfoldable pub all_digits : List ℕ → Bool
all_digits [] = true
all_digits (b ∷ bs) = ltb (worth_of b) 40 && all_digits bs

-- ---- Where code 4 points: the first byte up to and with which no field of that width free of code 4 could begin

abbrev pub is_solidus : ℕ → Bool
is_solidus b = eqb b 47

abbrev pub is_digit : ℕ → Bool
is_digit b = ltb (worth_of b) 40

-- how many bytes stand before the first that is not such
unfoldable pub ahead : (ℕ → Bool) → List ℕ → ℕ
ahead test [] = 0
ahead test (b ∷ bs) = cond (test b) (suc (ahead test bs)) 0

-- the first byte behind the leading spaces that is no digit; of spaces alone the last
unfoldable pub fault_behind : List ℕ → ℕ
fault_behind f = cond (eqb (length (trim f)) 0) (length f - 1) (length f - length (trim f) + ahead is_digit (trim f))

-- a field that begins with a solidus has solidi alone, any other spaces and digits
unfoldable pub fault : List ℕ → ℕ
fault f = cond (ltb 0 (ahead is_solidus f)) (ahead is_solidus f) (fault_behind f)

-- ---- What is read

-- k digits that spell n: 6 where fewer would hold the figure
unfoldable pub spelt : ℕ → ℕ → Result Figure Refusal
spelt n k = cond (holds (k - 1) (figure_of n k)) (refuse OtherSpelling 0) (Ok (Some (figure_of n k)))

unfoldable pub read_packed : List ℕ → Result Figure Refusal
read_packed f =
    cond (width_ok (length f))
    (cond (all_solidi f) (Ok None)
    (cond (ltb 0 (length (trim f)) && all_digits (trim f)) (spelt (number 0 (trim f)) (length (trim f)))
    (refuse NotAllowed (fault f))))
    (refuse WrongLength 0)

-- where a refusal points, 0 where there is none
abbrev pub place_of : Result Figure Refusal → ℕ
place_of (Ok x) = 0
place_of (Err r) = r.place

-- ---- Writing

-- the fewest digits, k at the most, that hold a figure of that size
unfoldable pub fewest : ℕ → ℕ → ℕ
fewest zero m = 0
fewest (suc k) m = cond (ltb m (half_of k)) (fewest k m) (suc k)

-- x and h together, where h holds x: the base-40 number that stands for x
abbrev pub above : ℤ → ℕ → ℕ
above (pos a) h = a + h
above (negsuc a) h = h - suc a

-- k digits of n, before ds
unfoldable pub spell : ℕ → ℕ → List ℕ → List ℕ
spell zero n ds = ds
spell (suc k) n ds = spell k (n / 40) (digit_of (n % 40) ∷ ds)

-- k digits of n behind spaces, w bytes in all
abbrev pub behind_spaces : ℕ → ℕ → ℕ → List ℕ
behind_spaces w k n = replicate (w - k) 32 ++ spell k n []

-- x in k digits behind spaces
abbrev pub spelling : ℕ → ℕ → ℤ → List ℕ
spelling w k x = behind_spaces w k (above x (half_of k))

unfoldable pub field_of : ℕ → Figure → List ℕ
field_of w (Some x) = spelling w (fewest w (mag x)) x
field_of w None = replicate w 47

-- a figure that w digits hold, or a missing one
abbrev pub fitting : ℕ → Figure → Bool
fitting w (Some x) = holds w x
fitting w None = true

-- width, then figure, then room
unfoldable pub write_code : Figure → ℕ → ℕ → Result (Unit {0}) Code
write_code x w room = cond (width_ok w) (cond (fitting w x) (cond (leb w room) (Ok tt) (Err NoRoom)) (Err OutOfRange)) (Err WrongLength)

-- what the buffer holds afterwards: the field and what was behind it, or all that it held
unfoldable pub written : Figure → ℕ → List ℕ → List ℕ
written x w out = cond (is_ok (write_code x w (length out))) (field_of w x ++ drop w out) out
