use native.Mathlib.Omega.{arith}
use Prim.Native.Nat.{ℕ, ◌+◌, ◌<◌}
use mathlib.Core.Path.{◌≡◌, sym, ap, ◌∙◌}
use mathlib.Core.Bool.{Bool, true, ◌&&◌, ◌||◌}
use mathlib.Core.List.{List}
use lib.Dec.{ltb, eqb}
use lib.ListN.{length, get_or}
use Rattle.field.specs.Decimal.{all_digits, value}
use Rattle.sheet.specs.declared.Found.{Found}
use Rattle.sheet.specs.Inner.{FoundIn}
use Rattle.sheet.specs.Number.{zero_first, digits_read, number_read}
use Rattle.sheet.proofs.Scan.{value_positive, within-small}
use Rattle.sheet.proofs.Counted.{minus, from, tail, tail-read, tail-value, tail-first, tail_near, tail_all, tail-long, tail_none, tail_wrong}
use Rattle.sheet.proofs.number.read_number.Goals as goal
use Rattle.sheet.proofs.number.read_number.Goals.{After-one_if, Else-digits-eq0, Else-first-digits}

any : (c : Else-digits-eq0) → 0 < c.found_in-spaces.result.digits
any c = omega (arith, c.if-digits-eq0.false)

-- where the digits begin
begins : (c : After-one_if)
    → c.found_in-spaces.result.spaces + c.one_if.result ≡ from c.args.f.now c.found_in-spaces.result c.found_in-spaces.ensures
begins c = ap (λ (k : ℕ). c.found_in-spaces.result.spaces + k) c.one_if.ensures.0

-- digits to the end
abbrev f : (c : Else-first-digits) → List ℕ
f c = c.args.f.now

abbrev r : (c : Else-first-digits) → Found
r c = c.found_in-spaces.result

abbrev h : (c : Else-first-digits) → FoundIn (f c) (r c)
h c = c.found_in-spaces.ensures

some : (c : Else-first-digits) → 0 < (r c).digits
some c = omega (arith, c.if-digits-eq0.false)

ends : (c : Else-first-digits) → from (f c) (r c) (h c) + (r c).digits ≡ length (f c)
ends c =
    let begins :
    c.found_in-spaces.result.spaces + c.one_if.result ≡ from c.args.f.now c.found_in-spaces.result c.found_in-spaces.ensures = ap (λ (k : ℕ). c.found_in-spaces.result.spaces + k) c.one_if.ensures.0 in
    rw (← begins) c.if-first-digits.false

read : (c : Else-first-digits) → number_read c.args.l (f c) ≡ digits_read c.args.l (minus (f c) (r c) (h c)) (tail (f c) (r c) (h c))
read c = tail-read (f c) (r c) (h c) c.args.l

all : (c : Else-first-digits) → (ltb 0 (length (tail (f c) (r c) (h c))) ≡ true) × (all_digits (tail (f c) (r c) (h c)) ≡ true)
all c = tail_all (f c) (r c) (h c) (some c) (ends c)

zero : (c : Else-first-digits) → zero_first (minus (f c) (r c) (h c)) (tail (f c) (r c) (h c)) ≡ (eqb (get_or (f c) ((r c).spaces + c.one_if.result) 0) 48 && (minus (f c) (r c) (h c) || ltb 1 (r c).digits))
zero c =
    let begins :
    c.found_in-spaces.result.spaces + c.one_if.result ≡ from c.args.f.now c.found_in-spaces.result c.found_in-spaces.ensures = ap (λ (k : ℕ). c.found_in-spaces.result.spaces + k) c.one_if.ensures.0 in
    rw (tail-first (f c) (r c) (h c), tail-long (f c) (r c) (h c) (some c) (ends c), begins)

spells : (c : Else-first-digits) → (r c).value ≡ value (tail (f c) (r c) (h c))
spells c = tail-value (f c) (r c) (h c)

pub returns-then-digits-eq0 : goal.returns-then-digits-eq0
returns-then-digits-eq0 c = sym (tail_none c.args.f.now c.found_in-spaces.result c.found_in-spaces.ensures _ c.if-digits-eq0.true)

pub bounds-f-spaces : goal.bounds-f-spaces
bounds-f-spaces c = omega (arith, tail_near c.args.f.now c.found_in-spaces.result c.found_in-spaces.ensures (any (goal.at.bounds-f-spaces c).Else-digits-eq0))

pub overflow_add-first-2 : goal.overflow_add-first-2
overflow_add-first-2 c = omega (arith, begins (goal.at.overflow_add-first-2 c).After-one_if, tail_near c.args.f.now c.found_in-spaces.result c.found_in-spaces.ensures (any (goal.at.overflow_add-first-2 c).Else-digits-eq0))

pub returns-then-first-digits : goal.returns-then-first-digits
returns-then-first-digits c =
    sym (tail_wrong c.args.f.now c.found_in-spaces.result c.found_in-spaces.ensures _ (any (goal.at.returns-then-first-digits c).Else-digits-eq0) (λ e. c.if-first-digits.true (rw (begins (goal.at.returns-then-first-digits c).After-one_if) e)))

pub returns-then-f-first : goal.returns-then-f-first
unfolding digits_read
returns-then-f-first c =
    rw (read (goal.at.returns-then-f-first c).Else-first-digits, (all (goal.at.returns-then-f-first c).Else-first-digits).0, (all (goal.at.returns-then-f-first c).Else-first-digits).1, zero (goal.at.returns-then-f-first c).Else-first-digits, c.if-f-first.true)

pub returns-then-not-is_within : goal.returns-then-not-is_within
unfolding digits_read
returns-then-not-is_within c =
    rw (read (goal.at.returns-then-not-is_within c).Else-first-digits, (all (goal.at.returns-then-not-is_within c).Else-first-digits).0, (all (goal.at.returns-then-not-is_within c).Else-first-digits).1, zero (goal.at.returns-then-not-is_within c).Else-first-digits, c.if-f-first.false, ← spells (goal.at.returns-then-not-is_within c).Else-first-digits, sym c.is_within.ensures ∙ c.if-not-is_within.true)

pub word_of-requires : goal.word_of-requires
word_of-requires c =
    record { v_bound = within-small _ _ _ c.requires.below_bound (sym c.is_within.ensures ∙ c.if-not-is_within.false); v_nonzero = (λ below. rw (spells (goal.at.word_of-requires c).Else-first-digits) (value_positive _ (all (goal.at.word_of-requires c).Else-first-digits).0 (all (goal.at.word_of-requires c).Else-first-digits).1 (ap (λ (m : Bool). zero_first m (tail (f (goal.at.word_of-requires c).Else-first-digits) (r (goal.at.word_of-requires c).Else-first-digits) (h (goal.at.word_of-requires c).Else-first-digits))) (sym below) ∙ zero (goal.at.word_of-requires c).Else-first-digits ∙ c.if-f-first.false))) }

pub returns : goal.returns
unfolding digits_read
returns c =
    rw (c.word_of.ensures, read (goal.at.returns c).Else-first-digits, (all (goal.at.returns c).Else-first-digits).0, (all (goal.at.returns c).Else-first-digits).1, zero (goal.at.returns c).Else-first-digits, c.if-f-first.false, ← spells (goal.at.returns c).Else-first-digits, sym c.is_within.ensures ∙ c.if-not-is_within.false)
