-- The sections of numbers: eight numbers of a section hold what its members hold, and the section is checked and written by them.
use mathlib.Core.Path.{◌≡◌, refl, ◌∙◌}
use mathlib.Core.Bool.{◌&&◌}
use mathlib.Core.List.{List, [], ◌∷◌, ◌++◌, map}
use Prim.Native.Nat.{ℕ, zero, suc, ◌-◌, ◌≤◌}
use native.Mathlib.Omega.{arith}
use lib.Dec.{eqb}
use lib.ListN.{length, get_or, replicate}
use borrow.Author.Tests.{ne_eqb}
use Rattle.text.proofs.Cases.{by_test}
use Rattle.lists.specs.Lists.{all_zero}
use Rattle.section.specs.Layout.{table_of, layout_of, digits_of}
use Rattle.section.specs.Contents.{Content, Amount, amount_of, contents_text, contents_allowed}
use Rattle.section.specs.Inner.{numbers_of, Fit, pass_contents}
use Rattle.section.proofs.Rows.{look-past, table-past}
use Rattle.settings.specs.Settings.{ascent_hold, descent_hold, amount_in, enroute_from, ascent_from, descent_from, hours_from, fixed_of, fixed_sections, fixed_hold, contents_of}
use Rattle.settings.specs.Valid.{are_zero}
use Rattle.settings.specs.Inner.{Held, Bytes}
use Rattle.settings.specs.declared.Ascent.{Ascent}
use Rattle.settings.specs.declared.Descent.{Descent}
use Rattle.settings.specs.declared.Fixed.{Fixed}
use Rattle.settings.specs.declared.Settings.{Settings}

-- ---- Numbers as contents

pub amount_at : (v : List ℕ) (i : ℕ) → amount_in (map Amount v) i ≡ get_or v i 0
amount_at [] i = refl
amount_at (x ∷ v) zero = refl
amount_at (x ∷ v) (suc i) = amount_at v i

none-at : (n i : ℕ) → get_or (replicate {A = ℕ} n 0) i 0 ≡ 0
none-at zero i = refl
none-at (suc n) zero = refl
none-at (suc n) (suc i) = none-at n i

entry : (cs : List Content) (n i : ℕ) → get_or (map amount_of cs ++ replicate {A = ℕ} n 0) i 0 ≡ amount_in cs i
entry [] n i = none-at n i
entry (c ∷ cs) n zero = refl
entry (c ∷ cs) n (suc i) = entry cs n i

-- each number is what the section holds there
pub number_in : (cs : List Content) (i : ℕ) → amount_in (map Amount (numbers_of cs)) i ≡ amount_in cs i
unfolding numbers_of
number_in cs i = amount_at (map amount_of cs ++ replicate (8 - length cs) 0) i ∙ entry cs (8 - length cs) i

-- so the members out of the numbers are those out of what the section holds
pub enroute-same : (cs : List Content) → enroute_from (map Amount (numbers_of cs)) ≡ enroute_from cs
unfolding enroute_from
enroute-same cs = rw (number_in cs 0, number_in cs 1)

pub ascent-same : (cs : List Content) → ascent_from (map Amount (numbers_of cs)) ≡ ascent_from cs
unfolding ascent_from
ascent-same cs =
    rw (
      number_in cs 0,
      number_in cs 1,
      number_in cs 2,
      number_in cs 3,
      number_in cs 4,
      number_in cs 5,
      number_in cs 6,
      number_in cs 7,
    )

pub descent-same : (cs : List Content) → descent_from (map Amount (numbers_of cs)) ≡ descent_from cs
descent-same cs = rw (number_in cs 0, number_in cs 1, number_in cs 2, number_in cs 3, number_in cs 4)

pub hours-same : (cs : List Content) → hours_from (map Amount (numbers_of cs)) ≡ hours_from cs
unfolding hours_from
hours-same cs = rw (number_in cs 0, number_in cs 1)

-- ---- Numbers that members hold

-- numbers that no row's most is passed by are held
pub fit-held : (k : ℕ) (v : List ℕ) → Fit (table_of k) v → Held k v
fit-held k v f i h =
    by_test (eqb k 7 && eqb i 0) (λ t. let wide : 65535 ≤ 255 = rw t at h in absurd (omega (arith, wide))) (λ t. f i (rw t at h))

pub same-held : (k : ℕ) (v w : List ℕ) → v ≡ w → Held k w → (v ≡ w) × Held k v
same-held k v w e f = (e, rw e f)

pub same_bytes_lem : (v w : List ℕ) → v ≡ w → Bytes w → (v ≡ w) × Bytes v
same_bytes_lem v w e b = (e, rw e b)

pub two_bytes : (a b : ℕ) → a ≤ 255 → b ≤ 255 → Bytes (numbers_of (Amount a ∷ Amount b ∷ []))
unfolding numbers_of
two_bytes a b x y zero = x
two_bytes a b x y (suc zero) = y
two_bytes a b x y (suc (suc i)) = rw (none-at 6 i) (omega arith)

pub one_byte : (a : ℕ) → a ≤ 255 → Bytes (numbers_of (Amount a ∷ []))
unfolding numbers_of
one_byte a x zero = x
one_byte a x (suc i) = rw (none-at 7 i) (omega arith)

pub no_bytes : Bytes (replicate {A = ℕ} 8 0)
no_bytes i = rw (none-at 8 i) (omega arith)

-- duration and top alone need more than a byte
pub ascent-fits : (x : Ascent) → x.mode ≤ 255 → x.interval1 ≤ 255 → x.interval2 ≤ 255 → x.total ≤ 255 → x.list ≤ 255 → x.timer ≤ 255
    → Held 5 (numbers_of (ascent_hold x))
unfolding numbers_of table_of
ascent-fits x a b c d e f zero h = a
ascent-fits x a b c d e f (suc zero) h = b
ascent-fits x a b c d e f (suc (suc zero)) h = absurd (omega arith)
ascent-fits x a b c d e f (suc (suc (suc zero))) h = c
ascent-fits x a b c d e f (suc (suc (suc (suc zero)))) h = d
ascent-fits x a b c d e f (suc (suc (suc (suc (suc zero))))) h = absurd (omega arith)
ascent-fits x a b c d e f (suc (suc (suc (suc (suc (suc zero)))))) h = e
ascent-fits x a b c d e f (suc (suc (suc (suc (suc (suc (suc zero))))))) h = f
ascent-fits x a b c d e f (suc (suc (suc (suc (suc (suc (suc (suc i)))))))) h = omega arith

-- the list and the timer alone are bytes
pub descent-fits : (x : Descent) → x.list ≤ 255 → x.timer ≤ 255 → Held 7 (numbers_of (descent_hold x))
unfolding numbers_of table_of
descent-fits x a b zero h = absurd (omega arith)
descent-fits x a b (suc zero) h = absurd (omega arith)
descent-fits x a b (suc (suc zero)) h = absurd (omega arith)
descent-fits x a b (suc (suc (suc zero))) h = a
descent-fits x a b (suc (suc (suc (suc zero)))) h = b
descent-fits x a b (suc (suc (suc (suc (suc i))))) h = rw (none-at 3 i) (omega arith)

-- ---- By the section's number

-- what is so of each number from 4 to 9, and of those past them, is so from 4 on
pub from-four : (P : ℕ → Type 0) → P 4 → P 5 → P 6 → P 7 → P 8 → P 9 → ((k : ℕ) → 10 ≤ k → P k) → (k : ℕ) → 4 ≤ k → P k
from-four P a b c d e f past zero h = absurd (omega arith)
from-four P a b c d e f past (suc zero) h = absurd (omega arith)
from-four P a b c d e f past (suc (suc zero)) h = absurd (omega arith)
from-four P a b c d e f past (suc (suc (suc zero))) h = absurd (omega arith)
from-four P a b c d e f past (suc (suc (suc (suc zero)))) h = a
from-four P a b c d e f past (suc (suc (suc (suc (suc zero))))) h = b
from-four P a b c d e f past (suc (suc (suc (suc (suc (suc zero)))))) h = c
from-four P a b c d e f past (suc (suc (suc (suc (suc (suc (suc zero))))))) h = d
from-four P a b c d e f past (suc (suc (suc (suc (suc (suc (suc (suc zero)))))))) h = e
from-four P a b c d e f past (suc (suc (suc (suc (suc (suc (suc (suc (suc zero))))))))) h = f
from-four P a b c d e f past (suc (suc (suc (suc (suc (suc (suc (suc (suc (suc k)))))))))) h =
    past (suc (suc (suc (suc (suc (suc (suc (suc (suc (suc k)))))))))) (omega arith)

-- the record holds there what its sections of numbers hold
pub contents_fixed : (x : Settings) (k : ℕ) → 4 ≤ k → contents_of x k ≡ fixed_hold (fixed_of x) k
unfolding contents_of
contents_fixed x k h = rw (ne_eqb k 2 (λ e. omega arith), ne_eqb k 3 (λ e. omega arith))

past-digits : (k : ℕ) → 10 ≤ k → layout_of k ≡ digits_of (table_of k)
unfolding layout_of
past-digits k h = rw (table-past k h)

-- such a section has no lists
pub only-digits : (k : ℕ) → 4 ≤ k → layout_of k ≡ digits_of (table_of k)
unfolding layout_of table_of
only-digits = from-four (λ k. layout_of k ≡ digits_of (table_of k)) refl refl refl refl refl refl past-digits

module _ (x : Fixed) where
  -- no section past them holds anything
  holds-past : (k : ℕ) → 10 ≤ k → fixed_hold x k ≡ []
  unfolding fixed_hold
  holds-past k h = look-past 10 k (fixed_sections x) [] refl h

  abbrev PassesAt : ℕ → ℕ → Type 0
  PassesAt at k = pass_contents (digits_of (table_of k)) at (map Amount (numbers_of (fixed_hold x k))) ≡ pass_contents (layout_of k) at (fixed_hold x k)

  pass_past : (at k : ℕ) → 10 ≤ k → PassesAt at k
  unfolding contents_allowed contents_text
  pass_past at k h = rw (past-digits k h, table-past k h)

  -- it is passed by its numbers
  pub pass_eight : (at k : ℕ) → 4 ≤ k → PassesAt at k
  unfolding layout_of table_of fixed_hold numbers_of contents_allowed contents_text
  pass_eight at = from-four (PassesAt at) refl refl refl refl refl refl (pass_past at)

  abbrev WrittenAt : ℕ → Type 0
  WrittenAt k = contents_text (digits_of (table_of k)) (map Amount (numbers_of (fixed_hold x k))) ≡ contents_text (layout_of k) (fixed_hold x k)

  written-past : (k : ℕ) → 10 ≤ k → WrittenAt k
  unfolding contents_text
  written-past k h = rw (past-digits k h, table-past k h)

  -- and written by them
  pub text-eight : (k : ℕ) → 4 ≤ k → WrittenAt k
  unfolding layout_of table_of fixed_hold numbers_of contents_text
  text-eight = from-four WrittenAt refl refl refl refl refl refl written-past

  abbrev ZeroAt : ℕ → Type 0
  ZeroAt k = all_zero (numbers_of (fixed_hold x k)) ≡ are_zero (fixed_hold x k)

  zero-past : (k : ℕ) → 10 ≤ k → ZeroAt k
  unfolding numbers_of all_zero are_zero
  zero-past k h = rw (holds-past k h)

  -- it is zero where they are
  pub zero-eight : (k : ℕ) → 4 ≤ k → ZeroAt k
  unfolding fixed_hold numbers_of all_zero are_zero
  zero-eight = from-four ZeroAt refl refl refl refl refl refl zero-past

-- for a function's check
pub ruleset written = (text-eight, pass_eight, zero-eight)
