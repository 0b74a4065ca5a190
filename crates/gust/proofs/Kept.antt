-- What is answered and what is refused, of every row and every input, by the formula said without a division.
use mathlib.Core.Path.{◌≡◌, refl, sym, ap, subst, ◌∙◌}
use mathlib.Core.Bool.{Bool, true, false, ◌&&◌}
use Prim.Native.Nat.{ℕ, zero-le, ◌≤◌, ◌<◌}
use lib.Dec.{ltb}
use lib.ListN.{length}
use lib.IntN.{ℤ, pos, negsuc}
use borrow.Author.Tests.{lt-ltb, le-ltb, lt-leb, le-leb}
use Rattle.std.specs.Prelude.{Ok, Err}
use Rattle.text.specs.declared.Code.TheVariants.{OutOfRange}
use Rattle.gust.specs.Rows.{rows}
use Rattle.gust.specs.Gust.{gust_of, of_gust, row_at, derived}
use Rattle.gust.specs.Words.{Formula, InRange}
use Rattle.gust.proofs.Answers.{within-range, outside-range}
use Rattle.gust.proofs.Examples.{still}
use Rattle.gust.proofs.Meaning.{some-gust, one-gust}
use Rattle.gust.proofs.Table.{count}

exists : (k : ℕ) → k < 36 → k < length rows
exists k = subst (λ (n : ℕ). k < n) (sym count)

either_false : (t : Bool) → (t && false) ≡ false
either_false true = refl
either_false false = refl

pub no_row : (k : ℕ) (h : ℤ) (m n v : ℕ) → 36 ≤ k → derived k h m n v ≡ Err OutOfRange
unfolding derived
no_row k h m n v r = rw (le-ltb k (length rows) (subst (λ (n : ℕ). n ≤ k) (sym count) r))

pub outside : (k : ℕ) (h : ℤ) (m n v : ℕ) → ¬ InRange h m n v → derived k h m n v ≡ Err OutOfRange
unfolding derived
outside k h m n v f = rw (outside-range h m n v f, either_false (ltb k (length rows)))

module _ (k : ℕ) (h : ℤ) (m n v : ℕ) (r : k < 36) (i : InRange h m n v) where
  answered : derived k h m n v ≡ of_gust (gust_of (row_at k) h (pos m) (pos n) (pos v))
  unfolding derived
  answered = rw (lt-ltb k (length rows) (exists k r), within-range h m n v i)

  pub some : Formula (row_at k) h (pos m) (pos n) (pos v) (gust_of (row_at k) h (pos m) (pos n) (pos v))
  some = some-gust k h m n v (exists k r) (within-range h m n v i)

  only : (g : ℤ) → Formula (row_at k) h (pos m) (pos n) (pos v) g → g ≡ gust_of (row_at k) h (pos m) (pos n) (pos v)
  only = one-gust k h m n v (exists k r) (within-range h m n v i)

  pub one : (f g : ℤ) → Formula (row_at k) h (pos m) (pos n) (pos v) f → Formula (row_at k) h (pos m) (pos n) (pos v) g → f ≡ g
  one f g p q = only f p ∙ sym (only g q)

  -- the answer, by the gust
  pub by_gust : (g : ℤ) → Formula (row_at k) h (pos m) (pos n) (pos v) g → derived k h m n v ≡ of_gust g
  by_gust g w = answered ∙ ap of_gust (sym (only g w))

pub in_limits : (g : ℕ) → g ≤ 799 → of_gust (pos g) ≡ Ok (pos g)
unfolding of_gust
in_limits g l = rw (le-leb 0 g zero-le, le-leb g 799 l)

pub below_them : (g : ℕ) → of_gust (negsuc g) ≡ Err OutOfRange
unfolding of_gust
below_them g = refl

pub above_them : (g : ℕ) → 799 < g → of_gust (pos g) ≡ Err OutOfRange
unfolding of_gust
above_them g l = rw (le-leb 0 g zero-le, lt-leb g 799 l)

pub at_rest : (k : ℕ) (h : ℤ) (m v : ℕ) → k < 36 → InRange h m 0 v → derived k h m 0 v ≡ Ok (pos 0)
at_rest k h m v r i = still k h m v (exists k r) (within-range h m 0 v i)
