-- Steps of the loops: the bits of the numbers from one on, by the bits of those behind it.
use mathlib.Core.Path.{◌≡◌, ◌∙◌}
use mathlib.Core.Bool.{Bool, cond}
use mathlib.Core.List.{◌∷◌}
use Prim.Native.Nat.{ℕ, ◌+◌, ◌-◌, ◌*◌, ◌≤◌, ◌<◌}
use native.Mathlib.Omega.{arith}
use native.Mathlib.Numerals.{add-one}
use lib.ListN.{length, drop, get_or}
use lib.Seq.{drop-cons}
use Rattle.text.proofs.Table.{at}
use Rattle.section.specs.Layout.{numbers}
use Rattle.command.proofs.Checking.{numbers-next}
use Rattle.commute.specs.Commute.{flag_numbers, bits_of}

-- flag i is the one with number i
pub flag_at : (i : ℕ) → i < length flag_numbers → get_or flag_numbers i 0 ≡ i
flag_at i h = at (λ (j : ℕ). j) (length flag_numbers) i h

pub flags-next : (i : ℕ) → i < length flag_numbers → drop i flag_numbers ≡ i ∷ drop (i + 1) flag_numbers
flags-next i h = drop-cons flag_numbers i 0 h ∙ rw (flag_at i h, add-one i)

-- section k has bit k - 2
pub section-at : (k : ℕ) → 2 ≤ k → k ≤ 9 → get_or numbers (k - 2) 0 ≡ k
section-at k lo hi = let e : 2 + (k - 2) ≡ k = omega arith in at (λ (j : ℕ). 2 + j) 8 (k - 2) (omega arith) ∙ e

module _ (test : ℕ → Bool) where
  pub flag_turn : (i : ℕ) → i < length flag_numbers → bits_of test (drop i flag_numbers) ≡ 2 * bits_of test (drop (i + 1) flag_numbers) + cond (test i) 1 0
  unfolding bits_of
  flag_turn i h = rw (flags-next i h)

  pub section_turn : (k : ℕ) → 2 ≤ k → k < 10
      → bits_of test (drop (k - 2) numbers) ≡ 2 * bits_of test (drop (k + 1 - 2) numbers) + cond (test k) 1 0
  unfolding bits_of
  section_turn k lo hi = rw (numbers-next k lo hi)
