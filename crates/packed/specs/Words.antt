-- Document 01's words for a packed figure, said by themselves: neither the table nor what reads by it is used here.
use Rattle.std.specs.Prelude.{◌≡◌, true, cond, ℕ, zero, suc, ◌+◌, ◌*◌, ◌^◌, ◌≤◌, eqb, ℤ, length}
use mathlib.Core.List.{List, [], ◌∷◌, foldl}
use Rattle.std.proofs.Math.IntN.{sub_ℕ}
use Rattle.text.specs.Bytes.{bytes, all_one_of}

-- "`0`-`9` are 0 to 9, `A`-`Z` are 10 to 35, the four further characters .. are 36 to 39"
abbrev pub digit_bytes : List ℕ
digit_bytes = bytes "0123456789ABCDEFGHIJKLMNOPQRSTUVWXYZ:,-."

-- where a byte stands among others, from 0 on; behind them all where it is none of them
unfoldable pub index_in : List ℕ → ℕ → ℕ
index_in [] b = 0
index_in (x ∷ xs) b = cond (eqb b x) 0 (suc (index_in xs b))

-- the base-40 number of digits, most significant first
abbrev pub base40 : List ℕ → ℕ
base40 ds = foldl (λ (n b : ℕ). n * 40 + index_in digit_bytes b) 0 ds

-- k digits span -span k up to span k - 1
abbrev pub span : ℕ → ℕ
span zero = 0
span (suc k) = 20 * 40 ^ k

-- "In k digits, most significant first, the figure is the base-40 number less 20·40^(k-1)."
abbrev pub figure_spelt : List ℕ → ℤ
figure_spelt ds = sub_ℕ (base40 ds) (span (length ds))

-- "A field has leading spaces, then at least one digit": n spaces and the digits ds, five bytes at the most
pub record Digits (n : ℕ) (ds : List ℕ) : Type 0 where
  pub some : 1 ≤ length ds
  pub few : n + length ds ≤ 5
  pub digit : all_one_of digit_bytes ds ≡ true
