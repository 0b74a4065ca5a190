-- Parts of a text: `take n (drop at s)` is the n bytes from a place on.
use mathlib.Core.Path.{◌≡◌, refl, sym, ap, ◌∙◌}
use mathlib.Core.List.{List, ◌∷◌, ◌++◌, append_assoc}
use Prim.Native.Nat.{ℕ, zero, suc, ◌+◌, ◌-◌, ◌≤◌}
use native.Mathlib.Omega.{arith}
use native.Mathlib.Nat.{add-zero}
use lib.ListN.{length, get_or, take, drop, length-drop, take-append-drop}
use lib.Seq.{drop-cons, drop-drop, length-take-le, take_all, take_at, drop_at}
use Rattle.text.specs.Parts.{part}
use Rattle.text.specs.Table.{values}

-- the part from p up to e has e - p bytes
pub part_length : (d : List ℕ) (p e : ℕ) → e ≤ length d → length (take (e - p) (drop p d)) ≡ e - p
part_length d p e h = length-take-le (e - p) (drop p d) (omega (arith, length-drop p d))

-- a part and what follows it
pub part-rest : (n at : ℕ) (s : List ℕ) → take n (drop at s) ++ drop (at + n) s ≡ drop at s
part-rest n at s = rw (← drop-drop n at s) (take-append-drop n (drop at s))

bytes-from : (at k n : ℕ) (s : List ℕ) → at + k + n ≤ length s → take n (drop (at + k) s) ≡ values (λ i. get_or s (at + i) 0) k n
bytes-from at k zero s h = refl
bytes-from at k (suc n) s h =
    let next : suc (at + k) ≡ at + suc k = omega arith in
    rw (drop-cons s (at + k) 0 (omega arith), next)
    (ap (λ (l : List ℕ). get_or s (at + k) 0 ∷ l) (bytes-from at (suc k) n s (omega arith)))

-- a part byte by byte: those at the place and 0, 1, .. further on
pub part_bytes : (n at : ℕ) (s : List ℕ) → at + n ≤ length s → part at n s ≡ values (λ i. get_or s (at + i) 0) 0 n
part_bytes n at s h = ap (λ (k : ℕ). take n (drop k s)) (sym (add-zero at)) ∙ bytes-from at 0 n s (omega arith)

-- all of a text, as a part that runs to its end
pub part-whole : (s : List ℕ) → take (length s - 0) (drop 0 s) ≡ s
part-whole s = take_all (length s - 0) s (omega arith)

-- what stands in the middle of three texts, as a part of them
pub part_middle : (x y z : List ℕ) (at n : ℕ) → length x ≡ at → length y ≡ n → part at n (x ++ y ++ z) ≡ y
part_middle x y z at n starts long = rw (append_assoc x y z, drop_at x (y ++ z) at starts) (take_at y z n long)
