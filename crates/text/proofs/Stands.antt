-- A text that stands at a place of another: what a writer puts there, and what a reader finds there.
use mathlib.Core.Path.{◌≡◌, refl, sym, ap, ◌∙◌}
use mathlib.Core.List.{List, [], ◌∷◌, ◌++◌}
use Prim.Native.Nat.{ℕ, ◌+◌, ◌≤◌}
use native.Mathlib.Omega.{arith}
use native.Mathlib.Nat.{add-zero}
use lib.Dec.{lit<}
use lib.ListN.{length, get_or, take, drop, length-append, length-drop}
use lib.Seq.{get_or-take, get_or-drop, length-take-le, take-add, drop-drop, take_at, drop_at, take_all}
use Rattle.text.specs.Parts.{part}
use Rattle.text.proofs.Parts.{part_middle}

pub record Stands (t s : List ℕ) (at : ℕ) : Type 0 where
  pub room : at + length t ≤ length s
  pub same : part at (length t) s ≡ t

-- the middle of three texts
pub stands_middle : (x y z : List ℕ) → Stands y (x ++ y ++ z) (length x)
stands_middle x y z =
    record {
      room = omega (arith, length-append (x ++ y) z, length-append x y);
      same = part_middle x y z (length x) (length y) refl refl;
    }

-- a whole text, at its own start
pub stands-whole : (s : List ℕ) → Stands s s 0
stands-whole s = record { room = omega arith; same = take_all (length s) s (omega arith) }

-- the part that it is
pub stands-part : (t s : List ℕ) (at n : ℕ) → length t ≡ n → Stands t s at → part at n s ≡ t
stands-part t s at n e h = ap (λ (k : ℕ). part at k s) (sym e) ∙ h.same

-- a lone byte
pub stands-byte : (b : ℕ) (s : List ℕ) (at : ℕ) → Stands (b ∷ []) s at → get_or s at 0 ≡ b
stands-byte b s at h =
    ap (λ (k : ℕ). get_or s k 0) (sym (add-zero at))
    ∙ sym (get_or-take 1 (drop at s) 0 0 (lit< tt) ∙ get_or-drop at s 0 0)
    ∙ ap (λ (l : List ℕ). get_or l 0 0) h.same

-- a part of m and n bytes is two parts
pub part-add : (s : List ℕ) (at m n : ℕ) → part at (m + n) s ≡ part at m s ++ part (at + m) n s
part-add s at m n = rw (take-add m n (drop at s), drop-drop m at s)

-- two texts, one after the other
module _ (t u s : List ℕ) (at : ℕ) (h : Stands (t ++ u) s at) where
  long : at + (length t + length u) ≤ length s
  long = omega (arith, h.room, length-append t u)

  halves : part at (length t) s ++ part (at + length t) (length u) s ≡ t ++ u
  halves = sym (part-add s at (length t) (length u)) ∙ ap (λ (k : ℕ). part at k s) (sym (length-append t u)) ∙ h.same

  front : length (part at (length t) s) ≡ length t
  front = length-take-le (length t) (drop at s) (omega (arith, long, length-drop at s))

  -- the first
  pub stands-left : Stands t s at
  stands-left =
      record {
        room = omega (arith, long);
        same =
            sym (take_at (part at (length t) s) (part (at + length t) (length u) s) (length t) front)
            ∙ ap (take (length t)) halves
            ∙ take_at t u (length t) refl;
      }

  -- and the second, behind it
  pub stands_right : Stands u s (at + length t)
  stands_right =
      record {
        room = omega (arith, long);
        same =
            sym (drop_at (part at (length t) s) (part (at + length t) (length u) s) (length t) front)
            ∙ ap (drop (length t)) halves
            ∙ drop_at t u (length t) refl;
      }
