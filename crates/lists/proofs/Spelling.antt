-- The texts of the counted lists: how long they are, and their count as it is written.
use mathlib.Core.Path.{◌≡◌, sym, ap, ◌∙◌}
use mathlib.Core.List.{List, ◌++◌}
use Prim.Native.Nat.{ℕ, ◌+◌, ◌*◌, ◌≤◌}
use native.Mathlib.Omega.{arith}
use lib.ListN.{length, take, drop, length-append}
use lib.Seq.{length-take-le}
use Rattle.text.specs.Over.{over}
use Rattle.text.proofs.Over.{front-over}
use Rattle.field.specs.Decimal.{decimal}
use Rattle.field.proofs.Decimal.{decimal-length}
use Rattle.lists.specs.declared.Airfields.{Airfields}
use Rattle.lists.specs.declared.Boxes.{Boxes}
use Rattle.lists.specs.Lists.{airfields_text, regions_text, boxes_text}
use Rattle.lists.proofs.Turns.{regions-text-length}

-- a list of airfields: two bytes, and four for each
pub airfields-length : (l : Airfields) → 4 * l.count ≤ length l.names → length (airfields_text l) ≡ 2 + 4 * l.count
unfolding airfields_text
airfields-length l h =
    length-append (decimal 2 l.count) (take (4 * l.count) l.names)
    ∙ omega (arith, decimal-length 2 l.count, length-take-le (4 * l.count) l.names h)

-- a list of boxes: two bytes, and 14 for each
pub boxes-length : (l : Boxes) → l.count ≤ length l.regions → length (boxes_text l) ≡ 2 + 14 * l.count
unfolding boxes_text
boxes-length l h =
    length-append (decimal 2 l.count) (regions_text (take l.count l.regions))
    ∙ omega (arith, decimal-length 2 l.count, regions-text-length (take l.count l.regions), length-take-le l.count l.regions h)

-- two digits, written into the first two bytes
pub count-written : (d zs : List ℕ) (n : ℕ) → 2 ≤ length d → zs ≡ decimal (length (take 2 d)) n → zs ++ drop 2 d ≡ over d 0 (decimal 2 n)
count-written d zs n h e =
    ap (λ (k : ℕ). zs ++ drop k d) (sym (decimal-length 2 n)) ∙ front-over d zs (decimal 2 n) (e ∙ rw (length-take-le 2 d h))
