-- A number written behind a text, into a part that it fills.
use mathlib.Core.Path.{◌≡◌, ◌∙◌}
use mathlib.Core.List.{List, ◌++◌}
use Prim.Native.Nat.{ℕ, ◌+◌, ◌-◌, ◌≤◌}
use native.Mathlib.Omega.{arith}
use lib.ListN.{length, take, drop}
use borrow.Rule.Slice.PartMut.{put_mid}
use Rattle.text.specs.Over.{over}
use Rattle.text.proofs.Over.{length_then, then_whole}
use Rattle.text.proofs.Parts.{part_length}
use Rattle.field.specs.Decimal.{decimal}
use Rattle.field.proofs.Decimal.{decimal-length}

-- n in w digits from p, where t ends, up to e
pub number-written : (d D zs t : List ℕ) (n w p e : ℕ) → D ≡ over d 0 t → p ≡ length t → p + w ≡ e → e ≤ length d
    → zs ≡ decimal (length (take (e - p) (drop p D))) n → put_mid p (e - p) D zs ≡ over d 0 (t ++ decimal w n)
number-written d D zs t n w p e is starts ends room wrote =
    let l : length D ≡ length d = length_then d D t 0 is (omega arith) in
    let part : length (take (e - p) (drop p D)) ≡ e - p = part_length D p e (omega arith) in
    let k : length (take (e - p) (drop p D)) ≡ w = omega arith in
    then_whole d D zs t (decimal w n) 0 p e is (omega arith) (omega (arith, decimal-length w n)) room (wrote ∙ rw k)
