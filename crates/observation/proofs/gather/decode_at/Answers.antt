-- The part is as wide as the row says.
use native.Mathlib.Omega.{arith}
use mathlib.Core.Path.{◌≡◌, ap, ◌∙◌}
use Prim.Native.Nat.{ℕ, ◌+◌, ◌-◌}
use lib.ListN.{take, drop}
use Rattle.packed.specs.Decoding.{decoded}
use Rattle.observation.proofs.gather.decode_at.Goals as goal

pub returns : goal.returns
returns c =
    let a = c.args in
    let w : a.from + a.row.width - a.from ≡ a.row.width = omega arith in
    c.decode.ensures ∙ ap (λ (n : ℕ). decoded (take n (drop a.from a.s.now))) w
