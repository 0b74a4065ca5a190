-- `observation::read::field` meets its contract: the part is as wide as the row says.
use native.Mathlib.Omega.{arith}
use mathlib.Core.Path.{◌≡◌, ap, ◌∙◌}
use Prim.Native.Nat.{ℕ, ◌+◌, ◌-◌}
use lib.ListN.{take, drop}
use Rattle.observation.specs.Figures.{read_figure}
use Rattle.observation.proofs.read.field.Goals as goal

pub returns : goal.returns
returns c =
    let a = c.args in
    let w : a.from + a.row.width - a.from ≡ a.row.width = omega arith in
    c.figure.ensures ∙ ap (λ (n : ℕ). read_figure a.row (a.at + a.from) (take n (drop a.from a.s.now))) w
