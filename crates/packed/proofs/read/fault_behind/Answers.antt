use native.Mathlib.Omega.{arith}
use mathlib.Core.Path.{◌≡◌, ap, ◌∙◌}
use Prim.Native.Nat.{ℕ, ◌+◌}
use lib.ListN.{drop, length-drop}
use Rattle.packed.specs.Packed.{is_digit, ahead}
use Rattle.packed.proofs.Fault.{behind_end, behind-at}
use Rattle.packed.proofs.Scan.{ahead-le, tail}
use Rattle.packed.proofs.read.fault_behind.Goals as goal
use Rattle.packed.proofs.read.fault_behind.Goals.{After-digits_ahead}

-- the digits behind the spaces
seen : (c : After-digits_ahead)
    → c.digits_ahead.result ≡ ahead is_digit (drop c.behind_spaces-from.result c.args.f.now)
seen c =
    c.digits_ahead.ensures ∙ ap (ahead is_digit) (tail c.args.f.now c.behind_spaces-from.result)

pub returns-then-from-w : goal.returns-then-from-w
returns-then-from-w c =
    behind_end c.args.f.now c.behind_spaces-from.result c.behind_spaces-from.ensures.1 c.if-from-w.true

pub overflow_add-result : goal.overflow_add-result
overflow_add-result c =
    let f = c.args.f.now in
    let d = drop c.behind_spaces-from.result f in
    record { fits = omega (arith, seen (goal.at.overflow_add-result c).After-digits_ahead, c.requires, c.behind_spaces-from.ensures.0, ahead-le is_digit d, length-drop c.behind_spaces-from.result f) }

pub returns-else-from-w : goal.returns-else-from-w
returns-else-from-w c =
    let f = c.args.f.now in
    ap (λ (n : ℕ). c.behind_spaces-from.result + n) (seen (goal.at.returns-else-from-w c).After-digits_ahead)
    ∙ behind-at f c.behind_spaces-from.result c.behind_spaces-from.ensures.0 c.behind_spaces-from.ensures.1 c.if-from-w.false
