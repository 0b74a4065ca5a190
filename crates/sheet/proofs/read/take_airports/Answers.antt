use native.Mathlib.Omega.{arith}
use Prim.Native.Nat.{ℕ}
use mathlib.Core.Path.{ap, ◌∙◌}
use native.Mathlib.Nat.{zero-add}
use Rattle.sheet.proofs.Filled.{filled_none, filled_turn, filled_end}
use Rattle.sheet.specs.Sheet.{airport_byte}
use Rattle.text.specs.Table.{values}
use Rattle.sheet.proofs.read.take_airports.Goals as goal

pub loop-i-init : goal.loop-i-init
loop-i-init c = (c.requires.airports_len, filled_none _ _ _)

pub loop-i-preserved : goal.loop-i-preserved
loop-i-preserved c =
    let l = c.loop-i in
    (l.invariant.0, filled_turn _ _ _ l.airports l.i _ l.invariant.1 (omega (arith, l.invariant.1.long)) (c.airport_byte.ensures ∙ rw (zero-add l.i)))

pub returns : goal.returns
returns c =
    let l = c.loop-i in
    let s = c.args.s.now in
    filled_end _ _ _ l.airports l.i l.invariant.1 (omega (arith, l.invariant.1.long)) ∙ ap (λ (n : ℕ). values (airport_byte s) 0 n) l.invariant.0
