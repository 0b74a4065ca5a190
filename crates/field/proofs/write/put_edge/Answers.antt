-- `field::write::put_edge` meets its contract: the digits, then the letter.
use native.Mathlib.Omega.{arith}
use Prim.Native.Nat.{ℕ}
use mathlib.Core.Path.{◌≡◌, sym, ap, ◌∙◌}
use mathlib.Core.List.{◌++◌}
use lib.ListN.{length, take, drop}
use lib.Seq.{length-take-le}
use Rattle.text.specs.Over.{over}
use Rattle.text.proofs.Over.{front-over, then_byte}
use Rattle.field.specs.Decimal.{decimal}
use Rattle.field.proofs.Decimal.{decimal-length}
use Rattle.field.proofs.Spelling.{bytes_are}
use Rattle.field.proofs.write.put_edge.Goals as goal
use Rattle.field.proofs.write.put_edge.Goals.{After-put_decimal}

-- the buffer after the digits
spelt : (c : After-put_decimal)
    → let a = c.args in
    c.put_decimal.new.d ++ drop a.w a.d.now ≡ over a.d.now 0 (decimal a.w a.e.degrees)
spelt c =
    let a = c.args in
    let w = c.args.w in
    let t = decimal w a.e.degrees in
    let long : length t ≡ w = decimal-length w a.e.degrees in
    let front : length (take w a.d.now) ≡ w = length-take-le w a.d.now (omega (arith, c.requires)) in
    ap (λ (n : ℕ). c.put_decimal.new.d ++ drop n a.d.now) (sym long)
    ∙ front-over a.d.now c.put_decimal.new.d t (c.put_decimal.ensures ∙ rw (front, c.wide.ensures))

pub returns : goal.returns
returns c =
    let a = c.args in
    let t = decimal a.w a.e.degrees in
    let long : length t ≡ a.w = decimal-length a.w a.e.degrees in
    then_byte a.d.now (c.put_decimal.new.d ++ drop a.w a.d.now) t a.e.letter 0 a.w (spelt (goal.at.returns c).After-put_decimal) (omega arith) (omega (arith, c.requires))
    ∙ ap (over a.d.now 0) (bytes_are a.w a.e)
