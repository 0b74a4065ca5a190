use mathlib.Core.Path.{◌≡◌, refl, ap, ◌∙◌}
use mathlib.Core.List.{List}
use Prim.Native.Nat.{ℕ, ◌<◌}
use native.Mathlib.Omega.{arith}
use lib.ListN.{length, get_or, set, take, length-set}
use lib.Seq.{take_all}
use borrow.Author.Tests.{le-leb, lt-leb}
use Rattle.text.specs.Over.{over}
use Rattle.text.proofs.Over.{over_none, over_turn}
use Rattle.text.proofs.copy.Goals as goal

pub loop-i-init : goal.loop-i-init
loop-i-init c = (omega arith, refl, over_none _ 0)

pub loop-i-preserved : goal.loop-i-preserved
loop-i-preserved c =
    let a = c.args in
    let l = c.loop-i in
    let byte : ℕ = get_or a.s.now l.i 0 in
    let room : l.i < length a.d.now = omega arith in
    (omega arith, length-set l.d l.i byte ∙ l.invariant.1, ap (λ (d : List ℕ). set d l.i byte) l.invariant.2 ∙ over_turn a.d.now a.s.now l.i c.loop-i-test.true room)

pub returns-after-loop-i : goal.returns-after-loop-i
returns-after-loop-i c =
    let a = c.args in
    let l = c.loop-i in
    let all : take l.i a.s.now ≡ a.s.now = take_all l.i a.s.now c.loop-i-test.false in
    rw (le-leb (length a.s.now) (length a.d.now) (omega arith)) (l.invariant.2 ∙ ap (over a.d.now 0) all)

pub returns-else-s-d : goal.returns-else-s-d
returns-else-s-d c =
    let a = c.args in
    rw (lt-leb (length a.s.now) (length a.d.now) (omega arith))
