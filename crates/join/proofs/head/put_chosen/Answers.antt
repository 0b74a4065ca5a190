use native.Mathlib.Omega.{arith}
use mathlib.Core.Path.{sym, ◌∙◌}
use Prim.Native.Nat.{◌<◌}
use mathlib.Core.List.{append-nil, append_assoc}
use lib.ListN.{length, length-set}
use native.Mathlib.Numerals.{add-one}
use lib.Seq.{take-suc-set, take_all}
use Rattle.join.proofs.Side.{choose_turn, choose_done}
use Rattle.join.proofs.head.put_chosen.Goals as goal

pub loop-i-preserved : goal.loop-i-preserved
loop-i-preserved c = let l = c.loop-i in
    let f = c.args.first.now in
    let g = c.args.second.now in
    let lt : l.i < length f = c.loop-i-test.true in
    let lg : l.i < length g = omega (arith, c.requires) in
    let ld : l.i < length l.d = omega (arith, c.requires, l.invariant) in (
      length-set l.d l.i c.chosen.result ∙ l.invariant.0,
      l.invariant.1 ∙ rw (choose_turn c.args.none f g l.i lt lg, add-one, take-suc-set l.d l.i c.chosen.result ld, append_assoc, c.chosen.ensures),
    )

pub returns : goal.returns
returns c = let l = c.loop-i in
    let d = take_all l.i l.d (omega (arith, c.requires, l.invariant)) in
    sym (l.invariant.1 ∙ rw (choose_done c.args.none c.args.first.now c.args.second.now l.i c.loop-i-test.false, d, append-nil l.d))
