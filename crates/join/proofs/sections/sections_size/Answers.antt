use native.Mathlib.Omega.{arith}
use mathlib.Core.Path.{◌≡◌, ap}
use Prim.Native.Nat.{◌+◌, ◌-◌}
use lib.ListN.{length, drop}
use Rattle.section.specs.Layout.{numbers}
use Rattle.join.specs.Join.{join_sections}
use Rattle.join.proofs.Side.{sections-length, sections_end, sides_short}
use Rattle.join.proofs.sections.sections_size.Goals as goal
use Rattle.join.proofs.sections.sections_size.Goals.{After-section}

-- one section more
step : (c : After-section)
    → let l = c.loop-k in
    let a = c.args.a.now.text.now in
    let b = c.args.b.now.text.now in
    length (join_sections (drop (l.k - 2) numbers) a b) ≡ length c.section.result.now + length (join_sections (drop (l.k + 1 - 2) numbers) a b)
step c =
    let a = c.args.a.now.text.now in
    let b = c.args.b.now.text.now in
    omega (arith, ap length c.section.ensures, sections-length a b c.loop-k.k (omega arith) c.loop-k-test.true)

pub overflow_add-total : goal.overflow_add-total
overflow_add-total c =
    omega
    (arith, step (goal.at.overflow_add-total c).After-section, sides_short c.args.a.now.text.now c.args.b.now.text.now c.requires.0.fine c.requires.1.fine)

pub loop-k-preserved : goal.loop-k-preserved
loop-k-preserved c = omega (arith, step (goal.at.loop-k-preserved c).After-section)

pub returns : goal.returns
returns c = omega (arith, ap length (sections_end c.args.a.now.text.now c.args.b.now.text.now c.loop-k.k c.loop-k-test.false))
