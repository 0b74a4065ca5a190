-- `gust::answer::derived_gust` meets its contract.
use borrow.Author.Rules.{rules, sfits_of}
use Rattle.gust.proofs.Answers.{high, massive, shaken, fast, moving}
use Rattle.gust.proofs.Limits.{row_within}
use Rattle.gust.specs.Rows.{rows}
use Rattle.gust.specs.Gust.{in_range, derived}
use mathlib.Core.Path.{◌≡◌, ◌∙◌, sym}
use mathlib.Core.Bool.{true}
use lib.Dec.{ltb}
use lib.IntN.{pos}
use lib.ListN.{length}
use mir.Syntax.{w32, w64}
use mir.Val.{to_z, of_z, SFits}
use mir.Facts.{to_z-of_z, to_z_pos, sfits_widen}
use borrow.Author.Tests.{le-ltb, lt-ltb, not-true, not-false, ltb-true}
use Rattle.gust.proofs.answer.derived_gust.Goals as goal
use Rattle.gust.proofs.answer.derived_gust.Goals.{After-in_range, Else-not-in_range, Else-row-ge36, then-row-ge36-via-then-row-ge36, then-row-ge36-via-else-row-ge36+then-not-in_range}

tested : (c : After-in_range)
    → c.in_range.result
    ≡ in_range c.args.h c.args.m c.args.n c.args.v
tested c = rw (c.in_range.ensures, to_z-of_z c.ranges.h)

existing : (c : Else-row-ge36) → ltb c.args.row (length rows) ≡ true
unfolding rows
existing c = lt-ltb c.args.row 36 c.if-row-ge36.false

-- no such row, or an input outside its range
pub returns-then-row-ge36 : goal.returns-then-row-ge36
unfolding derived rows
returns-then-row-ge36 c =
    elim c.then-row-ge36.branch [
      | then-row-ge36-via-then-row-ge36 w ↦ rw (le-ltb c.args.row 36 w.if-row-ge36.true)
      | then-row-ge36-via-else-row-ge36+then-not-in_range w ↦
          let t : w.in_range.result ≡ in_range c.args.h c.args.m c.args.n c.args.v = rw (w.in_range.ensures, to_z-of_z c.ranges.h) in
          rw (lt-ltb c.args.row 36 w.if-row-ge36.false, sym t, not-true w.in_range.result w.if-not-in_range.true-raw)
    ]

passed : (c : Else-not-in_range)
    → in_range c.args.h c.args.m c.args.n c.args.v
    ≡ true
passed c =
    let tested : c.in_range.result
    ≡ in_range c.args.h c.args.m c.args.n c.args.v = rw (c.in_range.ensures, to_z-of_z c.ranges.h) in
    sym (tested) ∙ not-false c.in_range.result c.if-not-in_range.false-raw

-- the inputs at 64 bits are themselves
height-fits : (c : Else-not-in_range) → SFits w64 c.args.h
height-fits c = sfits_widen {w = w32} tt c.ranges.h

height-kept : (c : Else-not-in_range) → to_z w64 (of_z w64 (to_z w32 (of_z w32 c.args.h))) ≡ c.args.h
height-kept c = rw (to_z-of_z c.ranges.h, to_z-of_z (height-fits c))

mass-kept : (c : Else-not-in_range) → to_z w64 c.args.m ≡ pos c.args.m
mass-kept c = to_z_pos w64 {n = c.args.m} (search rules)

accelerated-kept : (c : Else-not-in_range) → to_z w64 c.args.n ≡ pos c.args.n
accelerated-kept c = to_z_pos w64 {n = c.args.n} (search rules)

speed-kept : (c : Else-not-in_range) → to_z w64 c.args.v ≡ pos c.args.v
speed-kept c = to_z_pos w64 {n = c.args.v} (search rules)

pub overflow_cast-h : goal.overflow_cast-h
overflow_cast-h c = rw (to_z-of_z c.ranges.h) (height-fits (goal.at.overflow_cast-h c).Else-not-in_range)

pub gust_of-requires : goal.gust_of-requires
gust_of-requires c =
    let a = c.args in
    let p = passed (goal.at.gust_of-requires c).Else-not-in_range in
    rw (c.row_at.ensures, height-kept (goal.at.gust_of-requires c).Else-not-in_range, mass-kept (goal.at.gust_of-requires c).Else-not-in_range, accelerated-kept (goal.at.gust_of-requires c).Else-not-in_range, speed-kept (goal.at.gust_of-requires c).Else-not-in_range) (record { c_value = row_within a.row (ltb-true a.row (length rows) (existing (goal.at.gust_of-requires c).Else-row-ge36)); h_value = high a.h a.m a.n a.v p; m_value = massive a.h a.m a.n a.v p; n_value = shaken a.h a.m a.n a.v p; v_value = fast a.h a.m a.n a.v p; v_value_2 = moving a.h a.m a.n a.v p })

pub returns : goal.returns
unfolding derived
returns c =
    rw (
      c.of_gust.ensures,
      to_z-of_z {w = w64} {z = c.gust_of.result} (sfits_of c.gust_of.type_inv),
      c.gust_of.ensures,
      c.row_at.ensures,
      height-kept (goal.at.returns c).Else-not-in_range,
      mass-kept (goal.at.returns c).Else-not-in_range,
      accelerated-kept (goal.at.returns c).Else-not-in_range,
      speed-kept (goal.at.returns c).Else-not-in_range,
      existing (goal.at.returns c).Else-row-ge36,
      passed (goal.at.returns c).Else-not-in_range,
    )
