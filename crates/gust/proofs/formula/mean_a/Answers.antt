-- `gust::formula::mean_a` meets its contract.
use Rattle.gust.proofs.Limits.{height-fits, c1_fits, c2_fits, c3_fits, depth_fits, depth_above, mean_fits}
use Rattle.gust.specs.Gust.{mean_a}
use mathlib.Core.Path.{◌≡◌, ◌∙◌}
use lib.IntN.{◌+ℤ◌}
use mir.Syntax.{w64}
use mir.Val.{to_z, of_z}
use mir.Facts.{to_z-of_z}
use borrow.Author.Rules.{sfits_of}
use Rattle.gust.proofs.formula.mean_a.Goals as goal
use Rattle.gust.proofs.formula.mean_a.Goals.{After-floor, Start}

depth : (c : Start) → to_z w64 (of_z w64 c.args.c.c3) +ℤ to_z w64 (of_z w64 c.args.h) ≡ c.args.c.c3 +ℤ c.args.h
depth c = rw (to_z-of_z (c3_fits c.args.c c.requires.c_value), to_z-of_z (height-fits c.args.h c.requires.h_value))

pub overflow_add-c : goal.overflow_add-c
overflow_add-c c =
    rw (depth (goal.at.overflow_add-c c).Start) (depth_fits c.args.c c.requires.c_value c.args.h c.requires.h_value)

pub floor-requires : goal.floor-requires
floor-requires c =
    rw (depth (goal.at.floor-requires c).Start, to_z-of_z (depth_fits c.args.c c.requires.c_value c.args.h c.requires.h_value))
    (depth_above c.args.c c.requires.c_value c.args.h c.requires.h_value).0

mean : (c : After-floor)
    → to_z w64 (of_z w64 c.args.c.c1) +ℤ to_z w64 (of_z w64 c.floor.result)
    ≡ mean_a c.args.c c.args.h
unfolding mean_a
mean c =
    let depth : to_z w64 (of_z w64 c.args.c.c3) +ℤ to_z w64 (of_z w64 c.args.h) ≡ c.args.c.c3 +ℤ c.args.h = rw (to_z-of_z (c3_fits c.args.c c.requires.c_value), to_z-of_z (height-fits c.args.h c.requires.h_value)) in
    rw (
      to_z-of_z {w = w64} {z = c.floor.result} (sfits_of c.floor.type_inv),
      c.floor.ensures,
      to_z-of_z (c1_fits c.args.c c.requires.c_value),
      to_z-of_z (c2_fits c.args.c c.requires.c_value),
      depth,
      to_z-of_z (depth_fits c.args.c c.requires.c_value c.args.h c.requires.h_value),
    )

pub overflow_add-result : goal.overflow_add-result
overflow_add-result c =
    rw (mean (goal.at.overflow_add-result c).After-floor) (mean_fits c.args.c c.requires.c_value c.args.h c.requires.h_value)

pub returns : goal.returns
returns c = to_z-of_z (overflow_add-result c) ∙ mean (goal.at.returns c).After-floor
