-- `gust::formula::gust_of` meets its contract.
use borrow.Author.Rules.{sfits_of}
use Rattle.gust.proofs.Limits.{height-fits, mass-fits, ten-fits, massed_fits, product_fits, accelerated_fits, speed-fits, knots_fits, knots_above}
use Rattle.gust.specs.Gust.{this_a, gust_of}
use mathlib.Core.Path.{◌≡◌}
use lib.IntN.{pos, ◌*ℤ◌}
use mir.Syntax.{w64}
use mir.Val.{to_z, of_z}
use mir.Facts.{to_z-of_z}
use Rattle.gust.proofs.formula.gust_of.Goals as goal
use Rattle.gust.proofs.formula.gust_of.Goals.{After-this_a}

ten : (c : After-this_a) → pos 10 *ℤ to_z w64 (of_z w64 c.this_a.result) ≡ pos 10 *ℤ this_a c.args.c c.args.h c.args.m
ten c =
    rw (
      to_z-of_z {w = w64} {z = c.this_a.result} (sfits_of c.this_a.type_inv),
      c.this_a.ensures,
      to_z-of_z (height-fits c.args.h c.requires.h_value),
      to_z-of_z (mass-fits c.args.c c.requires.c_value c.args.h c.requires.h_value c.args.m c.requires.m_value),
    )

massed : (c : After-this_a) → to_z w64 (of_z w64 (pos 10 *ℤ to_z w64 (of_z w64 c.this_a.result))) *ℤ to_z w64 (of_z w64 c.args.m)
    ≡ pos 10 *ℤ this_a c.args.c c.args.h c.args.m *ℤ c.args.m
massed c = rw ((ten c), to_z-of_z (ten-fits c.args.c c.requires.c_value c.args.h c.requires.h_value c.args.m c.requires.m_value), to_z-of_z (mass-fits c.args.c c.requires.c_value c.args.h c.requires.h_value c.args.m c.requires.m_value))

product : (c : After-this_a) → to_z w64 (of_z w64 (to_z w64 (of_z w64 (pos 10 *ℤ to_z w64 (of_z w64 c.this_a.result))) *ℤ to_z w64 (of_z w64 c.args.m))) *ℤ to_z w64 (of_z w64 c.args.n)
    ≡ pos 10 *ℤ this_a c.args.c c.args.h c.args.m *ℤ c.args.m *ℤ c.args.n
product c =
    rw ((massed c), to_z-of_z (massed_fits c.args.c c.requires.c_value c.args.h c.requires.h_value c.args.m c.requires.m_value), to_z-of_z (accelerated_fits c.args.n c.requires.n_value))

knots : (c : After-this_a) → pos 1000000000 *ℤ to_z w64 (of_z w64 c.args.v) ≡ pos 1000000000 *ℤ c.args.v
knots c = rw (to_z-of_z (speed-fits c.args.v c.requires.v_value))

pub overflow_mul-this_a : goal.overflow_mul-this_a
overflow_mul-this_a c = rw (ten (goal.at.overflow_mul-this_a c).After-this_a) (ten-fits c.args.c c.requires.c_value c.args.h c.requires.h_value c.args.m c.requires.m_value)

pub overflow_mul-this_a-2 : goal.overflow_mul-this_a-2
overflow_mul-this_a-2 c = rw (massed (goal.at.overflow_mul-this_a-2 c).After-this_a) (massed_fits c.args.c c.requires.c_value c.args.h c.requires.h_value c.args.m c.requires.m_value)

pub overflow_mul-this_a-3 : goal.overflow_mul-this_a-3
overflow_mul-this_a-3 c = rw (product (goal.at.overflow_mul-this_a-3 c).After-this_a) (product_fits c.args.c c.requires.c_value c.args.h c.requires.h_value c.args.m c.requires.m_value c.args.n c.requires.n_value)

pub overflow_mul-v : goal.overflow_mul-v
overflow_mul-v c = rw (knots (goal.at.overflow_mul-v c).After-this_a) (knots_fits c.args.v c.requires.v_value)

pub floor-requires : goal.floor-requires
floor-requires c =
    rw (knots (goal.at.floor-requires c).After-this_a, to_z-of_z (knots_fits c.args.v c.requires.v_value))
    (knots_above c.args.v c.requires.v_value c.requires.v_value_2)

pub returns : goal.returns
unfolding gust_of
returns c =
    rw (
      to_z-of_z {w = w64} {z = c.floor.result} (sfits_of c.floor.type_inv),
      c.floor.ensures,
      product (goal.at.returns c).After-this_a,
      to_z-of_z (product_fits c.args.c c.requires.c_value c.args.h c.requires.h_value c.args.m c.requires.m_value c.args.n c.requires.n_value),
      knots (goal.at.returns c).After-this_a,
      to_z-of_z (knots_fits c.args.v c.requires.v_value),
    )
