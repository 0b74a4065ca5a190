-- `gust::formula::this_a` meets its contract.
use borrow.Author.Rules.{sfits_of}
use Rattle.gust.proofs.Limits.{height-fits, c4_fits, c5_fits, reference_fits, scale_fits, scale_above, off-fits, sloped_fits, mass-fits, heavier_fits, dividend_fits, this_fits}
use Rattle.gust.specs.Gust.{mean_a, this_a}
use mathlib.Core.Path.{◌≡◌, ◌∙◌}
use lib.IntN.{pos, ◌+ℤ◌, ◌-ℤ◌, ◌*ℤ◌}
use mir.Syntax.{w64}
use mir.Val.{to_z, of_z}
use mir.Facts.{to_z-of_z}
use Rattle.gust.proofs.formula.this_a.Goals as goal
use Rattle.gust.proofs.formula.this_a.Goals.{After-floor, After-mean_a-mean, Start}

mean : (c : After-mean_a-mean) → to_z w64 (of_z w64 c.mean_a-mean.result) ≡ mean_a c.args.c c.args.h
mean c =
    rw (to_z-of_z {w = w64} {z = c.mean_a-mean.result} (sfits_of c.mean_a-mean.type_inv), c.mean_a-mean.ensures, to_z-of_z (height-fits c.args.h c.requires.h_value))

off : (c : After-mean_a-mean)
    → to_z w64 (of_z w64 c.mean_a-mean.result) -ℤ to_z w64 (of_z w64 c.args.c.c5)
    ≡ mean_a c.args.c c.args.h -ℤ c.args.c.c5
off c = rw (mean c, to_z-of_z (c5_fits c.args.c c.requires.c_value))

heavier : (c : Start)
    → to_z w64 (of_z w64 c.args.m) -ℤ to_z w64 (of_z w64 c.args.c.reference) ≡ c.args.m -ℤ c.args.c.reference
heavier c =
    rw (
      to_z-of_z (mass-fits c.args.c c.requires.c_value c.args.h c.requires.h_value c.args.m c.requires.m_value),
      to_z-of_z (reference_fits c.args.c c.requires.c_value),
    )

scale : (c : Start) → pos 100 *ℤ to_z w64 (of_z w64 c.args.c.reference) ≡ pos 100 *ℤ c.args.c.reference
scale c = rw (to_z-of_z (reference_fits c.args.c c.requires.c_value))

pub overflow_sub-mean : goal.overflow_sub-mean
overflow_sub-mean c =
    rw (off (goal.at.overflow_sub-mean c).After-mean_a-mean) (off-fits c.args.c c.requires.c_value c.args.h c.requires.h_value)

sloped : (c : After-mean_a-mean)
    → to_z w64 (of_z w64 c.args.c.c4) *ℤ to_z w64 (of_z w64 (to_z w64 (of_z w64 c.mean_a-mean.result) -ℤ to_z w64 (of_z w64 c.args.c.c5)))
    ≡ c.args.c.c4 *ℤ (mean_a c.args.c c.args.h -ℤ c.args.c.c5)
sloped c =
    rw (off c, to_z-of_z (off-fits c.args.c c.requires.c_value c.args.h c.requires.h_value), to_z-of_z (c4_fits c.args.c c.requires.c_value))

pub overflow_mul-c : goal.overflow_mul-c
overflow_mul-c c =
    rw (sloped (goal.at.overflow_mul-c c).After-mean_a-mean) (sloped_fits c.args.c c.requires.c_value c.args.h c.requires.h_value)

pub overflow_sub-m : goal.overflow_sub-m
overflow_sub-m c =
    rw (heavier (goal.at.overflow_sub-m c).Start) (heavier_fits c.args.c c.requires.c_value c.args.h c.requires.h_value c.args.m c.requires.m_value)

dividend : (c : After-mean_a-mean)
    → to_z w64 (of_z w64 (to_z w64 (of_z w64 c.args.c.c4) *ℤ to_z w64 (of_z w64 (to_z w64 (of_z w64 c.mean_a-mean.result) -ℤ to_z w64 (of_z w64 c.args.c.c5)))))
    *ℤ to_z w64 (of_z w64 (to_z w64 (of_z w64 c.args.m) -ℤ to_z w64 (of_z w64 c.args.c.reference)))
    ≡ c.args.c.c4 *ℤ (mean_a c.args.c c.args.h -ℤ c.args.c.c5) *ℤ (c.args.m -ℤ c.args.c.reference)
dividend c =
    let heavier : to_z w64 (of_z w64 c.args.m) -ℤ to_z w64 (of_z w64 c.args.c.reference) ≡ c.args.m -ℤ c.args.c.reference = rw (
      to_z-of_z (mass-fits c.args.c c.requires.c_value c.args.h c.requires.h_value c.args.m c.requires.m_value),
      to_z-of_z (reference_fits c.args.c c.requires.c_value),
    ) in
    rw (
      sloped c,
      to_z-of_z (sloped_fits c.args.c c.requires.c_value c.args.h c.requires.h_value),
      heavier,
      to_z-of_z (heavier_fits c.args.c c.requires.c_value c.args.h c.requires.h_value c.args.m c.requires.m_value),
    )

pub overflow_mul-c-2 : goal.overflow_mul-c-2
overflow_mul-c-2 c =
    rw (dividend (goal.at.overflow_mul-c-2 c).After-mean_a-mean)
    (dividend_fits c.args.c c.requires.c_value c.args.h c.requires.h_value c.args.m c.requires.m_value)

pub overflow_mul-c-3 : goal.overflow_mul-c-3
overflow_mul-c-3 c =
    rw (scale (goal.at.overflow_mul-c-3 c).Start) (scale_fits c.args.c c.requires.c_value)

pub floor-requires : goal.floor-requires
floor-requires c =
    rw (scale (goal.at.floor-requires c).Start, to_z-of_z (scale_fits c.args.c c.requires.c_value)) (scale_above c.args.c c.requires.c_value).0

this : (c : After-floor)
    → to_z w64 (of_z w64 c.mean_a-mean.result) +ℤ to_z w64 (of_z w64 c.floor.result)
    ≡ this_a c.args.c c.args.h c.args.m
unfolding this_a
this c =
    let mean : to_z w64 (of_z w64 c.mean_a-mean.result) ≡ mean_a c.args.c c.args.h = rw (to_z-of_z {w = w64} {z = c.mean_a-mean.result} (sfits_of c.mean_a-mean.type_inv), c.mean_a-mean.ensures, to_z-of_z (height-fits c.args.h c.requires.h_value)) in
    let off : to_z w64 (of_z w64 c.mean_a-mean.result) -ℤ to_z w64 (of_z w64 c.args.c.c5)
    ≡ mean_a c.args.c c.args.h -ℤ c.args.c.c5 = rw (mean, to_z-of_z (c5_fits c.args.c c.requires.c_value)) in
    let sloped : to_z w64 (of_z w64 c.args.c.c4) *ℤ to_z w64 (of_z w64 (to_z w64 (of_z w64 c.mean_a-mean.result) -ℤ to_z w64 (of_z w64 c.args.c.c5)))
    ≡ c.args.c.c4 *ℤ (mean_a c.args.c c.args.h -ℤ c.args.c.c5) =
    rw (off, to_z-of_z (off-fits c.args.c c.requires.c_value c.args.h c.requires.h_value), to_z-of_z (c4_fits c.args.c c.requires.c_value)) in
    let heavier : to_z w64 (of_z w64 c.args.m) -ℤ to_z w64 (of_z w64 c.args.c.reference) ≡ c.args.m -ℤ c.args.c.reference = rw (
      to_z-of_z (mass-fits c.args.c c.requires.c_value c.args.h c.requires.h_value c.args.m c.requires.m_value),
      to_z-of_z (reference_fits c.args.c c.requires.c_value),
    ) in
    let dividend : to_z w64 (of_z w64 (to_z w64 (of_z w64 c.args.c.c4) *ℤ to_z w64 (of_z w64 (to_z w64 (of_z w64 c.mean_a-mean.result) -ℤ to_z w64 (of_z w64 c.args.c.c5)))))
    *ℤ to_z w64 (of_z w64 (to_z w64 (of_z w64 c.args.m) -ℤ to_z w64 (of_z w64 c.args.c.reference)))
    ≡ c.args.c.c4 *ℤ (mean_a c.args.c c.args.h -ℤ c.args.c.c5) *ℤ (c.args.m -ℤ c.args.c.reference) =
    rw (
      sloped,
      to_z-of_z (sloped_fits c.args.c c.requires.c_value c.args.h c.requires.h_value),
      heavier,
      to_z-of_z (heavier_fits c.args.c c.requires.c_value c.args.h c.requires.h_value c.args.m c.requires.m_value),
    ) in
    let scale : pos 100 *ℤ to_z w64 (of_z w64 c.args.c.reference) ≡ pos 100 *ℤ c.args.c.reference = rw (to_z-of_z (reference_fits c.args.c c.requires.c_value)) in
    rw (
      to_z-of_z {w = w64} {z = c.floor.result} (sfits_of c.floor.type_inv),
      c.floor.ensures,
      dividend,
      to_z-of_z (dividend_fits c.args.c c.requires.c_value c.args.h c.requires.h_value c.args.m c.requires.m_value),
      scale,
      to_z-of_z (scale_fits c.args.c c.requires.c_value),
      mean,
    )

pub overflow_add-result : goal.overflow_add-result
overflow_add-result c =
    rw (this (goal.at.overflow_add-result c).After-floor) (this_fits c.args.c c.requires.c_value c.args.h c.requires.h_value c.args.m c.requires.m_value)

pub returns : goal.returns
returns c = to_z-of_z (overflow_add-result c) ∙ this (goal.at.returns c).After-floor
