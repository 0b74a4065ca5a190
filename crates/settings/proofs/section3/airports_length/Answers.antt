use native.Mathlib.Omega.{arith}
use lib.ListN.{length-append}
use Rattle.field.proofs.Decimal.{decimal-length}
use Rattle.section.specs.Layout.{layout_of, table_of}
use Rattle.section.specs.Contents.{contents_text}
use Rattle.settings.proofs.section3.airports_length.Goals as goal

pub returns : goal.returns
unfolding layout_of table_of contents_text
returns c =
    let one = c.phases_size.ensures in
    let two = c.phases_size-2.ensures in
    (simp (length-append, decimal-length) (omega (arith, one.0, two.0)), omega (arith, one.1, two.1))
