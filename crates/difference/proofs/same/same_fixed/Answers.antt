-- `difference::same::same_fixed` meets its contract, by the eight numbers of the section.
use Rattle.difference.proofs.Equal.{same-eight}
use Rattle.difference.proofs.same.same_fixed.Goals as goal

pub returns : goal.returns
returns c =
    rw (c.same_numbers.ensures, c.numbers_of-2.ensures.0, c.numbers_of.ensures.0)
    (same-eight c.args.a c.args.b c.args.k c.requires.0 c.requires.1)
