use Rattle.packed.specs.Packed.{digit_of, digits}
use Rattle.text.proofs.Table.{at}
use Rattle.packed.proofs.table.Digits.digit.Goals as goal

pub returns : goal.returns
unfolding digits
returns c = rw c.args.self.now.exact (at digit_of 40 c.args.n c.requires)
