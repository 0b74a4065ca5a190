use borrow.Author.Rules.{rules}
use Rattle.packed.specs.Packed.{worth_of, worths}
use Rattle.text.proofs.Table.{at}
use Prim.Native.Nat.{◌<◌}
use Rattle.packed.proofs.table.Worths.worth.Goals as goal

pub returns : goal.returns
unfolding worths
returns c =
    let h : c.args.b < 256 = search rules in
    rw (c.args.self.now.exact, c.index.ensures) (at worth_of 256 c.args.b h)
