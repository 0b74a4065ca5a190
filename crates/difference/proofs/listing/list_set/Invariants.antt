-- `difference::listing::list_set` meets its contract. The loop's invariant: the items so far, and those that are left.
use Rattle.difference.proofs.Filling.{Filling}
use Rattle.difference.proofs.listing.list_set.Given as goal

abbrev pub invariant-loop-i : goal.invariant-loop-i
invariant-loop-i l = Filling l.flags l.named l.items l.count l.i
