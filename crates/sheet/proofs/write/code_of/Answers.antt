use borrow.Author.Rules.{rules}
use native.Mathlib.Omega.{arith}
use mathlib.Core.Path.{◌≡◌}
use lib.ListN.{length}
use borrow.Author.Tests.{leb-true}
use Rattle.sheet.specs.Inner.{held_form}
use Rattle.sheet.proofs.write.code_of.Goals as goal

pub slice_bounds-all_allowed-end : goal.slice_bounds-all_allowed-end
unfolding held_form
slice_bounds-all_allowed-end c =
    let six : length c.args.h.name ≡ 6 = search rules in
    let w = c.in-Name.w in
    omega (arith, six, leb-true w 6 (rw c.in-Name.is at c.requires))
