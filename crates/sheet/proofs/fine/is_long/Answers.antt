use borrow.Author.Tests.{leb-true}
use native.Mathlib.Omega.{arith}
use Prim.Native.Nat.{◌+◌}
use lib.ListN.{length}
use Rattle.sheet.specs.Inner.{size_of_cell}
use Rattle.sheet.proofs.Small.{small-parts, small_size}
use Rattle.sheet.proofs.fine.is_long.Goals as goal

pub overflow_add-result : goal.overflow_add-result
overflow_add-result c = omega (arith, c.size_of_cell-size.ensures, small_size c.args.c c.requires, (small-parts _ c.requires).0)

pub returns : goal.returns
unfolding size_of_cell
returns c =
    let a = c.args in
    λ e. omega (arith, c.size_of_cell-size.ensures, leb-true (a.c.at + c.size_of_cell-size.result) (length a.s.now) e)
