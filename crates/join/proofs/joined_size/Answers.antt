use native.Mathlib.Omega.{arith}
use mathlib.Core.Path.{sym}
use Rattle.join.proofs.Side.{sides_length, sides_short}
use Rattle.join.proofs.joined_size.Goals as goal

pub overflow_add-result : goal.overflow_add-result
overflow_add-result c = omega (arith, c.sections_size.ensures, sides_short c.args.a.now.text.now c.args.b.now.text.now c.requires.0.fine c.requires.1.fine)

pub returns : goal.returns
returns c = rw c.sections_size.ensures (sym (sides_length c.args.a.now.text.now c.args.b.now.text.now c.requires.0.fine c.requires.1.fine))
