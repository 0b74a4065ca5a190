use mathlib.Core.Path.{refl, ap}
use borrow.Author.Tests.{lt-leb, le-leb}
use lib.ListN.{length}
use Rattle.join.specs.Join.{join_text, join}
use Rattle.std.specs.Prelude.{Ok}
use Rattle.join.proofs.join_accepted.Goals as goal

pub returns-then-out-n : goal.returns-then-out-n
unfolding join
returns-then-out-n c = let x = c.args.a.now.text.now in
    let y = c.args.b.now.text.now in
    let n = c.joined_size-n.ensures in
    rw (c.requires.0.fine, c.requires.1.fine, lt-leb (length (join_text x y)) (length c.args.out.now) (rw n at c.if-out-n.true)) (refl, refl)

pub returns : goal.returns
unfolding join
returns c = let x = c.args.a.now.text.now in
    let y = c.args.b.now.text.now in
    let n = c.joined_size-n.ensures in
    rw (c.requires.0.fine, c.requires.1.fine, le-leb (length (join_text x y)) (length c.args.out.now) (rw n at c.if-out-n.false))
    (ap Ok n, c.put_joined.ensures)
