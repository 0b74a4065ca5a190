use borrow.Author.Rules.{rules}
use mathlib.Core.Path.{◌≡◌, sym, ap, ◌∙◌}
use mir.Val.{to_z, of_z}
use mir.Syntax.{w32}
use borrow.Author.Tests.{lt-leb, le-leb}
use Rattle.packed.specs.Packed.{read_packed}
use Rattle.packed.specs.Decoding.{decoded}
use Rattle.packed.proofs.Reading.{read_is, read-refused}
use Rattle.packed.proofs.read.read.Goals as goal
use Rattle.packed.proofs.read.read.Goals.{After-struct_told-1, then-w-lt1-via-then-w-lt1, then-w-lt1-via-else-w-lt1+then-w-gt5}
use Rattle.std.specs.Prelude.{Some, None, Err}

back : (c : After-struct_told-1)
    → to_z w32 (of_z w32 c.decode-d.result.figure) ≡ c.decode-d.result.figure
back c = search rules

pub returns-then-w-lt1 : goal.returns-then-w-lt1
unfolding read_packed
returns-then-w-lt1 c =
    elim c.then-w-lt1.branch [
      | then-w-lt1-via-then-w-lt1 w ↦ rw (c.at.ensures, lt-leb 1 _ w.if-w-lt1.true)
      | then-w-lt1-via-else-w-lt1+then-w-gt5 w ↦ rw (c.at.ensures, le-leb 1 _ w.if-w-lt1.false, lt-leb _ 5 w.if-w-gt5.true)
    ]

pub returns-then-d : goal.returns-then-d
returns-then-d c =
    let f = c.args.f.now in
    let e : c.decode-d.result ≡ decoded f = c.decode-d.ensures in
    sym (read_is f None (rw (sym e, c.if-d.true)))

pub returns-then-d-2 : goal.returns-then-d-2
returns-then-d-2 c =
    let f = c.args.f.now in
    let e : c.decode-d.result ≡ decoded f = c.decode-d.ensures in
    rw (back (goal.at.returns-then-d-2 c).After-struct_told-1) (sym (read_is f (Some c.decode-d.result.figure) (rw (sym e, c.if-d.false, c.if-d-2.true))))

pub returns : goal.returns
returns c =
    let f = c.args.f.now in
    let e : c.decode-d.result ≡ decoded f = c.decode-d.ensures in
    ap Err c.refused.ensures
    ∙ sym (read-refused f (rw (le-leb 1 _ c.if-w-lt1.false, le-leb _ 5 c.if-w-gt5.false))
    (rw (sym e, c.if-d.false, c.if-d-2.false)))
