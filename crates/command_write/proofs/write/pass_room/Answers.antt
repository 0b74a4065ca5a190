use mathlib.Core.Path.{◌≡◌, sym, ◌∙◌}
use lib.ListN.{length}
use borrow.Author.Tests.{lt-leb, le-leb}
use Rattle.std.proofs.lemmas.Result.{err_from_is_err_and}
use Rattle.command.specs.Record.{command_allowed, command_text, write_seen}
use Rattle.command_write.proofs.Writing.{goes_fine, goes_bad}
use Rattle.command_write.proofs.write.pass_room.Goals as goal
use Rattle.command_write.proofs.write.pass_room.Goals.{In_ok-n}
use Rattle.std.specs.Prelude.{Ok}

-- the record is allowed, and its text is n bytes long
passed : (c : In_ok-n) → let x = c.args.c in (command_allowed x ≡ Ok tt) × (length (command_text x) ≡ c.in_ok-n.n)
passed c = goes_fine _ _ _ (sym c.pass_record.ensures ∙ c.in_ok-n.was)

pub returns-in_err-n : goal.returns-in_err-n
unfolding write_seen
returns-in_err-n c =
    let x = c.args.c in
    let p = err_from_is_err_and c.from_residual.result c.from_residual.ensures.1 in
    rw (p.1, p.2, goes_bad (command_allowed x) (length (command_text x)) _ (sym c.pass_record.ensures ∙ c.in_err-n.was))

pub returns-then-room-n : goal.returns-then-room-n
unfolding write_seen
returns-then-room-n c =
    let p = passed (goal.at.returns-then-room-n c).In_ok-n in
    rw (c.at.ensures, p.0, p.1, lt-leb _ _ c.if-room-n.true)

pub returns : goal.returns
unfolding write_seen
returns c =
    let p = passed (goal.at.returns c).In_ok-n in
    rw (p.0, p.1, le-leb _ _ c.if-room-n.false)
