-- `command_write::record::pass_record` meets its contract.
use mathlib.Core.Path.{sym, ◌∙◌}
use Rattle.std.proofs.lemmas.Result.{err_from_is_err_and}
use Rattle.command_write.proofs.Writing.{allowed_halves}
use Rattle.command_write.proofs.record.pass_record.Goals as goal

pub returns-in_err-head_allowed : goal.returns-in_err-head_allowed
returns-in_err-head_allowed c =
    let p = err_from_is_err_and c.from_residual.result c.from_residual.ensures.1 in
    rw (p.1, p.2, allowed_halves c.args.c, sym c.head_allowed.ensures ∙ c.in_err-head_allowed.was)

pub returns : goal.returns
returns c = rw (allowed_halves c.args.c, sym c.head_allowed.ensures ∙ c.in_ok-head_allowed.was) c.pass_sections.ensures
