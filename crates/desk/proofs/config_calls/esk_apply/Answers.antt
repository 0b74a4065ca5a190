-- Which settings are kept: a refusal leaves them.
use mathlib.Core.Path.{sym, ◌∙◌}
use Rattle.config.proofs.Kept.{kept_new, kept_old}
use Rattle.desk.proofs.config_calls.esk_apply.Goals as goal

pub returns-in-Ok : goal.returns-in-Ok
returns-in-Ok c =
    let a = c.args in
    let e = sym c.apply.ensures ∙ c.in-Ok.is in
    (rw e, kept_new a.settings.now a.text.now c.in-Ok.applied e)

pub returns-in-Err : goal.returns-in-Err
returns-in-Err c =
    let a = c.args in
    let e = sym c.apply.ensures ∙ c.in-Err.is in
    (rw (e, c.number.ensures), kept_old a.settings.now a.text.now c.in-Err.r e)
