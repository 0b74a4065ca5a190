use mathlib.Core.Path.{sym, ◌∙◌}
use Rattle.std.proofs.lemmas.Result.{err_from_is_err_and}
use Rattle.caller.proofs.Figures.{formed-code, formed-over, other-stops, other-form, other-over}
use Rattle.caller.proofs.figure.write_figure.Goals as goal

pub returns-then-is_figure : goal.returns-then-is_figure
returns-then-is_figure c =
    let w = c.write_lone.ensures in
    let f = c.figure_from.ensures in
    let a = c.args in
    let e = sym c.is_figure.ensures ∙ c.if-is_figure.true in
    (w.0 ∙ rw f (sym (formed-code a.f a.width _ e)), w.1 ∙ rw f (sym (formed-over a.f a.width _ e)))

pub returns-in_err-code_of : goal.returns-in_err-code_of
returns-in_err-code_of c =
    let a = c.args in
    let p = err_from_is_err_and c.from_residual.result c.from_residual.ensures.1 in
    let e = sym c.is_figure.ensures ∙ c.if-is_figure.false in
    (rw (p.1, p.2) (sym (other-stops a.f a.width _ _ e (rw (← c.figure_from-2.ensures) (sym c.code_of.ensures ∙ c.in_err-code_of.was)))), sym (other-over a.f a.width _ e))

pub returns : goal.returns
returns c =
    let a = c.args in
    let e = sym c.is_figure.ensures ∙ c.if-is_figure.false in
    (sym (other-form a.f a.width _ e (rw (← c.figure_from-2.ensures) (sym c.code_of.ensures ∙ c.in_ok-code_of.was))), sym (other-over a.f a.width _ e))
