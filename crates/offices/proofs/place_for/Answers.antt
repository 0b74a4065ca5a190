use mathlib.Core.Path.{◌≡◌, refl, sym, ◌∙◌, ap}
use mathlib.Core.Bool.{true, not}
use borrow.Author.Tests.{not-false}
use Rattle.std.specs.Prelude.{Err, is_some}
use Rattle.offices.proofs.Admitted.{free_move_lem, barred-move}
use Rattle.offices.proofs.place_for.Goals as goal

pub returns-then-not-is_barred : goal.returns-then-not-is_barred
returns-then-not-is_barred c =
    let a = c.args in
    rw (free_move_lem a.own a.other a.v a.w a.area.now a.t.now (sym c.overlapping.ensures ∙ c.if-overlapping.false) (sym c.is_barred.ensures ∙ c.if-not-is_barred.true))
    c.place_text.ensures

pub returns : goal.returns
returns c =
    let a = c.args in
    let n : is_some a.w ≡ true = c.is_none.ensures ∙ ap not c.if-is_none.false in
    rw (barred-move a.own a.other a.v a.w a.area.now a.t.now (sym c.overlapping.ensures ∙ c.if-overlapping.false) (sym c.is_barred.ensures ∙ c.if-not-is_barred.false), not-false a.v.valid c.if-not-v.false, n)
    (ap Err c.at-2.ensures, refl)
