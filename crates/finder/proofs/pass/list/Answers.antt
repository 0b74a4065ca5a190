-- `finder::pass::list` meets its contract: the count, and where the entries end.
use native.Mathlib.Omega.{arith}
use mathlib.Core.Path.{◌≡◌, sym, ap, ◌∙◌}
use Prim.Native.Nat.{◌+◌, ◌*◌}
use Rattle.std.proofs.lemmas.Result.{err_from_is_err_and}
use Rattle.field.specs.Fields.{check_number}
use Rattle.field.proofs.Accepted.{Number, number}
use Rattle.lists.specs.Lists.{count_at}
use Rattle.finder.proofs.Passing.{list-past, list_stop, list-next}
use Rattle.finder.proofs.pass.list.Goals as goal
use Rattle.finder.proofs.pass.list.Goals.{In_ok-digits}
use Rattle.std.specs.Prelude.{Ok}

pub returns-then-s-at : goal.returns-then-s-at
returns-then-s-at c = rw c.at.ensures (sym (list-past _ _ _ _ _ c.if-s-at.true))

-- the count is accepted
seen : (c : In_ok-digits)
    → let a = c.args in
    check_number 2 0 a.most a.s.now a.at ≡ Ok c.in_ok-digits.field-0
seen c = sym c.digits.ensures ∙ c.in_ok-digits.was

count : (c : In_ok-digits)
    → let a = c.args in
    Number 2 0 a.most a.s.now a.at c.in_ok-digits.field-0
count c = number _ _ _ _ _ _ _ (seen c)

pub list_end-requires : goal.list_end-requires
list_end-requires c =
    let n = count (goal.at.list_end-requires c).In_ok-digits in
    let p = c.requires in
    record { at_in_bounds = n.room; s_value = n.digits; at_bound = (omega (arith, n.high, p.0), p.1) }

pub returns-in_err-digits : goal.returns-in_err-digits
returns-in_err-digits c =
    let p = err_from_is_err_and c.from_residual.result c.from_residual.ensures.1 in
    rw (p.1, p.2) (sym (list_stop _ _ _ _ _ _ c.if-s-at.false (sym c.digits.ensures ∙ c.in_err-digits.was)))

pub returns : goal.returns
returns c =
    let a = c.args in
    let n = count_at a.s.now a.at in
    let same : a.at + (2 + a.w * n) ≡ c.in_ok-digits.field-0 + a.w * n = omega (arith, (count (goal.at.returns c).In_ok-digits).next) in
    sym (list-next _ _ _ _ _ _ c.if-s-at.false (seen (goal.at.returns c).In_ok-digits) ∙ ap Ok (sym (c.list_end.ensures ∙ same)))
