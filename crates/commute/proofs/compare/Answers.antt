-- `commute::compare` meets its contract.
use mathlib.Core.Path.{◌≡◌, sym, ◌∙◌}
use Rattle.std.specs.Prelude.{Ok}
use Rattle.std.proofs.lemmas.Result.{err_from_is_err_and}
use Rattle.command.specs.Text.{check_command}
use Rattle.command.proofs.Accepted.{accepted}
use Rattle.join.proofs.Faults.{made_of, kept_of}
use Rattle.commute.specs.declared.Fault.TheVariants.{First, Second}
use Rattle.commute.specs.Commute.{compared}
use Rattle.commute.proofs.compare.Goals as goal
use Rattle.commute.proofs.compare.Goals.{In_ok-map_err, In_ok-map_err-2}

-- the first text was accepted, and so was the second
first : (c : In_ok-map_err) → check_command c.args.a.now ≡ Ok tt
first c = sym c.walk.ensures.0 ∙ kept_of First _ _ _ c.map_err.ensures.cases c.in_ok-map_err.was

second : (c : In_ok-map_err-2) → check_command c.args.b.now ≡ Ok tt
second c = sym c.walk-2.ensures.0 ∙ kept_of Second _ _ _ c.map_err-2.ensures.cases c.in_ok-map_err-2.was

pub returns-in_err-map_err : goal.returns-in_err-map_err
unfolding compared
returns-in_err-map_err c =
    let p = err_from_is_err_and c.from_residual.result c.from_residual.ensures.1 in
    let m = made_of First _ _ _ c.map_err.ensures.cases c.in_err-map_err.was in
    rw (p.1, p.2, m.2, sym c.walk.ensures.0 ∙ m.1)

pub returns-in_err-map_err-2 : goal.returns-in_err-map_err-2
unfolding compared
returns-in_err-map_err-2 c =
    let f = c.from_residual-in_err-map_err-2 in
    let p = err_from_is_err_and f.result f.ensures.1 in
    let m = made_of Second _ _ _ c.map_err-2.ensures.cases c.in_err-map_err-2.was in
    rw (p.1, p.2, m.2, first (goal.at.returns-in_err-map_err-2 c).In_ok-map_err, sym c.walk-2.ensures.0 ∙ m.1)

pub flags_apart-requires : goal.flags_apart-requires
flags_apart-requires c = (
  (accepted c.args.a.now (first (goal.at.flags_apart-requires c).In_ok-map_err)).head.inside,
  (accepted c.args.b.now (second (goal.at.flags_apart-requires c).In_ok-map_err-2)).head.inside,
)

pub sections_apart-requires : goal.sections_apart-requires
sections_apart-requires c =
    let x = kept_of First _ _ _ c.map_err.ensures.cases c.in_ok-map_err.was in
    let y = kept_of Second _ _ _ c.map_err-2.ensures.cases c.in_ok-map_err-2.was in (
      record { fine = sym c.walk.ensures.0 ∙ x; noted = c.walk.ensures.1 x },
      record { fine = sym c.walk-2.ensures.0 ∙ y; noted = c.walk-2.ensures.1 y },
    )

pub returns : goal.returns
unfolding compared
returns c =
    rw (
      first (goal.at.returns c).In_ok-map_err,
      second (goal.at.returns c).In_ok-map_err-2,
      c.sections_apart.ensures,
      c.flags_apart.ensures,
    )
