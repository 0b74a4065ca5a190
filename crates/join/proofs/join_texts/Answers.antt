use mathlib.Core.Path.{refl, sym, ◌∙◌}
use Rattle.std.proofs.lemmas.Result.{err_from_is_err_and}
use Rattle.join.specs.declared.Fault.TheVariants.{First, Second}
use Rattle.join.specs.Join.{join}
use Rattle.join.proofs.Faults.{made_of, kept_of}
use Rattle.join.proofs.join_texts.Goals as goal

pub returns-in_err-map_err : goal.returns-in_err-map_err
unfolding join
returns-in_err-map_err c =
    let p = err_from_is_err_and c.from_residual.result c.from_residual.ensures.1 in
    let m = made_of First _ _ _ c.map_err.ensures.cases c.in_err-map_err.was in
    rw (p.1, p.2, m.2, sym c.walk.ensures.0 ∙ m.1) (refl, refl)

pub returns-in_err-map_err-2 : goal.returns-in_err-map_err-2
unfolding join
returns-in_err-map_err-2 c =
    let f = c.from_residual-in_err-map_err-2 in
    let p = err_from_is_err_and f.result f.ensures.1 in
    let a = kept_of First _ _ _ c.map_err.ensures.cases c.in_ok-map_err.was in
    let m = made_of Second _ _ _ c.map_err-2.ensures.cases c.in_err-map_err-2.was in
    rw (p.1, p.2, m.2, sym c.walk.ensures.0 ∙ a, sym c.walk-2.ensures.0 ∙ m.1) (refl, refl)

pub join_accepted-requires : goal.join_accepted-requires
join_accepted-requires c =
    let x = kept_of First _ _ _ c.map_err.ensures.cases c.in_ok-map_err.was in
    let y = kept_of Second _ _ _ c.map_err-2.ensures.cases c.in_ok-map_err-2.was in (
      record { fine = sym c.walk.ensures.0 ∙ x; noted = c.walk.ensures.1 x },
      record { fine = sym c.walk-2.ensures.0 ∙ y; noted = c.walk-2.ensures.1 y },
    )
