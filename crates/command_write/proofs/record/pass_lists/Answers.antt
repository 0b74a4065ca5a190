-- `command_write::record::pass_lists` meets its contract.
use native.Mathlib.Omega.{arith}
use mathlib.Core.Path.{sym, ◌∙◌}
use mathlib.Core.List.{◌∷◌, []}
use Prim.Native.Nat.{◌+◌}
use Rattle.std.proofs.lemmas.Result.{err_from_is_err_and}
use Rattle.section.proofs.Short.{reached, reaches_more}
use Rattle.settings.specs.Settings.{contents_of, airports_hold}
use Rattle.settings.specs.Inner.{pass_section}
use Rattle.command.specs.Record.{names}
use Rattle.command_write.specs.Inner.{pass_sections}
use Rattle.command_write.proofs.Writing.{sections_stop, sections-on, after_next}
use Rattle.command_write.proofs.record.pass_lists.Goals as goal

pub returns-in_err-at : goal.returns-in_err-at
unfolding contents_of
returns-in_err-at c =
    let p = err_from_is_err_and c.from_residual.result c.from_residual.ensures.1 in
    rw (p.1, p.2) (sym (sections_stop 2 (3 ∷ []) 22 c.args.c _ (sym c.pass_regions.ensures.0 ∙ c.in_err-at.was)), tt)

pub returns : goal.returns
unfolding contents_of pass_sections
returns c =
    let x = c.args.c in
    let far = reached _ _ _ c.pass_regions.ensures.1 c.in_ok-at.was in
    let p = c.in_ok-at.at in (
      c.pass_airports.ensures.0
          ∙ sym
          (sections-on 2 (3 ∷ []) 22 x p (sym c.pass_regions.ensures.0 ∙ c.in_ok-at.was)
          ∙ after_next (pass_section (names x 3) 3 p (airports_hold x.settings.airports))),
      reaches_more (p + 330) 805 c.pass_airports.result (omega (arith, far)) c.pass_airports.ensures.1,
    )
