-- `command_write::record::pass_sections` meets its contract.
use borrow.Author.Rules.{rules}
use native.Mathlib.Omega.{arith}
use mathlib.Core.Path.{◌≡◌, sym, ap, ◌∙◌}
use mathlib.Core.List.{◌∷◌, []}
use lib.ListN.{length, drop}
use Rattle.std.proofs.lemmas.Result.{err_from_is_err_and}
use Rattle.section.specs.Layout.{numbers}
use Rattle.section.specs.Inner.{going_on}
use Rattle.section.proofs.Short.{reached}
use Rattle.text.specs.Checks.{after}
use Rattle.command.specs.Record.{sections_allowed, command_text}
use Rattle.command_write.specs.Inner.{pass_sections}
use Rattle.command_write.proofs.Writing.{sections-append, sections_are, numbered_are, text-length}
use Rattle.command_write.proofs.record.pass_sections.Goals as goal
use Rattle.command_write.proofs.record.pass_sections.Goals.{Start}

-- the arrays have their entries
seven : (c : Start) → length c.args.c.settings.flags ≡ 7
seven c = search rules

eight : (c : Start) → length c.args.c.named ≡ 8
eight c = search rules

-- the sections of lists, then the others
whole : (c : Start)
    → let x = c.args.c in
    after (pass_sections (2 ∷ 3 ∷ []) 22 x) (λ p. pass_sections (drop 2 numbers) p x) ≡ going_on (sections_allowed numbers 22 x) (length (command_text x))
whole c =
    let x = c.args.c in
    sym (sections-append (2 ∷ 3 ∷ []) (drop 2 numbers) 22 x)
    ∙ sections_are numbers 22 x
    ∙ ap (going_on (sections_allowed numbers 22 x)) (sym (text-length x (seven c) (eight c)))

pub pass_numbered-requires : goal.pass_numbered-requires
pass_numbered-requires c = reached 805 _ _ c.pass_lists.ensures.1 c.in_ok-at.was

pub returns-in_err-at : goal.returns-in_err-at
returns-in_err-at c =
    let p = err_from_is_err_and c.from_residual.result c.from_residual.ensures.1 in
    rw (p.1, p.2) (rw (sym c.pass_lists.ensures.0 ∙ c.in_err-at.was) at (whole (goal.at.returns-in_err-at c).Start))

pub returns : goal.returns
returns c =
    let x = c.args.c in
    let n = rw c.fixed_of.ensures at c.pass_numbered.ensures in
    n
    ∙ numbered_are (drop 2 numbers) c.in_ok-at.at x (omega arith)
    ∙ (rw (sym c.pass_lists.ensures.0 ∙ c.in_ok-at.was) at (whole (goal.at.returns c).Start))
