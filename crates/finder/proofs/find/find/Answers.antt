-- `finder::find::find` meets its contract: the number, the length, the first 22 bytes, the section.
use mathlib.Core.Path.{sym, ◌∙◌}
use borrow.Author.Tests.{lt-leb, le-leb, leb-true}
use Rattle.std.proofs.lemmas.Result.{err_from_is_err_and}
use Rattle.text.proofs.Cases.{both_left, both_right}
use Rattle.command.specs.Text.{longest}
use Rattle.command.proofs.Head.{head-next}
use Rattle.finder.specs.Finding.{find_section}
use Rattle.finder.proofs.find.find.Goals as goal

pub returns-then-not-is_number : goal.returns-then-not-is_number
unfolding find_section
returns-then-not-is_number c = rw (c.at.ensures, sym c.if-not-is_number.ensures)

pub returns-then-s-gt-LONGEST : goal.returns-then-s-gt-LONGEST
unfolding find_section
returns-then-s-gt-LONGEST c =
    rw (c.at-then-s-gt-LONGEST.ensures, sym c.if-not-is_number.ensures, lt-leb _ longest c.if-s-gt-LONGEST.true)

pub behind_head-requires : goal.behind_head-requires
behind_head-requires c =
    let b = sym c.if-not-is_number.ensures in (
      leb-true 2 _ (both_left _ _ b),
      leb-true _ 9 (both_right _ _ b),
      (head-next _ _ (sym c.check_head.ensures ∙ c.in_ok-check_head.was)).0.inside,
    )

pub returns-in_err-check_head : goal.returns-in_err-check_head
unfolding find_section
returns-in_err-check_head c =
    let p = err_from_is_err_and c.from_residual.result c.from_residual.ensures.1 in
    rw (
      p.1,
      p.2,
      sym c.if-not-is_number.ensures,
      le-leb _ longest c.if-s-gt-LONGEST.false,
      sym c.check_head.ensures ∙ c.in_err-check_head.was,
    )

pub returns : goal.returns
unfolding find_section
returns c =
    let e = sym c.check_head.ensures ∙ c.in_ok-check_head.was in
    c.behind_head.ensures
    ∙ rw (sym c.if-not-is_number.ensures, le-leb _ longest c.if-s-gt-LONGEST.false, e, (head-next _ _ e).1)
