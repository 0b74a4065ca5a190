-- `command::read::numbers_over` meets its contract.
use mathlib.Core.Path.{sym, ap, ◌∙◌}
use mathlib.Core.List.{List}
use Rattle.section.specs.Layout.{Item}
use Rattle.section.specs.Contents.{contents_at}
use Rattle.section.specs.Inner.{numbers_of}
use Rattle.settings.proofs.ByNumber.{only-digits, fit-held}
use Rattle.command.proofs.Placed.{stands-inside, stands-accepted, stands-held}
use Rattle.command.proofs.read.numbers_over.Goals as goal

pub is_named-requires : goal.is_named-requires
is_named-requires c = stands-inside c.requires.0

pub numbers_at-requires : goal.numbers_at-requires
numbers_at-requires c =
    let named = sym c.is_named.ensures ∙ c.if-is_named.true in
    rw (← only-digits c.args.k c.requires.1) (stands-accepted c.requires.0 named)

pub returns-then-is_named : goal.returns-then-is_named
returns-then-is_named c =
    let a = c.args in
    let named = sym c.is_named.ensures ∙ c.if-is_named.true in (
      c.numbers_at.ensures.0
          ∙ ap (λ (is : List Item). numbers_of (contents_at is a.s.now a.at)) (sym (only-digits a.k c.requires.1))
          ∙ rw named (ap numbers_of (stands-held c.requires.0)),
      fit-held a.k c.numbers_at.result c.numbers_at.ensures.1,
    )
