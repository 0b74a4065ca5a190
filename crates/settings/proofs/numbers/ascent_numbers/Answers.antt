-- `settings::numbers::ascent_numbers` meets its contract.
use borrow.Author.Rules.{rules}
use mathlib.Core.Path.{refl}
use Rattle.section.specs.Inner.{numbers_of}
use Rattle.settings.proofs.ByNumber.{same-held, ascent-fits}
use Rattle.settings.proofs.numbers.ascent_numbers.Goals as goal

pub returns : goal.returns
unfolding numbers_of
returns c =
    let x = c.args.x in
    same-held 5 _ _ refl
    (ascent-fits x (search rules) (search rules) (search rules) (search rules) (search rules) (search rules))
