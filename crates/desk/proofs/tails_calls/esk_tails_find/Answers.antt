use mathlib.Core.Path.{◌∙◌, ap}
use Rattle.board.specs.Inner.{Wanted}
use Rattle.tails.specs.Inner.{keys_in, sought_in}
use Rattle.tails.specs.declared.keys.Keys.{Keys}
use Rattle.tails.proofs.Keyed.{sought_in_lem}
use Rattle.desk.specs.Tails.{tail_numbers}
use Rattle.desk.proofs.tails_calls.esk_tails_find.Goals as goal

pub returns : goal.returns
returns c =
    let a = c.args in
    c.tail_answer.ensures
    ∙ ap tail_numbers
    (c.seek.ensures
    ∙ ap (λ (k : Keys). sought_in k a.list.now c.wanted.result) c.keys_of.ensures
    ∙ ap (λ (w : Wanted). sought_in (keys_in a.slots.now) a.list.now w) c.wanted.ensures
    ∙ sought_in_lem a.slots.now a.list.now a.designator.now)
