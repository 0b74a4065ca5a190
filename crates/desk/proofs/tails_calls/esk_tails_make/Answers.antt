use mathlib.Core.Path.{◌∙◌, ap}
use Rattle.tails.specs.Inner.{has_list_in, made_in}
use Rattle.tails.specs.declared.keys.Keys.{Keys}
use Rattle.tails.proofs.Keyed.{has_in, made_in_lem}
use Rattle.desk.specs.Waiting.{board_numbers}
use Rattle.desk.proofs.tails_calls.esk_tails_make.Goals as goal

pub returns : goal.returns
returns c =
    let a = c.args in
    let made = c.make_list.ensures in (
      c.checked.ensures
          ∙ ap board_numbers (made.0 ∙ ap (λ (k : Keys). has_list_in k a.list.now) c.keys_of.ensures ∙ has_in a.slots.now a.list.now),
      made.1 ∙ ap (λ (k : Keys). made_in k a.list.now) c.keys_of.ensures ∙ made_in_lem a.slots.now a.list.now,
    )
