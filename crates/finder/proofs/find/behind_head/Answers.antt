-- `finder::find::behind_head` meets its contract.
use mathlib.Core.Path.{sym, ◌∙◌}
use Rattle.section.specs.Layout.{numbers}
use Rattle.finder.proofs.Reaching.{reach-inside}
use Rattle.finder.proofs.find.behind_head.Goals as goal

pub ended-requires : goal.ended-requires
ended-requires c =
    let a = c.args in
    reach-inside numbers a.s.now 22 a.k _ c.requires.2 (sym c.place_of.ensures ∙ c.in_ok-at.was)
