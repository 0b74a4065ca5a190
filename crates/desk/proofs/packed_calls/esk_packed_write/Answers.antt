use mathlib.Core.Path.{sym, ◌∙◌}
use Rattle.caller.proofs.Figures.{written-few}
use Rattle.desk.proofs.packed_calls.esk_packed_write.Goals as goal

pub wide-requires : goal.wide-requires
wide-requires c = written-few _ _ _ (sym c.write_figure.ensures.0 ∙ c.in-Ok.is)
