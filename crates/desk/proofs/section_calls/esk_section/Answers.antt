use mathlib.Core.Path.{sym, ◌∙◌}
use Rattle.finder.proofs.Finds.{part-short}
use Rattle.desk.proofs.section_calls.esk_section.Goals as goal

pub length_of-requires : goal.length_of-requires
length_of-requires c = part-short c.args.number c.args.text.now c.in-Ok.part (sym c.find.ensures ∙ c.in-Ok.is)
