use mathlib.Core.Path.{sym, ◌∙◌}
use Rattle.packed.proofs.Refusal.{refusal-place}
use Rattle.desk.proofs.packed_calls.esk_packed_read.Goals as goal

pub narrow-requires : goal.narrow-requires
narrow-requires c = rw (sym c.read_lone.ensures ∙ c.in-Err.is) at (refusal-place c.args.field.now)
