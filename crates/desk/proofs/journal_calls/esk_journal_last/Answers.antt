-- An entry's places are within the journal.
use mathlib.Core.Path.{◌≡◌, sym, ap, ◌∙◌}
use Rattle.std.specs.Prelude.{Ok}
use native.Mathlib.Omega.{arith}
use Rattle.journal.specs.Journal.{last_entry, starts_at}
use Rattle.journal.proofs.Ends.{Ends, starts}
use Rattle.desk.proofs.journal_calls.esk_journal_last.Goals as goal
use Rattle.desk.proofs.journal_calls.esk_journal_last.Goals.{In-Ok-Some}

there : (c : In-Ok-Some) → last_entry c.args.journal.now c.args.end ≡ starts_at c.in-Ok-Some.entry.at c.in-Ok-Some.entry.length
there c = sym c.last.ensures ∙ c.in-Ok-Some.is ∙ ap Ok c.in-Ok-Some.field-0-is

found : (c : In-Ok-Some) → Ends c.args.journal.now c.args.end c.in-Ok-Some.entry.at c.in-Ok-Some.entry.length
found c = starts _ _ _ _ (there c)

pub overflow_add-result : goal.overflow_add-result
overflow_add-result c = let h = found (goal.at.overflow_add-result c).In-Ok-Some in omega (arith, h.whole, h.few)

pub narrow-requires : goal.narrow-requires
narrow-requires c = let h = found (goal.at.narrow-requires c).In-Ok-Some in omega (arith, h.whole, h.few)
