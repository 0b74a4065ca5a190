-- `journal::replay::joined_back` meets its contract. The loop's invariant: the buffer holds a command, from which the walk over the rest goes on.
use mathlib.Core.Path.{◌≡◌}
use lib.ListN.{take}
use Rattle.join.specs.Join.{no_change_text}
use Rattle.journal.specs.Journal.{walk}
use Rattle.journal.specs.Inner.{joined_at, Holds}
use Rattle.journal.proofs.replay.joined_back.Given as goal

abbrev pub invariant-loop-entry : goal.invariant-loop-entry
invariant-loop-entry l =
    Holds l.later l.m (take l.m l.later)
    × (walk (joined_at l.journal l.designator) l.journal l.end no_change_text ≡ walk (joined_at l.journal l.designator) l.journal l.here (take l.m l.later))

abbrev pub decreases-loop-entry : goal.decreases-loop-entry
decreases-loop-entry l = l.here
