-- `journal::replay::put_no_change` meets its contract: the bytes are those of the no-change command.
use mathlib.Core.Path.{◌≡◌, ◌∙◌}
use native.Mathlib.Omega.{arith}
use lib.ListN.{length}
use borrow.Author.Tests.{le-leb}
use Rattle.text.specs.Over.{over}
use Rattle.join.specs.Join.{no_change_text}
use Rattle.join.proofs.Laws.{no-change-fine}
use Rattle.journal.proofs.Replays.{held-over}
use Rattle.journal.proofs.replay.put_no_change.Goals as goal

pub returns : goal.returns
unfolding no_change_text
returns c =
    let a = c.args in
    let d = c.args.later.now in
    let copied : c.copy.new.d ≡ over d 0 no_change_text =
    c.copy.ensures ∙ rw (le-leb 22 (length d) (omega (arith, c.requires))) in
    rw copied (held-over d no_change_text c.requires no-change-fine)
