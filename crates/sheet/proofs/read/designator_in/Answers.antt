use mathlib.Core.Path.{◌∙◌}
use mathlib.Core.List.{append-nil}
use native.Mathlib.Omega.{arith}
use lib.ListN.{take, drop}
use lib.ListN.{replicate}
use Rattle.text.proofs.Parts.{part_length}
use Rattle.sheet.proofs.Filled.{copied}
use Rattle.sheet.proofs.read.designator_in.Goals as goal

pub returns : goal.returns
returns c =
    let s = c.args.s.now in
    append-nil _ ∙ c.copy.ensures ∙ copied (replicate 6 0) (take 6 (drop 15 s)) (part_length s 15 21 (omega (arith, c.requires)))
