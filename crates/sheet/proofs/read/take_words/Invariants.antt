use Rattle.sheet.proofs.Filled.{Filled}
use Rattle.sheet.specs.Sheet.{word_at}
use Rattle.sheet.proofs.read.take_words.Given as goal

abbrev pub invariant-loop-i : goal.invariant-loop-i
invariant-loop-i l = Filled (word_at l.s) l.from l.initial.words l.words l.i
