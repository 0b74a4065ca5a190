-- `join::walked::Walked::section` meets its contract: the bytes stand between the section's place and the next.
use Rattle.join.proofs.Side.{Between, between}
use Rattle.join.proofs.walked.Walked.section.Goals as goal
use Rattle.join.proofs.walked.Walked.section.Goals.{Start}

here : (s : Start) → let w = s.args.self.now in Between w.text.now w.places s.args.k
here s = between s.args.self.now s.args.k s.requires.0 s.requires.1 s.requires.2

pub slice_bounds-result-count : goal.slice_bounds-result-count
slice_bounds-result-count c = (here (goal.at.slice_bounds-result-count c).Start).ordered

pub slice_bounds-result-start : goal.slice_bounds-result-start
slice_bounds-result-start c = (here (goal.at.slice_bounds-result-start c).Start).ordered

pub slice_bounds-result-end : goal.slice_bounds-result-end
slice_bounds-result-end c = (here (goal.at.slice_bounds-result-end c).Start).inside

pub returns : goal.returns
returns c = (here (goal.at.returns c).Start).bytes
