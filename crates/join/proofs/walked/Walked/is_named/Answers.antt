use Rattle.command.proofs.Accepted.{accepted}
use Rattle.join.proofs.walked.Walked.is_named.Goals as goal

pub is_named-requires : goal.is_named-requires
is_named-requires c = (c.requires.1, (accepted c.args.self.now.text.now c.requires.0.fine).head.inside)
