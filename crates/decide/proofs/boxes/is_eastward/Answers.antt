-- `decide::boxes::is_eastward` meets its contract.
use Rattle.decide.proofs.Eastward.{any-two}
use Rattle.decide.proofs.boxes.is_eastward.Goals as goal

pub returns : goal.returns
returns c = any-two c.args.first c.args.second c.args.east
