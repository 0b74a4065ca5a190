use Rattle.desk.proofs.Waited.{check_says}
use Rattle.desk.proofs.board_calls.esk_board_check.Goals as goal

pub returns : goal.returns
returns c = check_says c.args.slots.now c.args.area.now c.nobody.result _ c.checked.result c.look_over.ensures c.checked.ensures
