use mathlib.Core.Path.{◌≡◌, sym, ◌∙◌}
use lib.ListN.{length}
use Rattle.command.specs.Record.{command_text, write_seen}
use Rattle.command_write.proofs.Writing.{goes_fine, room-passed}
use Rattle.command_write.proofs.write.write.Goals as goal
use Rattle.command_write.proofs.write.write.Goals.{In_ok-pass_room}
use Rattle.std.specs.Prelude.{Ok}

-- the record is allowed and there is room
fine : (c : In_ok-pass_room) → write_seen c.args.c (length c.args.out.now) ≡ Ok tt
fine c =
    (goes_fine (write_seen c.args.c (length c.args.out.now)) (length (command_text c.args.c)) _
    (sym c.pass_room.ensures ∙ c.in_ok-pass_room.was)).0

pub put-requires : goal.put-requires
put-requires c = room-passed c.args.c (length c.args.out.now) (fine (goal.at.put-requires c).In_ok-pass_room)
