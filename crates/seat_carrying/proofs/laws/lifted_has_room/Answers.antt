use Rattle.seat_carrying.proofs.Lifted.{lifted_has_room as has_room}
use Rattle.seat_carrying.proofs.laws.lifted_has_room.Goals as goal

-- src/laws.rt:18:1
pub returns : goal.returns
returns c = has_room
