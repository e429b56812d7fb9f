use Rattle.carry_limits.proofs.Enough as enough
use Rattle.carry_limits.proofs.laws.lifted_limits_have_room.Goals as goal

pub returns : goal.returns
returns c = enough.lifted_limits_have_room
