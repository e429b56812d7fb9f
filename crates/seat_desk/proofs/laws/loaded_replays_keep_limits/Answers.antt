use Rattle.seat_desk.proofs.Grounds.{loaded_replays_keep_limits}
use Rattle.seat_desk.proofs.laws.loaded_replays_keep_limits.Goals as goal

pub returns : goal.returns
returns c = loaded_replays_keep_limits
