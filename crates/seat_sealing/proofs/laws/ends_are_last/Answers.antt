use Rattle.seat_sealing.proofs.LastLines.{end_is_last}
use Rattle.seat_sealing.proofs.laws.ends_are_last.Goals as goal

pub returns : goal.returns
returns c = end_is_last
