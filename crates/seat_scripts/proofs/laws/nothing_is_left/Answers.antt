use Rattle.seat_scripts.proofs.Grown.{nothing_is_left}
use Rattle.seat_scripts.proofs.laws.nothing_is_left.Goals as goal

pub returns : goal.returns
returns c = nothing_is_left
