use Rattle.seat_scripts.proofs.Again.{resumed_is_of_the_whole}
use Rattle.seat_scripts.proofs.laws.resumed_is_of_the_whole.Goals as goal

pub returns : goal.returns
returns c = resumed_is_of_the_whole
