use Rattle.seat_scripts.proofs.Again.{resumed_run_is_the_same}
use Rattle.seat_scripts.proofs.laws.resumed_run_is_the_same.Goals as goal

pub returns : goal.returns
returns c = resumed_run_is_the_same
