use Rattle.seat_scripts.proofs.Accepted.{replies_are_those_of_the_run}
use Rattle.seat_scripts.proofs.laws.replies_are_those_of_the_run.Goals as goal

pub returns : goal.returns
returns c = replies_are_those_of_the_run
