use Rattle.seat_scripts.proofs.OneTaken.{one_taken}
use Rattle.seat_scripts.proofs.laws.one_number_is_taken.Goals as goal

pub returns : goal.returns
returns c = one_taken
