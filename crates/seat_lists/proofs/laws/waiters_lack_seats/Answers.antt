use Rattle.seat_lists.proofs.Lacking.{waiters_lack_seats}
use Rattle.seat_lists.proofs.laws.waiters_lack_seats.Goals as goal

pub returns : goal.returns
returns c = waiters_lack_seats
