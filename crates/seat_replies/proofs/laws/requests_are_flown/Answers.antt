use Rattle.seat_replies.proofs.Segments.{requests_are_flown}
use Rattle.seat_replies.proofs.laws.requests_are_flown.Goals as goal

pub returns : goal.returns
returns c = requests_are_flown
