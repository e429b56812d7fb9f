use Rattle.seat_replies.proofs.Very.{commands_are_very_requests}
use Rattle.seat_replies.proofs.laws.commands_are_very_requests.Goals as goal

pub returns : goal.returns
returns c = commands_are_very_requests
