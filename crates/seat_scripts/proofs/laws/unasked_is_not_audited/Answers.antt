use Rattle.seat_scripts.proofs.Unasked.{unasked_is_not_audited}
use Rattle.seat_scripts.proofs.laws.unasked_is_not_audited.Goals as goal

pub returns : goal.returns
returns c = unasked_is_not_audited
