use Rattle.seat_seal.proofs.Knowing.{one_known}
use Rattle.seat_seal.proofs.laws.one_is_known.Goals as goal

pub returns : goal.returns
returns c = one_known
