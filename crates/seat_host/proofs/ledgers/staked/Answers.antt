use Rattle.std.proofs.Common.{refl}
use Rattle.seat_host.proofs.ledgers.staked.Goals as goal

pub returns : goal.returns
returns g c = refl
