use Rattle.seat_shards.proofs.Verdicts.{one_verdict}
use Rattle.seat_shards.proofs.laws.one_verdict.Goals as goal

pub returns : goal.returns
returns c = one_verdict
