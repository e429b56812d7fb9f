use Rattle.seat_shards.proofs.Merged.{merged_is_legal}
use Rattle.seat_shards.proofs.laws.merged_is_legal.Goals as goal

pub returns : goal.returns
returns c = merged_is_legal
