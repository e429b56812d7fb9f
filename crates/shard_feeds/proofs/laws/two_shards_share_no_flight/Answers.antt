use Rattle.shard_feeds.proofs.Flown.{two_share_none}
use Rattle.shard_feeds.proofs.laws.two_shards_share_no_flight.Goals as goal

pub returns : goal.returns
returns c = two_share_none
