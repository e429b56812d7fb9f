use Rattle.shard_feeds.proofs.Hosts.{hosts_are_together}
use Rattle.shard_feeds.proofs.laws.hosts_are_legal_together.Goals as goal

pub returns : goal.returns
returns c = hosts_are_together
