use Rattle.shard_feeds.proofs.Flown.{lines_go, rows_go}
use Rattle.shard_feeds.proofs.laws.lines_go_by_their_flight.Goals as goal

pub returns-clause-lines : goal.returns-clause-lines
returns-clause-lines c = lines_go

pub returns-clause-rows : goal.returns-clause-rows
returns-clause-rows c = rows_go
