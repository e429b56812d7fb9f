use Rattle.flight_routes.proofs.Sent.{lines_are_sent, rows_are_sent}
use Rattle.flight_routes.proofs.laws.each_line_has_one_shard.Goals as goal

pub returns-clause-lines : goal.returns-clause-lines
returns-clause-lines c = lines_are_sent

pub returns-clause-rows : goal.returns-clause-rows
returns-clause-rows c = rows_are_sent
