use Rattle.std.proofs.Common.{length}
use Rattle.seat_seal.proofs.rules.+are_runs.Given as goal

abbrev pub decreases-are_runs : goal.decreases-are_runs
decreases-are_runs l = length l.runs.now
