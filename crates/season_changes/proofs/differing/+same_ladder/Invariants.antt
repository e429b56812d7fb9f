use Rattle.std.proofs.Common.{length}
use Rattle.season_changes.proofs.differing.+same_ladder.Given as goal

abbrev pub decreases-same_ladder : goal.decreases-same_ladder
decreases-same_ladder l = length l.steps.now
