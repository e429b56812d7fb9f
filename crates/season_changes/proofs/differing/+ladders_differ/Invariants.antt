use Rattle.std.proofs.Common.{length}
use Rattle.season_changes.proofs.differing.+ladders_differ.Given as goal

abbrev pub decreases-ladders_differ : goal.decreases-ladders_differ
decreases-ladders_differ l = length l.legs.now
