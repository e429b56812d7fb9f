use Rattle.std.proofs.Common.{length}
use Rattle.season_changes.proofs.differing.+times_differ.Given as goal

abbrev pub decreases-times_differ : goal.decreases-times_differ
decreases-times_differ l = length l.legs.now
