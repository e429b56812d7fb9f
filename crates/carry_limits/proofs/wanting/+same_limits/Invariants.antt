use Rattle.std.proofs.Common.{length}
use Rattle.carry_limits.proofs.wanting.+same_limits.Given as goal

abbrev pub decreases-same_limits : goal.decreases-same_limits
decreases-same_limits l = length l.steps.now
