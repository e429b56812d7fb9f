use Rattle.std.proofs.Common.{length}
use Rattle.carry_limits.proofs.fitting.+held_roomy.Given as goal

abbrev pub decreases-held_roomy : goal.decreases-held_roomy
decreases-held_roomy l = length l.steps.now
