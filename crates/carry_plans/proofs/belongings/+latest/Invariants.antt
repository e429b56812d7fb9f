use Rattle.std.proofs.Common.{length}
use Rattle.carry_plans.proofs.belongings.+latest.Given as goal

abbrev pub decreases-latest : goal.decreases-latest
decreases-latest l = length l.knowns.now
