use Rattle.limit_changes.proofs.Lawful.{each_is_reached}
use Rattle.limit_changes.proofs.laws.wanted_limits_are_reached.Goals as goal

pub returns-clause-reached : goal.returns-clause-reached
returns-clause-reached c = each_is_reached
