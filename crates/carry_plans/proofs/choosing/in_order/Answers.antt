use Rattle.carry_plans.proofs.Choices.{all_owned}
use Rattle.carry_plans.proofs.choosing.in_order.Goals as goal

pub returns-in-Ok-clause-owned : goal.returns-in-Ok-clause-owned
returns-in-Ok-clause-owned c = all_owned c.args.file.now c.args.live.items c.in-Ok.all.items c.in-Ok.ensures.same c.requires.owned
