use Rattle.carry_plans.proofs.Parts.{of_memory}
use Rattle.carry_plans.proofs.parting.part_of.Goals as goal

pub returns-in-Err-clause-fault : goal.returns-in-Err-clause-fault
returns-in-Err-clause-fault c =
    of_memory c.args.asked.now c.args.olds.now c.args.before.now c.args.news.now c.args.file.now c.in-Err.fault c.in-Err.ensures.memory
