use Rattle.carry_plans.proofs.OwnParts.{plan_for_part}
use Rattle.carry_plans.proofs.Parts.{of_memory}
use Rattle.carry_plans.proofs.planning.plan.Goals as goal

pub returns-in-Ok-part_of-clause-planned : goal.returns-in-Ok-part_of-clause-planned
returns-in-Ok-part_of-clause-planned c =
    plan_for_part c.args.asked.now c.args.olds.now c.args.before.now c.args.news.now c.args.file.now c.in-Ok-part_of.after c.in-Ok-part_of.report
    c.in-Some.part c.in-Ok-plan_of.planned.0 c.in-Ok-plan_of.planned.1 c.in-Ok-courses_of.courses c.in-Ok-passed.parts.chosen.live.items
    c.in-Ok-passed.parts.chosen.kept.items c.in-Ok-passed.parts.by c.in-Some.is c.in-Ok-plan_of.ensures.promised c.in-Ok-passed.ensures.parts
    c.in-Ok-plan_of.ensures.whole c.in-Ok-part_of.ensures.part

pub returns-in-Err-clause-fault : goal.returns-in-Err-clause-fault
returns-in-Err-clause-fault c =
    of_memory c.args.asked.now c.args.olds.now c.args.before.now c.args.news.now c.args.file.now c.in-Err.fault c.in-Err.ensures.memory

pub returns-in-Err-served-clause-fault : goal.returns-in-Err-served-clause-fault
returns-in-Err-served-clause-fault c =
    of_memory c.args.asked.now c.args.olds.now c.args.before.now c.args.news.now c.args.file.now c.in-Err-served.fault c.in-Err-served.ensures.memory

pub returns-in-Err-courses_of-clause-fault : goal.returns-in-Err-courses_of-clause-fault
returns-in-Err-courses_of-clause-fault c = c.in-Err-courses_of.ensures.fault

pub returns-in-Err-passed-clause-fault : goal.returns-in-Err-passed-clause-fault
returns-in-Err-passed-clause-fault c = c.in-Err-passed.ensures.fault

pub returns-in-Err-plan_of-clause-fault : goal.returns-in-Err-plan_of-clause-fault
returns-in-Err-plan_of-clause-fault c = c.in-Err-plan_of.ensures.fault

pub returns-clause-fault : goal.returns-clause-fault
returns-clause-fault c = c.in-Err-part_of.ensures.fault
