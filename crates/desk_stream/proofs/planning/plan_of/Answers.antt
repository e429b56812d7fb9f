use Rattle.std.proofs.Common.{refl}
use Rattle.desk_feed.specs.declared.progress.CallKind.TheVariants.{Next, There, Beyond}
use Rattle.desk_stream.proofs.Plans.{planned_by, planned_there}
use Rattle.desk_stream.proofs.planning.plan_of.Goals as goal

pub returns-in-Ok-clause-plans : goal.returns-in-Ok-clause-plans
returns-in-Ok-clause-plans g c =
    planned_by c.args.flights.now c.args.serving.now.grid c.args.serving.now.cap c.args.serving.now.journal c.args.pending.now.asked.items
    c.args.called.now c.args.pending.now.progress c.args.desk.now c.in-Ok.plan Next c.requires.waiting.come c.requires.session
    c.in-Next.ensures.kind c.in-Ok.ensures.plans

pub returns-in-There-clause-plans : goal.returns-in-There-clause-plans
returns-in-There-clause-plans g c =
    planned_there c.args.flights.now c.args.serving.now.grid c.args.serving.now.cap c.args.serving.now.journal
    c.args.pending.now.asked.items c.args.called.now c.args.pending.now.progress c.args.desk.now c.told.result There c.repeat_of.result
    c.requires.waiting.come c.requires.session c.in-There.ensures.kind refl c.repeat_of.ensures c.told.ensures

pub returns-in-Beyond-clause-plans : goal.returns-in-Beyond-clause-plans
returns-in-Beyond-clause-plans g c =
    planned_by c.args.flights.now c.args.serving.now.grid c.args.serving.now.cap c.args.serving.now.journal c.args.pending.now.asked.items
    c.args.called.now c.args.pending.now.progress c.args.desk.now c.told-in-Beyond.result Beyond c.requires.waiting.come
    c.requires.session c.in-Beyond.ensures.kind c.told-in-Beyond.ensures
