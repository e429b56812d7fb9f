use Rattle.desk_hall.proofs.Ordered.{row_beyond, row_next, row_there}
use Rattle.desk_hall.proofs.ordering.plan_row_call.Goals as goal

pub returns-clause-plans : goal.returns-clause-plans
returns-clause-plans g c =
    row_beyond c.args.serving.now.grid c.args.serving.now.cap c.args.serving.now.journal c.args.asked.now c.args.control c.args.manager.now c.args.number
    c.calls_behind-calls.result c.quiet.result c.if-number-calls.false c.if-number-calls-2.false c.calls_behind-calls.ensures.value c.quiet.ensures

pub returns-then-number-calls-clause-plans : goal.returns-then-number-calls-clause-plans
returns-then-number-calls-clause-plans g c =
    row_next c.args.serving.now.grid c.args.serving.now.cap c.args.serving.now.journal c.args.asked.now c.args.control c.args.manager.now c.args.number
    c.calls_behind-calls.result c.plan_row.result c.if-number-calls.true c.calls_behind-calls.ensures.value c.plan_row.ensures.plans

pub returns-then-number-calls-2-clause-plans : goal.returns-then-number-calls-2-clause-plans
returns-then-number-calls-2-clause-plans g c =
    row_there c.args.serving.now.grid c.args.serving.now.cap c.args.serving.now.journal c.args.asked.now c.args.control c.args.manager.now c.args.number
    c.calls_behind-calls.result c.unasked.result c.if-number-calls-2.true c.calls_behind-calls.ensures.value c.unasked.ensures.0 c.unasked.ensures.1
