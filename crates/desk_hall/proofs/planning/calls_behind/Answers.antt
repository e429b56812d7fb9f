use Rattle.desk_hall.proofs.Planned.{calls_more}
use Rattle.desk_hall.proofs.planning.calls_behind.Goals as goal

pub returns-clause-value : goal.returns-clause-value
returns-clause-value g c =
    calls_more c.args.serving.now.grid c.args.session c.calls_of.result c.asked_in.result c.args.serving.now.journal c.args.asked.now
    c.calls_of.ensures.value c.asked_in.ensures.value
