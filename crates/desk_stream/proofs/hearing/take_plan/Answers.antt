use Rattle.std.proofs.Common.{sym, ◌∙◌}
use Rattle.desk_stream.proofs.Hears.{planned, when_ok}
use Rattle.desk_stream.proofs.hearing.take_plan.Goals as goal

pub returns-clause-planned : goal.returns-clause-planned
returns-clause-planned g c =
    let more = when_ok c.add.result _ (sym c.is_err.ensures.value ∙ c.if-is_err.false) c.add.ensures.more in
    planned c.args.flights.now c.args.serving.now c.args.pending.now _ c.args.called.now c.args.desk.now c.args.plan.now c.requires.waiting c.requires.session
    c.requires.plans c.requires.right more.0 more.1 c.pass_if.ensures c.journal.ensures.small
