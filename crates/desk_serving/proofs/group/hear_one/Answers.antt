use Rattle.desk_serving.proofs.Goes.{fails_behind, goes_further}
use Rattle.std.proofs.Common.{◌∙◌}
use Rattle.desk_serving.proofs.Daily.{day_as}
use Rattle.desk_serving.proofs.Groups.{taken_up}
use Rattle.desk_serving.proofs.group.hear_one.Goals as goal

pub returns-in-Err-hear_next-clause-fails : goal.returns-in-Err-hear_next-clause-fails
returns-in-Err-hear_next-clause-fails g c =
    fails_behind g.D.Tape.seen g.D.Tape.may_leave g.D.Tape.unsynced g.D.Failures.failure_count c.args.hall.now.serving c.catch_up.new.hall.serving
    c.hear_next.new.hall.serving c.in-Err-hear_next.fault c.in_default.ensures.goes c.in-Err-hear_next.ensures.fails

pub catch_up-requires-clause-ready : goal.catch_up-requires-clause-ready
catch_up-requires-clause-ready g c = c.requires.ready

pub catch_up-requires-clause-dated : goal.catch_up-requires-clause-dated
catch_up-requires-clause-dated g c = c.requires.dated

pub hear_next-requires-clause-ready : goal.hear_next-requires-clause-ready
hear_next-requires-clause-ready g c = c.in_default.ensures.goes.is_ready

pub hear_next-requires-clause-told : goal.hear_next-requires-clause-told
hear_next-requires-clause-told g c = c.in_default.ensures.told

pub hear_next-requires-clause-dated : goal.hear_next-requires-clause-dated
hear_next-requires-clause-dated g c =
    day_as c.args.hall.now.today c.catch_up.new.hall.today c.args.entry.now (g.K.Replaced.may_leave c.args.seals.now) c.requires.dated c.catch_up.ensures.day

pub returns-in-Ok-clause-taken : goal.returns-in-Ok-clause-taken
returns-in-Ok-clause-taken g c =
    taken_up c.args.hall.now c.catch_up.new.hall c.hear_next.new.hall c.args.one.now c.in-Ok.taking c.goes_on.result c.in_default.ensures.caught
    c.in-Ok.ensures.taken c.goes_on.ensures

pub returns-in-Ok-clause-goes : goal.returns-in-Ok-clause-goes
returns-in-Ok-clause-goes g c =
    goes_further g.D.Tape.seen g.D.Tape.may_leave g.D.Tape.unsynced g.D.Failures.failure_count c.args.hall.now.serving c.catch_up.new.hall.serving
    c.hear_next.new.hall.serving c.in_default.ensures.goes c.in-Ok.ensures.goes

pub returns-in-Err-clause-fails : goal.returns-in-Err-clause-fails
returns-in-Err-clause-fails g c = c.in-Err.ensures.fails

pub returns-in-Err-clause-memory : goal.returns-in-Err-clause-memory
returns-in-Err-clause-memory g c = c.catch_up.ensures.day

pub returns-in-Err-hear_next-clause-memory : goal.returns-in-Err-hear_next-clause-memory
returns-in-Err-hear_next-clause-memory g c = c.in-Err-hear_next.ensures.memory ∙ c.catch_up.ensures.day
